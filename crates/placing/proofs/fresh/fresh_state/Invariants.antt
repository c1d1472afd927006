use Rattle.placing.specs.code.Fresh.{OpenedBelow}
use Rattle.placing.proofs.fresh.fresh_state.Given as goal

abbrev pub invariant-loop-at : goal.invariant-loop-at
invariant-loop-at l = OpenedBelow l.crowding l.side.0 l.at l.opens
