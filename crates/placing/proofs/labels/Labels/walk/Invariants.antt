use Rattle.placing.specs.code.Asks.{MayWalk}
use Rattle.placing.proofs.labels.Labels.walk.Given as goal

abbrev pub invariant-loop-i : goal.invariant-loop-i
invariant-loop-i l = MayWalk l.self l.state l.marks l.i
