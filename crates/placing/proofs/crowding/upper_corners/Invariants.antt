use Rattle.placing.specs.code.Crowding.{UpperBelow}
use Rattle.placing.proofs.crowding.upper_corners.Given as goal

abbrev pub invariant-loop-at : goal.invariant-loop-at
invariant-loop-at l = UpperBelow l.furthest.0 l.at l.reaches
