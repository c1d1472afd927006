use Rattle.placing.specs.code.Crowding.{FurthestOf}
use Rattle.placing.proofs.crowding.top_left.Given as goal

abbrev pub invariant-loop-reach : goal.invariant-loop-reach
invariant-loop-reach l = FurthestOf l.reaches l.i l.reach-index l.furthest.0
