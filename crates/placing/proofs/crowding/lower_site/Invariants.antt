use Rattle.placing.specs.code.Pairs.{LoweredUpTo}
use Rattle.placing.proofs.crowding.lower_site.Given as goal

abbrev pub invariant-loop-e : goal.invariant-loop-e
invariant-loop-e l = LoweredUpTo l.i l.s l.t l.initial.reaches l.e l.reaches
