-- Behind the first line stand the lines of the sites passed.
use Rattle.plan.specs.calls.Fields.{plan_of}
use Rattle.plan.specs.code.Composing.{Composed}
use Rattle.plan.proofs.plan.Plan.compose.Given as goal

abbrev pub invariant-loop-i : goal.invariant-loop-i
invariant-loop-i l = Composed (plan_of l.self-inside) l.page l.i
