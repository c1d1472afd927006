use Rattle.placing.specs.search.Rows.{row_of}
use Rattle.placing.specs.code.Steps.{LeftUpTo}
use Rattle.placing.proofs.fresh.State.left_of.Given as goal

abbrev pub invariant-loop-e : goal.invariant-loop-e
invariant-loop-e l = LeftUpTo (row_of l.self.opens l.j) l.e l.left
