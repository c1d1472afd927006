use Rattle.placing.specs.code.Asks.{MayDecide}
use Rattle.placing.specs.code.Labels.{problem_of}
use Rattle.placing.specs.code.Walking.{RefusedUpTo}
use Rattle.placing.proofs.labels.Labels.choose_corner.Given as goal

abbrev pub invariant-loop-e : goal.invariant-loop-e
invariant-loop-e l = MayDecide l.self l.state l.marks l.i × RefusedUpTo (problem_of l.self) l.state.opens l.i l.e
