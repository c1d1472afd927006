use Rattle.placing.specs.search.State.{Only}
use Rattle.placing.specs.code.Labels.{problem_of}
use Rattle.placing.specs.code.Carry.{CarriedBelow}
use Rattle.placing.proofs.labels.Labels.carry_corner.Given as goal

abbrev pub invariant-loop-j : goal.invariant-loop-j
invariant-loop-j l = CarriedBelow (problem_of l.self) (Only l.e) l.initial.state l.k l.j l.state
