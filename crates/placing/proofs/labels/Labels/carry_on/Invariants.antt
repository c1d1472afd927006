use Rattle.placing.specs.code.Labels.{count_of, problem_of}
use Rattle.placing.specs.code.Marks.{unmarked_below}
use Rattle.placing.specs.code.CarryOn.{CarryingOn}
use Rattle.placing.proofs.labels.Labels.carry_on.Given as goal

abbrev pub invariant-loop-k : goal.invariant-loop-k
invariant-loop-k l = CarryingOn (problem_of l.self) l.from l.initial.state l.state l.marks

abbrev pub decreases-loop-k : goal.decreases-loop-k
decreases-loop-k l = unmarked_below (count_of l.self) l.marks
