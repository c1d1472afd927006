use Rattle.placing.specs.code.Marks.{MarkedBelow}
use Rattle.placing.proofs.fresh.State.mark.Given as goal

abbrev pub invariant-loop-j : goal.invariant-loop-j
invariant-loop-j l = MarkedBelow l.self l.initial.marks l.j l.marks
