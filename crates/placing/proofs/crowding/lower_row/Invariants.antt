use Prim.Native.Nat.{◌+◌}
use Rattle.std.specs.Prelude.{length}
use Rattle.placing.specs.code.Pairs.{PairsBelow, ReachesOver}
use Rattle.placing.proofs.crowding.lower_row.Given as goal

abbrev pub invariant-loop-j : goal.invariant-loop-j
invariant-loop-j l = ReachesOver l.sites l.top.0 (PairsBelow l.i (l.i + 1 + length l.yielded)) l.reaches
