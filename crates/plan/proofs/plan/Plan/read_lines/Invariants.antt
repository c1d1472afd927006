use Prim.Native.Nat.{◌-◌}
use lib.ListN.{length}
use Rattle.plan.specs.code.Reading.{Reading}
use Rattle.plan.proofs.plan.Plan.read_lines.Given as goal

abbrev pub invariant-loop-at : goal.invariant-loop-at
invariant-loop-at l = Reading l.text l.self l.at

abbrev pub decreases-loop-at : goal.decreases-loop-at
decreases-loop-at l = length l.text - l.at
