-- `crowding::upper_corners` meets its contract. The loop's invariant: the reaches before `at` are written.
-- Assumes nothing.
use native.Mathlib.Omega.{arith}
use Rattle.placing.specs.code.Crowding.{crowding-above}
use Rattle.placing.proofs.crowding.upper_corners.Goals as goal

pub returns : goal.returns
returns c =
    crowding-above _ c.doubled-furthest.ensures (omega arith) c.loop-at.invariant
