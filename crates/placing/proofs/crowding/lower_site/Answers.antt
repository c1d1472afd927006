-- `crowding::lower_site` meets its contract. The loop's invariant: the first `e` reaches of the site are lowered.
-- Assumes nothing.
use native.Mathlib.Omega.{arith}
use Prim.Native.Nat.{◌+◌, ◌*◌}
use Rattle.placing.specs.code.Filled.{filled_more}
use Rattle.placing.proofs.crowding.lower_site.Goals as goal

pub loop-e-preserved : goal.loop-e-preserved
loop-e-preserved c =
    let so_far = c.loop-e.invariant in
    let same = so_far.later (4 * c.args.i + c.loop-e.e) (omega arith) in
    filled_more so_far (omega arith) (rw same at c.lowered-reach.ensures)
