-- `fresh::fresh_state` meets its contract. The loop's invariant: the bytes before `at` are written.
-- Assumes nothing.
use mathlib.Core.Path.{◌≡◌}
use native.Mathlib.Omega.{arith}
use Prim.Native.Nat.{◌*◌}
use Rattle.placing.specs.code.Fresh.{fresh-all}
use Rattle.placing.proofs.fresh.fresh_state.Goals as goal

pub returns : goal.returns
returns c =
    let end : c.loop-at.at ≡ 4 * c.args.n = omega arith in
    fresh-all c.requires.0 (rw end at c.loop-at.invariant)
