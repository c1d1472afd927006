-- `State::take_corner` meets its contract.
-- Assumes nothing.
use mathlib.Core.List.{List}
use mathlib.Core.Path.{◌≡◌}
use Prim.Native.Nat.{ℕ, ◌+◌, ◌-◌, ◌*◌, ◌≤◌}
use lib.ListN.{length, replicate}
use borrow.Author.Rules.{rules}
use borrow.Rule.Slice.PartMut.{put_mid}
use Rattle.std.proofs.lemmas.List.{places}
use Rattle.placing.specs.code.Carry.{Cleared, taken-corner}
use Rattle.placing.proofs.fresh.State.take_corner.Goals as goal

-- Writing the four bytes of a site as 0 closes its corners.
cleared : (i : ℕ) (opens zeros : List ℕ) → 4 * i + 4 ≤ length opens → zeros ≡ replicate 4 0
    → Cleared i 4 opens (put_mid (4 * i) (4 * i + 4 - 4 * i) opens zeros)
cleared i opens zeros fits are =
    record {
      size = search (rules, places);
      there = λ k below. search (rules, places);
      earlier = λ m before. search (rules, places);
      later = λ m after. search (rules, places);
    }

pub returns : goal.returns
returns c =
    rw c.index_of-at.ensures
    (taken-corner (search rules) (search rules) c.requires.0 c.requires.1 (cleared c.args.i _ c.fill.new.self (search rules) (search rules)))
