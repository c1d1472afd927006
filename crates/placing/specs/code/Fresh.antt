-- The bytes of a state before anything is decided: which corners are open at a side, by their reaches.
-- Assumes nothing.
use Rattle.std.specs.Prelude.{◌≡◌, List, ℕ, ◌*◌, ◌≤◌, ◌<◌, length, get_or, replicate}
use Rattle.std.proofs.Math.Decide.{dec_le}
use Rattle.std.proofs.Common.{arith}
use Rattle.std.proofs.lemmas.List.{get_or-replicate}
use Rattle.placing.specs.declared.crowding.Crowding.{Crowding}
use Rattle.placing.specs.declared.fresh.State.{State}
use Rattle.placing.specs.declared.units.HalfUnits.{HalfUnits}
use Rattle.placing.specs.declared.units.Place.{Place}
use Rattle.placing.specs.declared.way.Way.{Way}
use Rattle.placing.specs.rules.Units.{most_sites}
use Rattle.placing.specs.rules.Corner.{Corner}
use Rattle.placing.specs.rules.Choice.{Allowed}
use Rattle.placing.specs.search.Rows.{index_of, row_of, row_at, open-corner}
use Rattle.placing.specs.search.State.{Fresh}
use Rattle.placing.specs.code.Labels.{problem}
use Rattle.placing.specs.code.Filled.{Filled, filled_front}
use Rattle.placing.specs.code.Pairs.{reach_at}
use Rattle.placing.specs.code.Crowding.{AllowedWithin, ReachesAre}

-- The byte of a corner with this reach: 1 where the doubled side is within it.
pub record OpenByte (reach side byte : ℕ) : Type 0 where
  pub opens : 2 * side ≤ reach → byte ≡ 1
  pub within : byte ≡ 1 → 2 * side ≤ reach

-- The first k bytes are written, over a list of zeros.
abbrev pub OpenedBelow : Crowding → ℕ → ℕ → List ℕ → Type 0
OpenedBelow crowding side k opens =
    Filled 0 (λ at byte. OpenByte (get_or crowding.reaches at 0) side byte) 0 k (replicate (4 * most_sites) 0) opens

-- The state at a side before anything is decided, for every n sites that have these reaches.
pub record FreshState (crowding : Crowding) (n : ℕ) (side : HalfUnits) (state : State) : Type 0 where
  pub fresh : (way : Way) (ps : List Place) → length ps ≡ n → 1 ≤ side.0 → side.0 ≤ crowding.top.0 → ReachesAre way ps crowding
      → Fresh (problem way side.0 ps) state.opens state.decided

module _ {way : Way} {ps : List Place} {top side i c reach byte : ℕ} (inside : side ≤ top) (known : AllowedWithin way ps top i c reach)
    (byte-is : OpenByte reach side byte) where
  -- An open corner is allowed,
  open_allowed : 1 ≤ side → byte ≡ 1 → Allowed way side ps i c
  open_allowed least one = known.allows side least inside (byte-is.within one)

  -- and one that is allowed is open.
  allowed_open : Allowed way side ps i c → byte ≡ 1
  allowed_open allowed = go (dec_le (2 * side) reach)
    where
      go : Dec (2 * side ≤ reach) → byte ≡ 1
      go (yes within) = byte-is.opens within
      go (no beyond) = absurd (known.shuts side inside (omega arith) allowed)

-- With the bytes of all sites written, and nothing decided, the state is fresh.
pub fresh-all : {crowding : Crowding} {n : ℕ} {side : HalfUnits} {opens : List ℕ} → n ≤ most_sites
    → OpenedBelow crowding side.0 (4 * n) opens
    → FreshState crowding n side (record { opens = opens; decided = replicate most_sites 0 })
fresh-all {crowding} {n} {side} {opens} few opened =
    record {
      fresh = λ way ps count least inside known.
          record {
            candidate = λ i c listed one.
                let corner = open-corner opens i c one in
                record {
                  corner = corner;
                  allowed = open_allowed inside (known.at_corner i c listed corner) (byte_at i c (rw count at listed) corner) least one;
                };
            all_open = λ i c listed candidate.
                allowed_open inside (known.at_corner i c listed candidate.corner) (byte_at i c (rw count at listed) candidate.corner)
                candidate.allowed;
            undecided = λ i listed. get_or-replicate most_sites i 0 0 (omega arith);
          };
    }
  where
    byte_at : (i c : ℕ) → i < n → Corner c → OpenByte (reach_at crowding.reaches i c) side.0 (row_of opens i c)
    byte_at i c listed corner = rw (row_at opens i c corner) (filled_front opened (index_of i c) (omega arith))
