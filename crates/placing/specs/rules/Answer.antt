-- Document 01, "The answer", and document 02, L1: the first good choice at a given side; each by a way of placing (L2).
-- Assumes nothing.
use Rattle.std.specs.Prelude.{◌≡◌, Bool, true, ◌&&◌, List, ℕ, ◌≤◌, ◌<◌, leb}
use Rattle.std.proofs.Math.Option.{Option, none, some}
use Rattle.placing.specs.declared.units.Place.{Place}
use Rattle.placing.specs.declared.units.Side.{Side}
use Rattle.placing.specs.declared.units.Side.TheVariants.{Number, Free}
use Rattle.placing.specs.declared.way.Way.{Way}
use Rattle.placing.specs.rules.Units.{greatest_side, free_side}
use Rattle.placing.specs.rules.Choice.{Good, First}

-- A side with its corners, one for each site in list order.
pub record Answer : Type 0 where
  pub side : Side
  pub corners : List ℕ

-- The number of half units that a side carries, where it is a number and not free.
abbrev pub side_number : Side → Option ℕ
side_number (Number side) = some side.0
side_number Free = none

-- Document 02, L1: "A given side is from 1 to 20,000, or free, which is judged at 20,001."
abbrev pub is_side : Side → Bool
is_side (Number side) = leb 1 side.0 && leb side.0 greatest_side
is_side Free = true

abbrev pub judged_at : Side → ℕ
judged_at (Number side) = side.0
judged_at Free = free_side

-- The answer of a side h, and the answer free.
abbrev pub numbered : ℕ → List ℕ → Answer
numbered h cs = record { side = Number (record { 0 = h }); corners = cs }

abbrev pub free : List ℕ → Answer
free cs = record { side = Free; corners = cs }

-- "If a good choice exists at 20,001, .. the answer is free, with the first good choice at 20,001. Otherwise it is the greatest h that
-- has a good choice, with the first good choice there." The first premise of a number is the document's "Otherwise". L2: "Free and first
-- mean what they do now", and above the spot the side is "the greatest that anybody can have under those two corners".
pub data IsAnswer (way : Way) (ps : List Place) : Answer → Type 0 where
  is_free : {cs : List ℕ} → First way free_side ps cs → IsAnswer way ps (free cs)
  is_number : {h : ℕ} {cs : List ℕ} → ((es : List ℕ) → Good way free_side ps es → ⊥) → 1 ≤ h → h ≤ greatest_side → First way h ps cs
      → ((k : ℕ) → h < k → (es : List ℕ) → Good way k ps es → ⊥) → IsAnswer way ps (numbered h cs)

-- L1, "choosing the first good choice at a given side": that side with these corners. L2 adds "a second way to find a side and to choose
-- corners at a side".
pub record IsChosen (way : Way) (ps : List Place) (answer : Answer) : Type 0 where
  pub given : is_side answer.side ≡ true
  pub first : First way (judged_at answer.side) ps answer.corners
