-- Document 02, L3: how far two labels grow.
-- Assumes nothing.
use Rattle.std.proofs.Math.Option.{Option, none, some}
use Rattle.std.specs.Prelude.{ℕ, ◌*◌, ◌<◌}
use Rattle.placing.specs.declared.units.Growth.{Growth}
use Rattle.placing.specs.declared.units.Growth.TheVariants.{UpTo, Never}
use Rattle.placing.specs.declared.units.HalfUnits.{HalfUnits}
use Rattle.placing.specs.declared.units.Place.{Place}
use Rattle.placing.specs.rules.Label.{Meet}

-- "For two labels with their corners, the greatest side at which they do not meet, or never where they face away": the label at corner c of
-- site s and the label at corner e of site t. Here a side may be 0, at which no labels meet.
pub data Grows (s : Place) (c : ℕ) (t : Place) (e : ℕ) : Growth → Type 0 where
  grows_up_to : {g : HalfUnits} → (Meet g.0 1 s c t e → ⊥) → ((h : ℕ) → g.0 < h → Meet h 1 s c t e) → Grows s c t e (UpTo g)
  never : ((h : ℕ) → Meet h 1 s c t e → ⊥) → Grows s c t e Never

-- The number of half units that a growth carries, where it is a number and not never.
abbrev pub growth_number : Growth → Option ℕ
growth_number (UpTo g) = some g.0
growth_number Never = none

-- A side exceeds a growth: "everything that used the yes or no now compares the side with it". The side is p/q, with a number g that is
-- p > g × q; no side exceeds never.
pub data Exceeds (p q : ℕ) : Growth → Type 0 where
  beyond : {g : HalfUnits} → g.0 * q < p → Exceeds p q (UpTo g)
