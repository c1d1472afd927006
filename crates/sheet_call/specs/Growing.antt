-- The call that tells how far two labels grow: what it gives and leaves for all numbers, over the definitions of crate growth.
-- Assumes nothing.
use Rattle.std.specs.Prelude.{true, false, ℕ, eqb, Ok, Err}
use Rattle.placing.specs.declared.units.Growth.{Growth}
use Rattle.placing.specs.declared.units.Growth.TheVariants.{UpTo, Never}
use Rattle.placing.specs.declared.units.Place.{Place}
use Rattle.placing.specs.rules.Growth.{Grows}
use Rattle.placing.specs.deciding.Growth.{up_to}
use Rattle.growth.specs.Asked.{AskedGrowth, HasLabel}

-- ---- the lent number

-- The number that stands for never, the greatest of 32 bits; a growth that is a number stands for itself.
abbrev pub never_number : ℕ
never_number = 4294967295

abbrev pub number_for : Growth → ℕ
number_for (UpTo g) = g.0
number_for Never = never_number

-- What the call leaves in the lent number: refused, what was there.
abbrev pub growth_left : AskedGrowth → ℕ → ℕ
growth_left (Ok growth) before = number_for growth
growth_left (Err why) before = before

-- ---- what the two numbers tell

-- The growth that the lent number then stands for.
abbrev pub growth_from : ℕ → Growth
growth_from number = elim (eqb number never_number) [ true ↦ Never | false ↦ up_to number ]

-- The call gives 0, and the lent number stands for how far the labels grow; or it gives 3, where a place is outside the range or a corner
-- is not 1 to 4, and the lent number is as it came.
pub data GrowthCalled (s : Place) (c : ℕ) (t : Place) (e : ℕ) (before : ℕ) : (number after : ℕ) → Type 0 where
  gives_0 : {after : ℕ} → HasLabel s c → HasLabel t e → Grows s c t e (growth_from after) → GrowthCalled s c t e before 0 after
  gives_3 : (HasLabel s c → HasLabel t e → ⊥) → GrowthCalled s c t e before 3 before
