-- How far two labels grow, as a function, and whether a side exceeds that.
-- Assumes nothing.
use Rattle.std.specs.Prelude.{Bool, true, false, ℕ, ◌-◌, ◌*◌, max, leb, ltb}
use Rattle.placing.specs.declared.corner.Direction.{Direction}
use Rattle.placing.specs.declared.corner.Direction.TheVariants.{Up, Down}
use Rattle.placing.specs.declared.units.Growth.{Growth}
use Rattle.placing.specs.declared.units.Growth.TheVariants.{UpTo, Never}
use Rattle.placing.specs.declared.units.Place.{Place}
use Rattle.placing.specs.rules.Units.{Axis, X, Y, along, in_half_units, dist}
use Rattle.placing.specs.rules.Corner.{toward}

-- The growth of so many half units.
abbrev pub up_to : ℕ → Growth
up_to g = UpTo (record { 0 = g })

-- Opposite directions: the place of the label that goes down the axis minus the place of the one that goes up it; never where that is below
-- 0, since they face away.
abbrev pub facing_growth : (up down : ℕ) → Growth
facing_growth up down = elim (leb up down) [ true ↦ up_to (down - up) | false ↦ Never ]

-- Along one axis, of the label that goes direction d from a and the one that goes direction e from b. Same direction: twice the distance.
abbrev pub growth_along : (d : Direction) (a : ℕ) (e : Direction) (b : ℕ) → Growth
growth_along Up a Up b = up_to (in_half_units (dist a b))
growth_along Down a Down b = up_to (in_half_units (dist a b))
growth_along Up a Down b = facing_growth a b
growth_along Down a Up b = facing_growth b a

-- Of both axes: never if either is never, else the larger.
abbrev pub further_of : Growth → Growth → Growth
further_of Never y = Never
further_of (UpTo x) Never = Never
further_of (UpTo x) (UpTo y) = up_to (max x.0 y.0)

-- Of the label at corner c of site s and the one at corner e of site t.
abbrev pub axis_growth : Place → ℕ → Place → ℕ → Axis → Growth
axis_growth s c t e axis = growth_along (toward axis c) (along axis s) (toward axis e) (along axis t)

abbrev pub growth_of : Place → ℕ → Place → ℕ → Growth
growth_of s c t e = further_of (axis_growth s c t e X) (axis_growth s c t e Y)

-- The side p/q exceeds a growth.
abbrev pub exceeds_test : (p q : ℕ) → Growth → Bool
exceeds_test p q (UpTo g) = ltb (g.0 * q) p
exceeds_test p q Never = false
