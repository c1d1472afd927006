-- Which sides a function can give. Assumes nothing.
use Rattle.std.specs.Prelude.{⊤, ℕ, ◌≤◌}
use Rattle.brute_force.specs.declared.side.Side.{Side}
use Rattle.brute_force.specs.declared.side.Side.TheVariants.{Number, Free}

-- A number from `least` to 20,000, or free.
abbrev pub IsSideFrom : ℕ → Side → Type 0
IsSideFrom least (Number h) = (least ≤ h) × (h ≤ 20000)
IsSideFrom least Free = ⊤
