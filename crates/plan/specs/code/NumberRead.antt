-- What reading a number hands back, and the coordinate and the side that it is.
-- Assumes nothing.
use Rattle.std.specs.Prelude.{true, false, ℕ, leb, Option, Some, None, unwrap_or}
use Rattle.std.proofs.Math.Option as maybe
use Rattle.std.proofs.Math.Option.{some, none}
use Rattle.placing.specs.declared.units.Side.{Side}
use Rattle.placing.specs.declared.units.Side.TheVariants.{Number}
use Rattle.placing.specs.declared.units.Units.{Units}

-- The number that is written, where one is and it is at most `most`.
abbrev pub number_read : ℕ → maybe.Option ℕ → Option ℕ
number_read most none = None
number_read most (some n) = elim (leb n most) [ true ↦ Some n | false ↦ None ]

-- As a coordinate.
abbrev pub coordinate_of : Option ℕ → Option Units
coordinate_of (Some n) = Some (record { 0 = n })
coordinate_of None = None

-- As a given side.
abbrev pub side_of : Option ℕ → Side
side_of number = Number (record { 0 = unwrap_or number 0 })
