-- A side that is given as a word, and the coordinate of a number.
-- Assumes nothing.
use Rattle.std.specs.Prelude.{true, false, ℕ, Option, Some, None}
use Rattle.std.proofs.Math.Option as maybe
use Rattle.std.proofs.Math.Option.{some, none}
use Rattle.placing.specs.declared.units.Side.{Side}
use Rattle.placing.specs.declared.units.Side.TheVariants.{Number}
use Rattle.placing.specs.declared.units.Units.{Units}
use Rattle.placing.specs.rules.Answer.{is_side}
use Rattle.plan.specs.rules.Text.{or_zero}
use Rattle.plan.specs.rules.List.{is_coordinate}

-- A word that is no side in range gives the number 0, which choosing refuses with 3.
abbrev pub side_by_word : maybe.Option Side → Side
side_by_word none = Number (record { 0 = 0 })
side_by_word (some side) = elim (is_side side) [ true ↦ side | false ↦ Number (record { 0 = 0 }) ]

-- The coordinate of a number that is written or given, where it is one: a number, in range.
abbrev pub coordinate_read : maybe.Option ℕ → Option Units
coordinate_read number = elim (is_coordinate number) [ true ↦ Some (record { 0 = or_zero number }) | false ↦ None ]

-- The number of units that it carries.
abbrev pub coordinate_number : Option Units → maybe.Option ℕ
coordinate_number (Some units) = some units.0
coordinate_number None = none
