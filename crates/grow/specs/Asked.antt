-- What six words ask for: x, y and corner of one label, then of the other.
-- Assumes nothing.
use Rattle.std.specs.Prelude.{true, false, ℕ, suc}
use Rattle.std.proofs.Math.Option.{Option}
use Rattle.desk.specs.declared.Word.{Word}
use Rattle.desk.specs.Words.{bytes_in}
use Rattle.placing.specs.declared.units.Place.{Place}
use Rattle.placing.specs.rules.Units.{greatest_coordinate}
use Rattle.plan.specs.rules.Text.{number_in, or_zero}
use Rattle.plan.specs.rules.List.{place_at, is_coordinate}
use Rattle.growth.specs.Asked.{AskedGrowth, growth_asked}
use Rattle.grow.specs.declared.asked.LabelWords.{LabelWords}

-- The number that a text writes, as in a list. One above 10,000 is no coordinate and no corner, and 10,001 stands for it; so it does for a
-- text that writes none.
abbrev pub outside : ℕ
outside = suc greatest_coordinate

abbrev pub number_or : Option ℕ → ℕ
number_or number = elim (is_coordinate number) [ true ↦ or_zero number | false ↦ outside ]

abbrev pub number_given : Word → ℕ
number_given word = number_or (number_in (bytes_in word))

abbrev pub place_given : LabelWords → Place
place_given label = place_at (number_given label.x) (number_given label.y)

abbrev pub growth_by_words : LabelWords → LabelWords → AskedGrowth
growth_by_words own other = growth_asked (place_given own) (number_given own.corner) (place_given other) (number_given other.corner)
