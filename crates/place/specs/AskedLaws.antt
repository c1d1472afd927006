-- The word above is asked for by its five bytes alone, and a side by the bytes that a sheet writes for it.
-- Assumes nothing.
use Rattle.std.specs.Prelude.{◌≡◌, true, [], ◌∷◌}
use Rattle.std.proofs.Common.{ap, ◌∙◌}
use Rattle.placing.specs.declared.units.Side.{Side}
use Rattle.placing.specs.rules.Answer.{is_side}
use Rattle.plan.specs.rules.Sheet.{side_text, side_in}
use Rattle.plan.specs.calls.Given.{side_by_word}
use Rattle.plan.specs.theorems.Text.{same-bytes-same}
use Rattle.plan.specs.theorems.ReadOff.{side-in-text}
use Rattle.desk.specs.declared.Word.{Word}
use Rattle.desk.specs.Words.{bytes_in}
use Rattle.place.specs.Asked.{is_above}

-- Another word is not taken for it.
pub above_word : (word : Word) → is_above word ≡ true → bytes_in word ≡ 97 ∷ 98 ∷ 111 ∷ 118 ∷ 101 ∷ []
above_word word = same-bytes-same (bytes_in word) (97 ∷ 98 ∷ 111 ∷ 118 ∷ 101 ∷ [])

-- A side that can be given is asked for by what a sheet writes for it.
pub side-word : (side : Side) → is_side side ≡ true → side_by_word (side_in (side_text side)) ≡ side
side-word side given = ap side_by_word (side-in-text side) ∙ rw (given, side_by_word)
