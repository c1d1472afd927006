-- What the words behind the program's name ask for.
-- Assumes nothing.
use Rattle.std.specs.Prelude.{Bool, true, false, ◌&&◌, [], ◌∷◌, ℕ, zero, suc, leb, get_or, Option, None, Some}
use Rattle.placing.specs.declared.units.Side.{Side}
use Rattle.placing.specs.declared.units.Side.TheVariants.{Number, Free}
use Rattle.placing.specs.declared.way.Way.{Way}
use Rattle.placing.specs.declared.way.Way.TheVariants.{Usual, Above}
use Rattle.plan.specs.rules.Text.{same_bytes}
use Rattle.plan.specs.rules.Sheet.{side_in}
use Rattle.plan.specs.calls.Given.{side_by_word}
use Rattle.place.specs.declared.asked.How.{How}
use Rattle.desk.specs.declared.Word.{Word}
use Rattle.desk.specs.Words.{bytes_in}

-- It is the word above.
abbrev pub is_above : Word → Bool
is_above word = same_bytes (bytes_in word) (97 ∷ 98 ∷ 111 ∷ 118 ∷ 101 ∷ [])

-- To place, or to be told the usage.
abbrev pub Task : Type 0
Task = Option How

-- To place by a way, at a given side, or at the one that is found.
abbrev pub place_by : Way → Option Side → Task
place_by way at = Some (record { way = way; at = at })

-- To place at free; or at the side that a word writes where its first byte is a digit; else to be told the usage.
abbrev pub task_for : Way → Side → (first : ℕ) → Task
task_for way Free first = place_by way (Some Free)
task_for way (Number side) first = elim (leb 48 first && leb first 57) [ true ↦ place_by way (Some (Number side)) | false ↦ None ]

abbrev pub side_task : Way → Word → Task
side_task way word = task_for way (side_by_word (side_in (bytes_in word))) (get_or word.bytes 0 0)

-- By the number of words and the first two of them: nothing, `above`, `SIDE`, `above SIDE`.
abbrev pub task_of : ℕ → (one two : Word) → Task
task_of zero one two = place_by Usual None
task_of (suc zero) one two = elim (is_above one) [ true ↦ place_by Above None | false ↦ side_task Usual one ]
task_of (suc (suc zero)) one two = elim (is_above one) [ true ↦ side_task Above two | false ↦ None ]
task_of (suc (suc (suc words))) one two = None
