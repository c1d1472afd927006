-- Document 01, "List and sheet" and "What demand 3 counts": a sheet, what is read off its bytes, and the line of a refusal.
-- Assumes nothing.
use Rattle.std.specs.Prelude.{true, false, ◌&&◌, List, [], ◌∷◌, ◌++◌, ℕ, eqb, length, get_or, drop}
use Rattle.std.proofs.Math.Option.{Option, some, none}
use Rattle.placing.specs.declared.units.Place.{Place}
use Rattle.placing.specs.declared.units.Side.{Side}
use Rattle.placing.specs.declared.units.Side.TheVariants.{Number, Free}
use Rattle.placing.specs.rules.Answer.{Answer, side_number}
use Rattle.plan.specs.rules.Text.{tab, line_feed, parted, fields_of, decimal, number_in, same_bytes}
use Rattle.plan.specs.rules.List.{Site, place_in, list_line}

-- ---- a sheet

-- "The word side", "the word free".
abbrev pub side_word : List ℕ
side_word = 115 ∷ 105 ∷ 100 ∷ 101 ∷ []

abbrev pub free_word : List ℕ
free_word = 102 ∷ 114 ∷ 101 ∷ 101 ∷ []

-- "A side, which is a whole number or the word free."
abbrev pub side_text : Side → List ℕ
side_text (Number side) = decimal side.0
side_text Free = free_word

-- The side of a number that is read.
abbrev pub numbered_side : Option ℕ → Option Side
numbered_side none = none
numbered_side (some h) = some (Number (record { 0 = h }))

-- A side as it is written: the word free, or a number.
abbrev pub side_in : List ℕ → Option Side
side_in text = elim (same_bytes text free_word) [ true ↦ some Free | false ↦ numbered_side (number_in text) ]

-- "First the word side, a tab, and a side."
abbrev pub side_line : Side → List ℕ
side_line side = side_word ++ (tab ∷ side_text side)

-- "Then one line for each site in list order: name, x, y, corner."
abbrev pub site_line : Site → ℕ → List ℕ
site_line site corner = list_line site ++ (tab ∷ decimal corner)

unfoldable pub site_lines : List Site → List ℕ → List ℕ
site_lines [] corners = []
site_lines (site ∷ sites) [] = []
site_lines (site ∷ sites) (corner ∷ corners) = site_line site corner ++ (line_feed ∷ site_lines sites corners)

-- The sheet of some sites with an answer, which has a corner for each of them.
unfoldable pub sheet_with : List Site → Answer → List ℕ
sheet_with sites answer = side_line answer.side ++ (line_feed ∷ site_lines sites answer.corners)

-- ---- what is read off the bytes of a sheet

-- All parts but the last.
abbrev pub but_last : List (List ℕ) → List (List ℕ)
but_last [] = []
but_last (part ∷ []) = []
but_last (part ∷ next ∷ parts) = part ∷ but_last (next ∷ parts)

-- The lines of a sheet, each ended by a line feed: what stands behind the last line feed, nothing in a sheet, is no line.
abbrev pub lines_of : List ℕ → List (List ℕ)
lines_of sheet = but_last (parted line_feed sheet)

-- The side in the fields of a first line. None where the fields are others or the second writes none.
abbrev pub side_on_fields : List (List ℕ) → Option Side
side_on_fields fields =
    elim (eqb (length fields) 2 && same_bytes (get_or fields 0 []) side_word) [ true ↦ side_in (get_or fields 1 []) | false ↦ none ]

-- "The side it prints", on the first line.
abbrev pub side_on : List ℕ → Option Side
side_on sheet = side_on_fields (fields_of (get_or (lines_of sheet) 0 []))

-- "Its number is the side it prints": where that is a number, and not free.
abbrev pub number_printed : Option Side → Option ℕ
number_printed none = none
number_printed (some side) = side_number side

abbrev pub number_on : List ℕ → Option ℕ
number_on sheet = number_printed (side_on sheet)

-- The place that each line writes. Where a second or third field is missing or no number it has a 0; no written sheet has such a line.
unfoldable pub spots_on_lines : List (List ℕ) → List Place
spots_on_lines [] = []
spots_on_lines (line ∷ lines) = place_in (fields_of line) ∷ spots_on_lines lines

-- "Its spots are the x and y on the site lines under it."
abbrev pub spots_on : List ℕ → List Place
spots_on sheet = spots_on_lines (drop 1 (lines_of sheet))

-- Fields put together again, with a tab between each two.
abbrev pub joined : List (List ℕ) → List ℕ
joined [] = []
joined (field ∷ []) = field
joined (field ∷ next ∷ fields) = field ++ (tab ∷ joined (next ∷ fields))

-- "Leaving out the first line and, of each other line, the last field with the tab before it gives the list back."
unfoldable pub carried_lines : List (List ℕ) → List ℕ
carried_lines [] = []
carried_lines (line ∷ lines) = joined (but_last (fields_of line)) ++ (line_feed ∷ carried_lines lines)

abbrev pub carried : List ℕ → List ℕ
carried sheet = carried_lines (drop 1 (lines_of sheet))

-- ---- the line of a refusal

-- "A refusal is written as the word refused, a tab, the number, a line feed."
abbrev pub refused_word : List ℕ
refused_word = 114 ∷ 101 ∷ 102 ∷ 117 ∷ 115 ∷ 101 ∷ 100 ∷ []

abbrev pub refusal_line : ℕ → List ℕ
refusal_line number = refused_word ++ (tab ∷ decimal number) ++ (line_feed ∷ [])
