-- The sheet of some sites by a way of placing, and what the placing program writes for a text: at the side found, and at a given side.
-- Assumes nothing.
use Rattle.std.specs.Prelude.{Bool, List, ℕ}
use Rattle.placing.specs.declared.units.Side.{Side}
use Rattle.placing.specs.declared.way.Way.{Way}
use Rattle.placing.specs.rules.Answer.{judged_at}
use Rattle.placing.specs.deciding.Answer.{first_good, answer_of, is_some, chosen_at}
use Rattle.plan.specs.rules.Refusal.{number_of, Result, accepted, refused}
use Rattle.plan.specs.rules.List.{Site, places_of}
use Rattle.plan.specs.rules.Sheet.{sheet_with, refusal_line}
use Rattle.plan.specs.rules.Calls.{to_place, to_place_at}
use Rattle.plan.specs.deciding.Reading.{read_list}

-- The sheet with the answer for the places of the sites,
unfoldable pub sheet_of : Way → List Site → List ℕ
sheet_of way sites = sheet_with sites (answer_of way (places_of sites))

-- and with the first good choice at a side.
unfoldable pub sheet_at : Way → Side → List Site → List ℕ
sheet_at way side sites = sheet_with sites (chosen_at way side (places_of sites))

-- "Writes the sheet on standard output", or the refusal.
abbrev pub output_for : (List Site → List ℕ) → Result (List Site) → List ℕ
output_for sheet-of (accepted sites) = sheet-of sites
output_for sheet-of (refused why) = refusal_line (number_of why)

-- The output for a text.
unfoldable pub output_of : Way → List ℕ → List ℕ
output_of way text = output_for (sheet_of way) (to_place (read_list text))

-- A good choice exists for some sites at a side.
abbrev pub exists_at : Way → Side → List Site → Bool
exists_at way side sites = is_some (first_good way (judged_at side) (places_of sites))

-- The output for a text at a given side.
unfoldable pub output_at : Way → Side → List ℕ → List ℕ
output_at way side text = output_for (sheet_at way side) (to_place_at side (exists_at way side) (read_list text))
