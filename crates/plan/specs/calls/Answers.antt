-- Document 01, "Calls on a plan": what each call hands back for every plan, refused or not, as the records and the results of the code.
-- Assumes nothing.
use Rattle.std.specs.Prelude.{true, false, List, [], ℕ, eqb, length, Ok, Err}
use Rattle.std.specs.Prelude as rattle
use Rattle.std.proofs.Math.Option.{Option, some, none}
use Rattle.placing.specs.declared.units.Side.{Side}
use Rattle.placing.specs.declared.way.Way.{Way}
use Rattle.placing.specs.rules.Answer.{Answer, side_number}
use Rattle.placing.specs.deciding.Answer.{answer_of, chosen_at}
use Rattle.plan.specs.declared.refusal.Refusal.{Refusal}
use Rattle.plan.specs.declared.plan.Plan.{Plan}
use Rattle.plan.specs.rules.Refusal.{number_of, Result, accepted, refused, after_tests}
use Rattle.plan.specs.rules.List.{Site, places_of, entered, wanted_at}
use Rattle.plan.specs.deciding.Output.{sheet_at, exists_at}
use Rattle.plan.specs.rules.Calls.{finding_tests, choosing_tests, before_choice, cleared, side_given, corner_given, length_given, filled_with, bytes_after, to_place, to_place_at}
use Rattle.plan.specs.deciding.Reading.{read_list}
use Rattle.plan.specs.calls.Plan.{unplaced_plan, placed_with, placed_plan, sites_in}

-- ---- the answers: a value, or why the call is refused

-- Entering, reading and choosing answer no value, finding and asking a side or a corner, writing the length of the sheet.
abbrev pub Outcome : Type 0
Outcome = rattle.Result (Unit {0}) Refusal

abbrev pub AskedSide : Type 0
AskedSide = rattle.Result Side Refusal

abbrev pub AskedCorner : Type 0
AskedCorner = rattle.Result ℕ Refusal

abbrev pub Written : Type 0
Written = rattle.Result ℕ Refusal

-- What entering, reading and choosing come to: the answer, and the plan afterwards.
pub record Planned : Type 0 where
  pub outcome : Outcome
  pub plan : Plan

-- ---- for each case the number of documents 01 and 02, 0 where the call is accepted, and the value it carries

-- Entering, reading and choosing carry no value beside the plan.
abbrev pub outcome_number : Outcome → ℕ
outcome_number (Ok done) = 0
outcome_number (Err why) = number_of why

-- The number of the answer when the side is asked, and what it carries: the number of its side, or free.
abbrev pub side_asked_number : AskedSide → ℕ
side_asked_number (Ok side) = 0
side_asked_number (Err why) = number_of why

abbrev pub side_carried : AskedSide → Option (Option ℕ)
side_carried (Ok side) = some (side_number side)
side_carried (Err why) = none

-- The number of the answer when a corner is asked, and the corner it carries.
abbrev pub corner_asked_number : AskedCorner → ℕ
corner_asked_number (Ok corner) = 0
corner_asked_number (Err why) = number_of why

abbrev pub corner_carried : AskedCorner → Option ℕ
corner_carried (Ok corner) = some corner
corner_carried (Err why) = none

-- The number of the answer of writing, and the length it carries.
abbrev pub written_number : Written → ℕ
written_number (Ok n) = 0
written_number (Err why) = number_of why

abbrev pub written_length : Written → Option ℕ
written_length (Ok n) = some n
written_length (Err why) = none

-- A value is carried exactly where the number is 0.
abbrev pub carried_at : {A : Type 0} → (number : ℕ) → A → Option A
carried_at number value = elim (eqb number 0) [ true ↦ some value | false ↦ none ]

-- ---- what each call hands back

-- Start: the plan of no sites.
abbrev pub started : Plan
started = unplaced_plan []

-- The plan that a call's value makes where it is accepted, and where it is refused another one.
abbrev pub handed : {A : Type 0} → (A → Plan) → Plan → Result A → Planned
handed plan-of other (accepted value) = record { outcome = Ok tt; plan = plan-of value }
handed plan-of other (refused why) = record { outcome = Err why; plan = other }

-- "Entering makes the plan unplaced"; refused, it hands back the plan as it came.
abbrev pub entered_in : Plan → List ℕ → ℕ → ℕ → Planned
entered_in plan name x y = handed unplaced_plan plan (entered (sites_in plan) (wanted_at name x y))

-- "Reading is all or nothing": refused, it "hands back an empty plan".
abbrev pub read_from : List ℕ → Planned
read_from text = handed unplaced_plan started (read_list text)

-- A side that is asked or found.
abbrev pub side_answer : Result Side → AskedSide
side_answer (accepted side) = Ok side
side_answer (refused why) = Err why

-- Finding the side by a way, and the table afterwards, which looks at the tests alone: it is the same by either way. L1: "Finding leaves the
-- plan as it was": it hands back none.
abbrev pub side_found : Plan → Way → List ℕ → Result Side
side_found plan way table = after_tests (finding_tests plan.count (length table)) (answer_of way (places_of (sites_in plan))).side

abbrev pub found_in : Plan → Way → List ℕ → AskedSide
found_in plan way table = side_answer (side_found plan way table)

abbrev pub table_found : Plan → List ℕ → List ℕ
table_found plan table = bytes_after (after_tests (finding_tests plan.count (length table)) plan) (cleared plan.count table) table

-- Choosing by a way at a given side: the side with the first good choice there. Then the plan, and the table afterwards.
abbrev pub chosen_for : Plan → Way → Side → List ℕ → Result Answer
chosen_for plan way side table =
    after_tests (choosing_tests side plan.count (length table) (exists_at way side (sites_in plan))) (chosen_at way side (places_of (sites_in plan)))

abbrev pub chosen_in : Plan → Way → Side → List ℕ → Planned
chosen_in plan way side table = handed (placed_with (sites_in plan) way) plan (chosen_for plan way side table)

abbrev pub table_chosen : Plan → Side → List ℕ → List ℕ
table_chosen plan side table =
    bytes_after (after_tests (before_choice side plan.count (length table)) side) (cleared plan.count table) table

-- L1: "The plan remembers the side it was placed at, and the sheet prints that one": that side with the first good choice there, by the way
-- that it was placed.
abbrev pub answer_for : Plan → Answer
answer_for plan = chosen_at plan.way plan.side (places_of (sites_in plan))

-- Its sheet.
abbrev pub sheet_for : Plan → List ℕ
sheet_for plan = sheet_at plan.way plan.side (sites_in plan)

-- Asking the side.
abbrev pub side_asked : Plan → AskedSide
side_asked plan = side_answer (side_given plan.placed (answer_for plan))

-- Asking a corner.
abbrev pub corner_answer : Result ℕ → AskedCorner
corner_answer (accepted corner) = Ok corner
corner_answer (refused why) = Err why

abbrev pub corner_asked : Plan → ℕ → AskedCorner
corner_asked plan i = corner_answer (corner_given plan.placed plan.count (answer_for plan) i)

-- The count is the number of the sites entered.
abbrev pub counted : Plan → ℕ
counted plan = length (sites_in plan)

-- Writing; and the buffer afterwards.
abbrev pub written_answer : Result ℕ → Written
written_answer (accepted n) = Ok n
written_answer (refused why) = Err why

abbrev pub length_written : Plan → List ℕ → Result ℕ
length_written plan buffer = length_given plan.placed (sheet_for plan) buffer

abbrev pub written_in : Plan → List ℕ → Written
written_in plan buffer = written_answer (length_written plan buffer)

abbrev pub buffer_after : Plan → List ℕ → List ℕ
buffer_after plan buffer = bytes_after (length_written plan buffer) (filled_with (sheet_for plan) buffer) buffer

-- Reading a list and placing it by a way: where it is refused or has no sites, an empty plan.
abbrev pub list_placed : Way → List ℕ → Planned
list_placed way text = handed (placed_plan way) started (to_place (read_list text))

-- The same at a given side: an empty plan where there is no good choice, too.
abbrev pub placed_at : Way → Side → List Site → Plan
placed_at way side sites = placed_with sites way (chosen_at way side (places_of sites))

abbrev pub list_placed_at : Way → Side → List ℕ → Planned
list_placed_at way side text = handed (placed_at way side) started (to_place_at side (exists_at way side) (read_list text))
