-- The three demands: the whole claim, on one page. The contract of every call that can refuse, or writes, cites its part of it.
-- Assumes nothing.
use Rattle.std.specs.Prelude.{◌≡◌, true, false, List, [], ◌++◌, ◌⊎◌, ℕ, ◌+◌, ◌*◌, ◌≤◌, ◌<◌, length, take, drop, Option, Some, None, Ok, Err}
use Rattle.std.proofs.Math.Option.{some}
use Rattle.placing.specs.declared.units.Side.{Side}
use Rattle.placing.specs.declared.units.Side.TheVariants.{Free}
use Rattle.placing.specs.declared.way.Way.{Way}
use Rattle.placing.specs.declared.way.Way.TheVariants.{Usual, Above}
use Rattle.placing.specs.rules.Choice.{Corners, UpperCorners, MeetingPair, SomeGood}
use Rattle.placing.specs.rules.Answer.{Answer, is_side, judged_at, side_number, IsAnswer, IsChosen}
use Rattle.plan.specs.declared.list.RefusedLine.{RefusedLine}
use Rattle.plan.specs.declared.plan.Plan.{Plan}
use Rattle.plan.specs.rules.Refusal.{number_of, number_by, accepted}
use Rattle.plan.specs.rules.List.{Site, places_of, list_text, enter_tests, wanted_at, TextLine, FirstLine, line_tests, Reads}
use Rattle.plan.specs.rules.Sheet.{sheet_with, side_on, number_on, spots_on, carried, refusal_line}
use Rattle.plan.specs.deciding.Output.{output_of, exists_at, output_at}
use Rattle.plan.specs.rules.Calls.{finding_tests, choosing_tests, cleared, side_tests, corner_tests, write_tests}
use Rattle.plan.specs.calls.Plan.{unplaced_plan, placed_with, placed_plan, sites_in}
use Rattle.plan.specs.calls.Answers.{outcome_number, side_asked_number, corner_asked_number, written_number, sheet_for, started, AskedCorner, AskedSide, Written, Planned}

-- ---- demand 1: bad input is refused first, by its number, with plan and lent buffers as they were; all else ends in an answer

-- A call gives the number of the first row of its table whose test holds, and 0 where none does (`table-tells` of `theorems/Tables`: that
-- row's test holds and no earlier one's does). "A refusal hands back its number, the plan as it came, and every lent byte as it came."
pub record Refuses {Given : Type 0} (given number : ℕ) (before after : Given) : Type 0 where
  pub number_is : given ≡ number
  pub as_it_came : (given ≡ 0 → ⊥) → after ≡ before

-- Starting and counting refuse nothing. "Entering tests 2, 3, 7, 4, 5."
abbrev pub EnterTold : Plan → List ℕ → (x y : ℕ) → Planned → Type 0
EnterTold plan name x y r = Refuses (outcome_number r.outcome) (number_by (enter_tests (sites_in plan) (wanted_at name x y))) plan r.plan

-- "Placing tests 8, 11": so does finding the side, by either way of placing: L2 adds a second one "with the table and refusals of L1". It is
-- lent a work table, and the plan stays with the caller.
abbrev pub FindTold : Plan → List ℕ → AskedSide → List ℕ → Type 0
FindTold plan table r after =
    Refuses (side_asked_number r) (number_by (finding_tests plan.count (length table))) table after

-- L1, choosing at a given side: 3, 8, 11, 12, where 12 looks at the choices that count by the way. A refusal hands back the plan as it
-- came, and the table too; "12, unlike other refusals", leaves the table as choosing does.
pub record ChooseTold (plan : Plan) (way : Way) (side : Side) (table : List ℕ) (r : Planned) (after : List ℕ) : Type 0 where
  pub number_is : outcome_number r.outcome ≡ number_by (choosing_tests side plan.count (length table) (exists_at way side (sites_in plan)))
  pub plan_kept : (outcome_number r.outcome ≡ 0 → ⊥) → r.plan ≡ plan
  pub table_kept : (outcome_number r.outcome ≡ 0 → ⊥) → (outcome_number r.outcome ≡ 12 → ⊥) → after ≡ table
  pub table_cleared : (outcome_number r.outcome ≡ 0) ⊎ (outcome_number r.outcome ≡ 12) → after ≡ cleared plan.count table

-- Asking the side tests 9; it is lent nothing, and the plan stays with the caller.
abbrev pub SideTold : Plan → AskedSide → Type 0
SideTold plan r = side_asked_number r ≡ number_by (side_tests plan.placed)

-- "Asking a corner tests 9, 6."
abbrev pub CornerTold : Plan → ℕ → AskedCorner → Type 0
CornerTold plan i r = corner_asked_number r ≡ number_by (corner_tests plan.placed plan.count i)

-- "Writing tests 9, 10": it is lent a buffer.
abbrev pub WriteTold : Plan → List ℕ → Written → List ℕ → Type 0
WriteTold plan buffer r after =
    Refuses (written_number r) (number_by (write_tests plan.placed (sheet_for plan) buffer)) buffer after

-- "Reading does so line after line with 1 before 2, and stops at the first refused line." Counted from 1, that is the line behind
-- those of the sites before it, which are accepted; its number is that of the first row of a line's table whose test holds there.
pub record FirstRefused (text : List ℕ) (number : ℕ) : Type 0 where
  pub line_number : ℕ
  pub before : List Site
  pub rest : List ℕ
  pub line : TextLine
  pub line_number_is : line_number ≡ length before + 1
  pub parts : text ≡ list_text before ++ rest
  pub accepted_before : Reads [] (list_text before) (accepted before)
  pub line_is : FirstLine rest line
  pub some_number : 1 ≤ number
  pub number_is : number ≡ number_by (line_tests before line)

-- A list of which every line is accepted: the plan has a site for each.
pub record AllRead (text : List ℕ) (plan : Plan) : Type 0 where
  pub sites : List Site
  pub read : Reads [] text (accepted sites)
  pub every_line : list_text sites ≡ text
  pub plan_is : plan ≡ unplaced_plan sites

-- "Reading is all or nothing": refused, it "hands back an empty plan".
pub data ReadTold (text : List ℕ) (r : Planned) : Type 0 where
  read_refused : FirstRefused text (outcome_number r.outcome) → r.plan ≡ started → ReadTold text r
  read_all : AllRead text r.plan → outcome_number r.outcome ≡ 0 → ReadTold text r

-- Where reading stops, for whoever asks: at that line, by its number and the place where it starts, and for that refusal ..
pub record StopsAt (text : List ℕ) (stop : RefusedLine) : Type 0 where
  pub first : FirstRefused text (number_of stop.why)
  pub number_is : stop.number ≡ first.line_number
  pub starts : drop stop.at text ≡ first.rest

-- .. or nowhere, where every line is accepted.
pub data StopTold (text : List ℕ) : Option RefusedLine → Type 0 where
  at_a_line : {stop : RefusedLine} → StopsAt text stop → StopTold text (Some stop)
  at_no_line : {sites : List Site} → Reads [] text (accepted sites) → StopTold text None

-- A list that is accepted and has some sites.
pub record Accepts (text : List ℕ) (sites : List Site) : Type 0 where
  pub read : Reads [] text (accepted sites)
  pub some_sites : 1 ≤ length sites

-- Every other list is refused, with a number: that of its first refused line, or 8. "An empty text is a list of no sites."
pub data ListRefused (text : List ℕ) : ℕ → Type 0 where
  at_line : {number : ℕ} → FirstRefused text number → ListRefused text number
  of_no_sites : text ≡ [] → ListRefused text 8

-- Reading a list and placing it by a way.
pub data ListTold (way : Way) (text : List ℕ) (r : Planned) : Type 0 where
  list_refused : ListRefused text (outcome_number r.outcome) → r.plan ≡ started → ListTold way text r
  list_is_placed : (sites : List Site) → Accepts text sites → outcome_number r.outcome ≡ 0 → r.plan ≡ placed_plan way sites
      → ListTold way text r

-- L1: the same at a given side. 3 is tested first, before any line of the list; 12 after 8.
pub data RefusedAt (way : Way) (side : Side) (text : List ℕ) : ℕ → Type 0 where
  out_of_range : is_side side ≡ false → RefusedAt way side text 3
  refused_list : is_side side ≡ true → {number : ℕ} → ListRefused text number → RefusedAt way side text number
  none_good : is_side side ≡ true → (sites : List Site) → Accepts text sites → (SomeGood way (judged_at side) (places_of sites) → ⊥)
      → RefusedAt way side text 12

pub data ListToldAt (way : Way) (side : Side) (text : List ℕ) (r : Planned) : Type 0 where
  is_refused_at : RefusedAt way side text (outcome_number r.outcome) → r.plan ≡ started → ListToldAt way side text r
  list_is_placed_at : (sites : List Site) (corners : List ℕ) → Accepts text sites
      → IsChosen way (places_of sites) (record { side = side; corners = corners }) → outcome_number r.outcome ≡ 0
      → r.plan ≡ placed_with sites way (record { side = side; corners = corners }) → ListToldAt way side text r

-- ---- demand 3: at every side above twice the printed number, whole or fraction, any choice of corners has two labels that meet

-- "A rival is any list of corners, one for each of these lines, with any side p/q above twice the number, that is p > 2 × number × q.
-- For every rival, the labels of some two of these lines meet." Number and spots are read off the bytes.
pub record NoRival (sheet : List ℕ) : Type 0 where
  pub rivals_meet : (number p q : ℕ) → number_on sheet ≡ some number → 1 ≤ q → 2 * number * q < p
      → (corners : List ℕ) → Corners (length (spots_on sheet)) corners → MeetingPair p q (spots_on sheet) corners

-- ---- document 02, L2: what is guaranteed of a sheet placed above the spot only

-- "The side is therefore the greatest that anybody can have under those two corners, and that is to be proved, for fractions too." A rival
-- has corners 1 and 2, one for each line, with any side p/q greater than the number, that is p > number × q.
pub record NoRivalAbove (sheet : List ℕ) : Type 0 where
  pub rivals_meet : (number p q : ℕ) → number_on sheet ≡ some number → 1 ≤ q → number * q < p
      → (corners : List ℕ) → UpperCorners (length (spots_on sheet)) corners → MeetingPair p q (spots_on sheet) corners

-- What each way guarantees of a sheet: demand 3 the usual one, and "the twice-the-side guarantee over all four corners does not cover sheets
-- placed this way".
abbrev pub Guarantee : Way → List ℕ → Type 0
Guarantee Usual sheet = NoRival sheet
Guarantee Above sheet = NoRivalAbove sheet

-- ---- free, by either way

-- "If a good choice exists at 20,001, it is good at every side": where a sheet prints free, labels at its corners meet at no side, whole or
-- fraction. Side and spots are read off the bytes.
pub record FreeApart (sheet corners : List ℕ) : Type 0 where
  pub none_meet : side_on sheet ≡ some Free → (p q : ℕ) → MeetingPair p q (spots_on sheet) corners → ⊥

-- ---- demands 2 and 3 of the bytes of a sheet for some sites, by a way of placing

pub record RightSheet (way : Way) (sites : List Site) (sheet : List ℕ) : Type 0 where
  -- Demand 2: it prints the answer: "free, with the first good choice at 20,001. Otherwise it is the greatest h that has a good
  -- choice, with the first good choice there." L2: "Free and first mean what they do now."
  pub answer : Answer
  pub is_answer : IsAnswer way (places_of sites) answer
  pub prints : sheet ≡ sheet_with sites answer
  -- "Its number is the side it prints", exactly when that is a number, "its spots are the x and y on the site lines under it".
  pub number : number_on sheet ≡ side_number answer.side
  pub spots : spots_on sheet ≡ places_of sites
  -- "Leaving out the first line and, of each other line, the last field with the tab before it gives the list back",
  pub list : carried sheet ≡ list_text sites
  -- which, read again, gives the same sheet when placed the same way.
  pub again : output_of way (carried sheet) ≡ sheet
  pub free_apart : FreeApart sheet answer.corners
  -- Demand 3, or what stands for it above the spot.
  pub guarantee : Guarantee way sheet

-- ---- the same of a sheet at whatever side its plan was placed (document 02, L1 and L2)

-- "At the side found for that very plan": the printed side is that of the answer for the spots, by the plan's way; side and spots are read
-- off the bytes. L2, of "a side found this way": it "counts as a given one where four corners are chosen at it", since there the side found
-- the usual way is asked for.
pub record PrintsFound (way : Way) (sheet : List ℕ) : Type 0 where
  pub found : Answer
  pub is_answer : IsAnswer way (spots_on sheet) found
  pub printed : side_on sheet ≡ some found.side

pub record PlacedSheet (way : Way) (sites : List Site) (side : Side) (sheet : List ℕ) : Type 0 where
  -- "The plan remembers the side it was placed at, and the sheet prints that one", with the first good choice there by the way.
  pub corners : List ℕ
  pub is_chosen : IsChosen way (places_of sites) (record { side = side; corners = corners })
  pub prints : sheet ≡ sheet_with sites (record { side = side; corners = corners })
  pub prints_side : side_on sheet ≡ some side
  pub spots : spots_on sheet ≡ places_of sites
  pub list : carried sheet ≡ list_text sites
  -- L2: "The sheet keeps its form; its list gives the same sheet again when placed the same way at the same side", which is read off its
  -- bytes.
  pub again : (printed : Side) → side_on sheet ≡ some printed → output_at way printed (carried sheet) ≡ sheet
  pub free_apart : FreeApart sheet corners
  -- "That the side is the greatest, and the twice-the-side guarantee, then hold only at the side found": there it is right as said before.
  pub right_at_found : PrintsFound way sheet → RightSheet way sites sheet

-- "The sheet is what an accepted writing leaves in the buffer, from its first byte up to the length it gives."
abbrev pub SheetWritten : Way → List Site → Side → Written → List ℕ → Type 0
SheetWritten way sites side (Ok n) buffer = PlacedSheet way sites side (take n buffer)
SheetWritten way sites side (Err why) buffer = Unit {0}

-- ---- from a list to its output, by a way of placing: all three, with what stands for the third above the spot

-- A sheet for a list that is accepted, which it carries byte for byte.
pub record SheetFor (way : Way) (text sheet : List ℕ) : Type 0 where
  pub sites : List Site
  pub accepts : Accepts text sites
  pub right : RightSheet way sites sheet
  pub gives_back : carried sheet ≡ text

-- Every text has its answer: the line with the number, where it is refused, else its sheet.
pub data Answered (way : Way) (text output : List ℕ) : Type 0 where
  is_refusal_line : {number : ℕ} → ListRefused text number → output ≡ refusal_line number → Answered way text output
  list_sheet : SheetFor way text output → Answered way text output

-- L1: at a given side likewise.
pub record SheetForAt (way : Way) (side : Side) (text sheet : List ℕ) : Type 0 where
  pub sites : List Site
  pub accepts : Accepts text sites
  pub placed : PlacedSheet way sites side sheet
  pub gives_back : carried sheet ≡ text

pub data AnsweredAt (way : Way) (side : Side) (text output : List ℕ) : Type 0 where
  refusal_at : {number : ℕ} → RefusedAt way side text number → output ≡ refusal_line number → AnsweredAt way side text output
  is_sheet_at : SheetForAt way side text output → AnsweredAt way side text output
