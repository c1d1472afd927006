-- What placing a list and writing its plan make of the list and a buffer, and what the number then tells: by a way or none, at the side
-- found and at a given side.
-- Assumes nothing.
use Rattle.std.specs.Prelude.{◌≡◌, None, Some, Ok, Err, Bool, false, ◌&&◌, ◌⊎◌, ℕ, ◌≤◌, ◌<◌, leb, ltb, length, take, drop}
use Rattle.std.proofs.Math.Path.{refl, ap}
use Rattle.std.proofs.Common.{sym, ◌∙◌, subst, inl, inr, arith, ltb-true, ne_eqb}
use Rattle.std.proofs.Math.Bool.{true}
use mathlib.Core.List.{List}
use Rattle.std.proofs.Math.Option.{some, none}
use Rattle.std.proofs.Math.Decide.{dec_lt}
use Rattle.std.proofs.lemmas.Bool.{lt-leb}
use Rattle.std.proofs.Math.Seq.{take-append_seam}
use Rattle.placing.specs.declared.units.Side.{Side}
use Rattle.placing.specs.declared.units.Side.TheVariants.{Number, Free}
use Rattle.placing.specs.declared.way.Way.{Way}
use Rattle.placing.specs.declared.way.Way.TheVariants.{Usual, Above}
use Rattle.placing.specs.rules.Units.{greatest_side}
use Rattle.placing.specs.rules.Answer.{Answer, is_side, IsChosen}
use Rattle.placing.specs.deciding.Answer.{answer_of, chosen_at}
use Rattle.placing.specs.theorems.Given.{is-chosen-at}
use Rattle.plan.specs.declared.plan.Plan.{Plan}
use Rattle.plan.specs.declared.refusal.Refusal.{Refusal}
use Rattle.plan.specs.declared.refusal.Refusal.TheVariants.{BadNumber, ShortBuffer}
use Rattle.plan.specs.rules.Refusal.{number_of, Result, accepted, refused, unless}
use Rattle.plan.specs.rules.List.{Site, places_of}
use Rattle.plan.specs.rules.Sheet.{sheet_with}
use Rattle.plan.specs.rules.Calls.{length_given, filled_with, bytes_after}
use Rattle.plan.specs.deciding.Output.{sheet_of, sheet_at, output_for, output_of, output_at}
use Rattle.plan.specs.calls.Lengths.{shortest_sheet, shortest_sheet_at}
use Rattle.plan.specs.calls.Plan.{placed_with}
use Rattle.plan.specs.calls.Answers.{Outcome, Written, Planned, started, handed, sheet_for, length_written, written_answer, written_in, buffer_after, list_placed, list_placed_at}
use Rattle.plan.specs.Demands.{ListRefused, RefusedAt, SheetFor, SheetForAt}
use Rattle.plan.specs.theorems.Tables.{number_small}
use Rattle.plan.specs.theorems.Reading.{reads-are, read-listed}
use Rattle.plan.specs.theorems.Plan.{sites-placed}
use Rattle.plan.specs.theorems.Sheet.{answer-listed, sheet-shortest, sheet-shortest-at}
use Rattle.plan.proofs.Guaranteed.{sheet-for, sheet-for-at}
use Rattle.plan.specs.theorems.Output.{
  ToPlace,
  not_placed,
  to_be_placed,
  text-to-place,
  ToPlaceAt,
  not_placed_at,
  is_placed_at,
  text-to-place-at,
}
use Rattle.sheet_call.specs.Call.{
  GivenWay,
  Called,
  refusal,
  sheet_in,
  called_for,
  called,
  called_at,
  free_number,
  side_of,
  way_of,
  Asked,
  by_no_way,
  at_found,
  at_given,
  CallRefused,
  is_refused,
  short_buffer,
  Told,
}

-- ---- writing what was placed

-- What comes of a list that was placed, by the outcome: the refusal, or the sheet of the plan.
abbrev pub planned_by : Outcome → Plan → List ℕ → Called
planned_by (Ok done) plan buffer = sheet_in (length_written plan buffer) (sheet_for plan) buffer
planned_by (Err why) plan buffer = refusal why buffer

abbrev pub planned_in : Planned → List ℕ → Called
planned_in planned buffer = planned_by planned.outcome planned.plan buffer

-- What writing answers and leaves in the buffer, as the call gives it.
abbrev pub as_called : Written → List ℕ → Called
as_called (Ok n) after = record { number = n; buffer = after }
as_called (Err why) after = refusal why after

-- The number of what comes of writing.
abbrev pub number_written : Written → ℕ
number_written (Ok n) = n
number_written (Err why) = number_of why

-- Where the outcome is no refusal, that is what comes.
pub write-calls : (planned : Planned) (buffer : List ℕ) {answer : Written} {after : List ℕ} → planned.outcome ≡ Ok tt
    → answer ≡ written_in planned.plan buffer → after ≡ buffer_after planned.plan buffer → planned_in planned buffer ≡ as_called answer after
write-calls planned buffer done answered left =
    ap (λ (o : Outcome). planned_by o planned.plan buffer) done
    ∙ by-room (length_written planned.plan buffer) (sheet_for planned.plan)
    ∙ sym (rw (answered, left))
  where
    by-room : (comes : Result ℕ) (sheet : List ℕ)
        → sheet_in comes sheet buffer ≡ as_called (written_answer comes) (bytes_after comes (filled_with sheet buffer) buffer)
    by-room (accepted n) sheet = refl
    by-room (refused why) sheet = refl

-- ---- a list, placed with an answer for its sites and written

-- What is to be placed of a list: a refusal, or sites for which this answer is chosen, with their sheet.
data Ready (asked : Asked) (way : Way) (answer-of : List Site → Answer) : Result (List Site) → Type 0 where
  not_ready : {why : Refusal} → asked.Refused (number_of why) → Ready asked way answer-of (refused why)
  ready : {sites : List Site} → IsChosen way (places_of sites) (answer-of sites) → asked.IsSheet (sheet_with sites (answer-of sites))
      → asked.shortest ≤ length (sheet_with sites (answer-of sites)) → Ready asked way answer-of (accepted sites)

-- What the contract of a call says of a number and of the buffer afterwards.
abbrev Meets : Asked → Called → (buffer : List ℕ) (number : ℕ) (after : List ℕ) → Type 0
Meets asked called buffer number after = (number ≡ called.number) × ((after ≡ called.buffer) × Told asked buffer number after)

abbrev pub MeetsFound : (list buffer : List ℕ) (number : ℕ) (after : List ℕ) → GivenWay → Type 0
MeetsFound list buffer number after way = Meets (at_found way list) (called way list buffer) buffer number after

abbrev pub MeetsGiven : Side → (list buffer : List ℕ) (number : ℕ) (after : List ℕ) → GivenWay → Type 0
MeetsGiven side list buffer number after way = Meets (at_given way side list) (called_at way side list buffer) buffer number after

-- Refusals have numbers up to 12.
module _ (asked : Asked) (small : 12 < asked.shortest) (buffer : List ℕ) where
  abbrev TellsOf : Called → Type 0
  TellsOf c = Told asked buffer c.number c.buffer

  -- So the number of a refusal is told as one.
  refusal-told : (why : Refusal) → CallRefused asked buffer (number_of why) → TellsOf (refusal why buffer)
  refusal-told why reason =
      let few = number_small why in
      record { sheet = λ long. absurd (omega arith); same_output = λ long. absurd (omega arith); refused = λ short. (reason, refl) }

  -- A sheet is told by its length, where there is room for it.
  sheet-told : (sheet : List ℕ) → asked.output ≡ sheet → asked.IsSheet sheet → asked.shortest ≤ length sheet
      → TellsOf (sheet_in (length_given true sheet buffer) sheet buffer)
  sheet-told sheet output-is is-sheet long = by-room (ltb (length buffer) (length sheet)) refl
    where
      by-room : (short : Bool) → ltb (length buffer) (length sheet) ≡ short
          → TellsOf (sheet_in (unless (elim short [ true ↦ some ShortBuffer | false ↦ none ]) (length sheet)) sheet buffer)
      by-room true is =
          refusal-told ShortBuffer
          (rw output-is (short_buffer is-sheet (ltb-true (length buffer) (length sheet) is)))
      by-room false is =
          let front = take-append_seam sheet (drop (length sheet) buffer) in
          record {
            sheet = λ told. subst asked.IsSheet (sym front) is-sheet;
            same_output = λ told. front ∙ sym output-is;
            refused = λ short. absurd (omega arith);
          }

  module _ (way : Way) (answer-of : List Site → Answer) where
    abbrev sheet-of : List Site → List ℕ
    sheet-of sites = sheet_with sites (answer-of sites)

    abbrev plan-of : List Site → Plan
    plan-of sites = placed_with sites way (answer-of sites)

    -- The plan of sites that are placed with what is chosen for them has that sheet.
    plan-sheet : (sites : List Site) → IsChosen way (places_of sites) (answer-of sites) → sheet_for (plan-of sites) ≡ sheet-of sites
    unfolding sheet_at placed_with
    plan-sheet sites chosen =
        ap (λ (l : List Site). sheet_with l (chosen_at way (answer-of sites).side (places_of l))) (sites-placed sites way (answer-of sites))
        ∙ ap (sheet_with sites) (sym (is-chosen-at chosen))

    -- So what comes of writing it is the call.
    planned-calls : {placing : Result (List Site)} → Ready asked way answer-of placing
        → planned_in (handed plan-of started placing) buffer ≡ called_for sheet-of placing buffer
    unfolding placed_with
    planned-calls (not_ready reason) = refl
    planned-calls (ready {sites} chosen is-sheet long) =
        ap (λ (sheet : List ℕ). sheet_in (length_given true sheet buffer) sheet buffer) (plan-sheet sites chosen)

    calls-told : {placing : Result (List Site)} → asked.output ≡ output_for sheet-of placing → Ready asked way answer-of placing
        → TellsOf (called_for sheet-of placing buffer)
    calls-told output-is (not_ready {why} reason) = refusal-told why (is_refused reason)
    calls-told output-is (ready {sites} chosen is-sheet long) = sheet-told (sheet-of sites) output-is is-sheet long

    -- It meets the contract.
    planned-meets : {placing : Result (List Site)} → asked.output ≡ output_for sheet-of placing → Ready asked way answer-of placing
        → (planned_in (handed plan-of started placing) buffer ≡ called_for sheet-of placing buffer)
        × TellsOf (called_for sheet-of placing buffer)
    planned-meets output-is is-ready = (planned-calls is-ready, calls-told output-is is-ready)

-- ---- the two calls: what comes of placing a list and writing its plan, and what the number and the buffer then tell

-- At the side found,
pub call-meets : (way : Way) (list buffer : List ℕ)
    → (planned_in (list_placed way list) buffer ≡ called (Some way) list buffer)
    × Told (at_found (Some way) list) buffer (called (Some way) list buffer).number (called (Some way) list buffer).buffer
unfolding sheet_of output_of
call-meets way list buffer =
    planned-meets (at_found (Some way) list) (omega arith) buffer way (λ sites. answer_of way (places_of sites)) refl (by-sites (text-to-place list))
  where
    by-sites : {placing : Result (List Site)} → ToPlace list placing
        → Ready (at_found (Some way) list) way (λ sites. answer_of way (places_of sites)) placing
    by-sites (not_placed reason) = not_ready reason
    by-sites (to_be_placed {sites} accepts) =
        let listed = read-listed list sites (reads-are accepts.read) in
        ready (answer-listed way sites listed) (sheet-for way list sites accepts) (sheet-shortest way sites listed accepts.some_sites)

-- at a given side,
pub call-meets-at : (way : Way) (side : Side) (list buffer : List ℕ)
    → (planned_in (list_placed_at way side list) buffer ≡ called_at (Some way) side list buffer)
    × Told (at_given (Some way) side list) buffer (called_at (Some way) side list buffer).number (called_at (Some way) side list buffer).buffer
unfolding sheet_at output_at chosen_at
call-meets-at way side list buffer =
    planned-meets (at_given (Some way) side list) (omega arith) buffer way (λ sites. chosen_at way side (places_of sites)) refl
    (by-sites (text-to-place-at way side list))
  where
    by-sites : {placing : Result (List Site)} → ToPlaceAt way side list placing
        → Ready (at_given (Some way) side list) way (λ sites. chosen_at way side (places_of sites)) placing
    by-sites (not_placed_at reason) = not_ready reason
    by-sites (is_placed_at {sites} accepts chosen) =
        let listed = read-listed list sites (reads-are accepts.read) in
        ready chosen (sheet-for-at list sites accepts chosen) (sheet-shortest-at sites listed accepts.some_sites chosen)

-- and without a way.
pub no-way-told : (shortest : ℕ) → 12 < shortest → (buffer : List ℕ) → Told (by_no_way shortest) buffer 3 buffer
no-way-told shortest small buffer = refusal-told (by_no_way shortest) small buffer BadNumber (is_refused refl)

no-way-meets : {number : ℕ} (shortest : ℕ) → 12 < shortest → (buffer : List ℕ) → number ≡ 3
    → Meets (by_no_way shortest) (refusal BadNumber buffer) buffer number buffer
no-way-meets shortest small buffer is =
    (is, (refl, rw is (no-way-told shortest small buffer)))

pub no-way-found : {number : ℕ} (list buffer : List ℕ) → number ≡ 3 → MeetsFound list buffer number buffer None
no-way-found list = no-way-meets shortest_sheet (omega arith)

pub no-way-given : {number : ℕ} (side : Side) (list buffer : List ℕ) → number ≡ 3 → MeetsGiven side list buffer number buffer None
no-way-given side list = no-way-meets shortest_sheet_at (omega arith)

-- So the number of what comes of writing tells it, with the buffer.
written-parts : (written : Written) (after : List ℕ)
    → (number_written written ≡ (as_called written after).number) × (after ≡ (as_called written after).buffer)
written-parts (Ok n) after = (refl, refl)
written-parts (Err why) after = (refl, refl)

pub number-told : {asked : Asked} {buffer : List ℕ} {number : ℕ} (written : Written) (after : List ℕ) (call : Called)
    → Told asked buffer call.number call.buffer → number ≡ number_written written → as_called written after ≡ call
    → Told asked buffer number after
number-told written after call told number_is is =
    let parts = written-parts written after in
    let number-so = number_is ∙ parts.0 ∙ ap (λ (c : Called). c.number) is in
    let after-so = parts.1 ∙ ap (λ (c : Called). c.buffer) is in
    rw (number-so, after-so) told

-- ---- what the number tells

-- From the shortest length on, the buffer starts with the sheet that the demands name, which is the output of the program: at the side
-- found,
pub told-sheet : {way : Way} {list buffer after : List ℕ} {number : ℕ} → Told (at_found (Some way) list) buffer number after
    → shortest_sheet ≤ number → SheetFor way list (take number after) × (take number after ≡ output_of way list)
told-sheet told long = (told.sheet long, told.same_output long)

-- and at a given side;
pub told-sheet-at : {way : Way} {side : Side} {list buffer after : List ℕ} {number : ℕ} → Told (at_given (Some way) side list) buffer number after
    → shortest_sheet_at ≤ number → SheetForAt way side list (take number after) × (take number after ≡ output_at way side list)
told-sheet-at told long = (told.sheet long, told.same_output long)

-- below it, the buffer is as it came, and the number is the refusal, or 10 where the sheet is longer than the buffer.
refused-told : {asked : Asked} {buffer after : List ℕ} {number : ℕ} → Told asked buffer number after → number < asked.shortest
    → (asked.Refused number ⊎ ((number ≡ 10) × (asked.IsSheet asked.output × (length buffer < length asked.output)))) × (after ≡ buffer)
refused-told {asked} {buffer} told short = (by-reason (told.refused short).0, (told.refused short).1)
  where
    by-reason : {n : ℕ} → CallRefused asked buffer n
        → asked.Refused n ⊎ ((n ≡ 10) × (asked.IsSheet asked.output × (length buffer < length asked.output)))
    by-reason (is_refused reason) = inl reason
    by-reason (short_buffer sheet longer) = inr (refl, (sheet, longer))

pub told-refused : {way : Way} {list buffer after : List ℕ} {number : ℕ} → Told (at_found (Some way) list) buffer number after
    → number < shortest_sheet
    → (ListRefused list number ⊎ ((number ≡ 10) × (SheetFor way list (output_of way list) × (length buffer < length (output_of way list)))))
    × (after ≡ buffer)
told-refused = refused-told

pub told-refused-at : {way : Way} {side : Side} {list buffer after : List ℕ} {number : ℕ}
    → Told (at_given (Some way) side list) buffer number after → number < shortest_sheet_at
    → (RefusedAt way side list number
    ⊎ ((number ≡ 10) × (SheetForAt way side list (output_at way side list) × (length buffer < length (output_at way side list)))))
    × (after ≡ buffer)
told-refused-at = refused-told

-- Without a way the number is 3, and the buffer as it came.
pub told-no-way : (shortest : ℕ) {buffer after : List ℕ} {number : ℕ} → Told (by_no_way shortest) buffer number after
    → (number ≡ 3) × (after ≡ buffer)
told-no-way shortest {buffer} {after} {number} told = by (dec_lt number shortest)
  where
    is-3 : {n : ℕ} → CallRefused (by_no_way shortest) buffer n → n ≡ 3
    is-3 (is_refused is) = is
    is-3 (short_buffer sheet short) = absurd sheet

    by : Dec (number < shortest) → (number ≡ 3) × (after ≡ buffer)
    by (yes below) = (is-3 (told.refused below).0, (told.refused below).1)
    by (no over) = absurd (told.sheet (omega arith))

-- ---- the numbers that stand for no way or no side

-- 1 is the usual way, 2 is above the spot only.
pub ways-given : (way_of 1 ≡ Some Usual) × (way_of 2 ≡ Some Above)
ways-given = (refl, refl)

-- The greatest number of 32 bits is free, and every other is so many half units.
pub sides-given : (side_of 4294967295 ≡ Free)
    × ((number : ℕ) → (number ≡ 4294967295 → ⊥) → side_of number ≡ Number (record { 0 = number }))
sides-given = (refl, λ number not-free. rw (ne_eqb number free_number not-free, side_of))

-- Other numbers are no way and are refused with 3, whatever the list,
pub no_way : (number : ℕ) (list buffer : List ℕ) → (number ≡ 1 → ⊥) → (number ≡ 2 → ⊥)
    → (called (way_of number) list buffer ≡ refusal BadNumber buffer)
    × ((side : Side) → called_at (way_of number) side list buffer ≡ refusal BadNumber buffer)
no_way number list buffer not-usual not-above =
    rw (ne_eqb number 1 not-usual, ne_eqb number 2 not-above, way_of) (refl, λ side. refl)

-- and so is a side outside the range, whatever the way.
side-refused : (way : GivenWay) (side : Side) (list buffer : List ℕ) → is_side side ≡ false
    → called_at way side list buffer ≡ refusal BadNumber buffer
side-refused (Some way) side list buffer outside = rw outside
side-refused None side list buffer outside = refl

-- Such are the numbers below 1 and above 20,000, but for that of free.
pub no-side : (way : GivenWay) (number : ℕ) (list buffer : List ℕ) → (number ≡ free_number → ⊥) → (number < 1) ⊎ (greatest_side < number)
    → called_at way (side_of number) list buffer ≡ refusal BadNumber buffer
no-side way number list buffer not-free outside =
    side-refused way (side_of number) list buffer
    (rw (ne_eqb number free_number not-free, side_of) (is-outside outside))
  where
    by-least : (least : Bool) → (least && false) ≡ false
    by-least true = refl
    by-least false = refl

    is-outside : (number < 1) ⊎ (greatest_side < number) → is_side (Number (record { 0 = number })) ≡ false
    is-outside (inl below) = rw (lt-leb 1 number below)
    is-outside (inr above) = rw (lt-leb number greatest_side above) (by-least (leb 1 number))
