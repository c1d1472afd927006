-- What is placed of a text, and the output for it: at most 5,531 bytes long, and within the array that it is put into. That its sheet is right
-- and that it meets the three demands stands in proofs/Guaranteed.
-- Assumes nothing.
use Rattle.std.specs.Prelude.{◌≡◌, refl, Bool, true, false, not, List, [], ◌∷◌, ℕ, ◌≤◌, length, drop}
use Rattle.std.proofs.Common.{sym, ap, ◌∙◌, subst, true≢false, arith, ne_eqb, length-append}
use Rattle.std.proofs.Math.Option.{some, none}
use Rattle.placing.specs.declared.units.Place.{Place}
use Rattle.placing.specs.declared.units.Side.{Side}
use Rattle.placing.specs.declared.way.Way.{Way}
use Rattle.placing.specs.rules.Answer.{Answer, is_side, IsAnswer, IsChosen}
use Rattle.placing.specs.deciding.Answer.{chosen_at}
use Rattle.placing.specs.theorems.Answer.{is-answer-of}
use Rattle.placing.specs.theorems.Given.{answer-chosen, chosen-answer, chosen_is, some-found}
use Rattle.plan.specs.declared.refusal.Refusal.{Refusal}
use Rattle.plan.specs.declared.refusal.Refusal.TheVariants.{BadNumber, NoGoodChoice}
use Rattle.plan.specs.rules.Text.{decimal}
use Rattle.plan.specs.rules.Refusal.{number_of, Result, accepted, refused, unless, after, after_tests}
use Rattle.plan.specs.rules.List.{Site, places_of, Listed, list_text}
use Rattle.plan.specs.rules.Sheet.{sheet_with, side_on, refusal_line}
use Rattle.plan.specs.deciding.Output.{sheet_of, sheet_at, output_for, output_of, exists_at, output_at}
use Rattle.plan.specs.rules.Calls.{no_sites, no_good, filled_with, to_place, to_place_at}
use Rattle.plan.specs.deciding.Reading.{read_list}
use Rattle.plan.specs.calls.Plan.{placed_plan}
use Rattle.plan.specs.calls.Answers.{started, handed, list_placed, placed_at, list_placed_at, Planned}
use Rattle.plan.specs.Demands.{Accepts, ListRefused, at_line, of_no_sites, ListTold, list_refused, list_is_placed, RefusedAt, out_of_range, refused_list, none_good, ListToldAt, is_refused_at, list_is_placed_at, RightSheet, PrintsFound, SheetFor}
use Rattle.plan.specs.theorems.Text.{decimal-short}
use Rattle.plan.specs.theorems.Tables.{number_small}
use Rattle.plan.specs.theorems.Reading.{reads-are, reads_so, read-listed, read-list, read-condition}
use Rattle.plan.specs.theorems.Sheet.{chosen-lined, answer-listed, sheet-longest, some-to-place}
use Rattle.plan.specs.calls.Lengths.{most_digits, longest_sheet, longest_refusal_line}
use Rattle.plan.specs.theorems.ReadOff.{side-on-sheet, spots-on-sheet}

-- A sheet that prints the side found for its spots is that sheet.
pub prints-found : {way : Way} {a : Answer} (sites : List Site) → Listed sites → IsChosen way (places_of sites) a
    → PrintsFound way (sheet_with sites a) → sheet_with sites a ≡ sheet_of way sites
unfolding sheet_of
prints-found {way} {a} sites listed chosen prints =
    let each = chosen-lined sites listed chosen in
    let is : IsAnswer way (places_of sites) prints.found =
    subst (λ (ps : List Place). IsAnswer way ps prints.found) (spots-on-sheet a each) prints.is_answer in
    let side : some a.side ≡ some prints.found.side = sym (side-on-sheet a each) ∙ prints.printed in
    let same : a.side ≡ prints.found.side = cc in
    ap (sheet_with sites) (chosen-answer is chosen same ∙ is-answer-of listed.places_distinct is)

-- The condition is met by every right sheet,
pub right-found : {way : Way} {sites : List Site} {sheet : List ℕ} → Listed sites → RightSheet way sites sheet → PrintsFound way sheet
right-found {way} {sites} listed right =
    let each = chosen-lined sites listed (answer-chosen right.is_answer) in
    record {
      found = right.answer;
      is_answer = subst (λ (ps : List Place). IsAnswer way ps right.answer) (sym right.spots) right.is_answer;
      printed = ap side_on right.prints ∙ side-on-sheet right.answer each;
    }

-- So the condition is met by every sheet that the program writes at the side found.
pub sheet-found : {way : Way} {text sheet : List ℕ} → SheetFor way text sheet → PrintsFound way sheet
sheet-found {text = text} for = right-found (read-listed text for.sites (reads-are for.accepts.read)) for.right

-- An empty text alone has no sites.
pub none-refused : (text : List ℕ) → read_list text ≡ accepted [] → ListRefused text 8
unfolding list_text
none-refused text read = of_no_sites (sym (read-list text [] read))

-- What is to be placed of a text: refused with a number, or accepted.
pub data ToPlace (text : List ℕ) : Result (List Site) → Type 0 where
  not_placed : {why : Refusal} → ListRefused text (number_of why) → ToPlace text (refused why)
  to_be_placed : {sites : List Site} → Accepts text sites → ToPlace text (accepted sites)

pub text-to-place : (text : List ℕ) → ToPlace text (to_place (read_list text))
text-to-place text = by-sites (read_list text) refl
  where
    by-sites : (sites : Result (List Site)) → read_list text ≡ sites → ToPlace text (to_place sites)
    by-sites (accepted []) read = not_placed (none-refused text read)
    by-sites (accepted (site ∷ sites)) read =
        rw (some-to-place (site ∷ sites) (omega arith)) (to_be_placed (record { read = reads_so read; some_sites = omega arith }))
    by-sites (refused why) read = not_placed (at_line (read-condition text why read))

-- Reading and placing it tells the same.
pub list-told : (way : Way) (text : List ℕ) {r : Planned} → r ≡ list_placed way text → ListTold way text r
list-told way text is = subst (ListTold way text) (sym is) (by-sites (text-to-place text))
  where
    by-sites : {sites : Result (List Site)} → ToPlace text sites → ListTold way text (handed (placed_plan way) started sites)
    by-sites (not_placed reason) = list_refused reason refl
    by-sites (to_be_placed {sites} accepts) = list_is_placed sites accepts refl refl

-- ---- at a given side

-- What is to be placed of a text at a given side: refused with a number, or chosen.
pub data ToPlaceAt (way : Way) (side : Side) (text : List ℕ) : Result (List Site) → Type 0 where
  not_placed_at : {why : Refusal} → RefusedAt way side text (number_of why) → ToPlaceAt way side text (refused why)
  is_placed_at : {sites : List Site} → Accepts text sites → IsChosen way (places_of sites) (chosen_at way side (places_of sites))
      → ToPlaceAt way side text (accepted sites)

pub text-to-place-at : (way : Way) (side : Side) (text : List ℕ)
    → ToPlaceAt way side text (to_place_at side (exists_at way side) (read_list text))
text-to-place-at way side text = by_side (is_side side) refl
  where
    by-choice : is_side side ≡ true → (sites : List Site) → Accepts text sites → (exists : Bool) → exists_at way side sites ≡ exists
        → ToPlaceAt way side text (unless (elim (not exists) [ true ↦ some NoGoodChoice | false ↦ none ]) sites)
    by-choice given sites accepts true there = is_placed_at accepts (chosen_is way (places_of sites) side given there)
    by-choice given sites accepts false there =
        not_placed_at (none_good given sites accepts (λ some_good. true≢false (sym (some-found some_good) ∙ there)))

    by-sites : is_side side ≡ true → (read : Result (List Site)) → read_list text ≡ read
        → ToPlaceAt way side text (after read (λ sites. after_tests (no_sites (length sites) ∷ no_good (exists_at way side sites) ∷ []) sites))
    by-sites given (accepted []) read = not_placed_at (refused_list given (none-refused text read))
    by-sites given (accepted (site ∷ sites)) read =
        rw (ne_eqb (length (site ∷ sites)) 0 (λ zero. omega arith))
        (by-choice given (site ∷ sites) (record { read = reads_so read; some_sites = omega arith }) (exists_at way side (site ∷ sites)) refl)
    by-sites given (refused why) read = not_placed_at (refused_list given (at_line (read-condition text why read)))

    by_side : (given : Bool) → is_side side ≡ given
        → ToPlaceAt way side text
        (after (unless (elim (not given) [ true ↦ some BadNumber | false ↦ none ]) (read_list text))
        (λ listed. after listed (λ sites. after_tests (no_sites (length sites) ∷ no_good (exists_at way side sites) ∷ []) sites)))
    by_side true given = by-sites given (read_list text) refl
    by_side false given = not_placed_at (out_of_range given)

-- Reading and choosing tells the same.
pub list-told-at : (way : Way) (side : Side) (text : List ℕ) {r : Planned} → r ≡ list_placed_at way side text → ListToldAt way side text r
unfolding chosen_at
list-told-at way side text is = subst (ListToldAt way side text) (sym is) (by-sites (text-to-place-at way side text))
  where
    by-sites : {sites : Result (List Site)} → ToPlaceAt way side text sites
        → ListToldAt way side text (handed (placed_at way side) started sites)
    by-sites (not_placed_at reason) = is_refused_at reason refl
    by-sites (is_placed_at {sites} accepts chosen) = list_is_placed_at sites (chosen_at way side (places_of sites)).corners accepts chosen refl refl

-- ---- how long an output is

-- The number of a refusal is written in at most five digits, and its line has the word refused, a tab, so many and a line feed.
pub number_short : (why : Refusal) → length (decimal (number_of why)) ≤ most_digits
number_short why = decimal-short (number_of why) (omega (arith, number_small why))

pub refusal-short : (why : Refusal) → length (refusal_line (number_of why)) ≤ longest_refusal_line
refusal-short why = simp length-append (omega (arith, number_short why))

-- The longest output is a sheet.
pub output-longest : (way : Way) (text : List ℕ) → length (output_of way text) ≤ longest_sheet
unfolding output_of sheet_of
output-longest way text = by-sites (text-to-place text)
  where
    by-sites : {sites : Result (List Site)} → ToPlace text sites → length (output_for (sheet_of way) sites) ≤ longest_sheet
    by-sites (not_placed {why} reason) = omega (arith, refusal-short why)
    by-sites (to_be_placed {sites} accepts) =
        let listed = read-listed text sites (reads-are accepts.read) in sheet-longest sites listed (answer-listed way sites listed)

pub output-longest-at : (way : Way) (side : Side) (text : List ℕ) → length (output_at way side text) ≤ longest_sheet
unfolding output_at sheet_at
output-longest-at way side text = by-sites (text-to-place-at way side text)
  where
    by-sites : {sites : Result (List Site)} → ToPlaceAt way side text sites → length (output_for (sheet_at way side) sites) ≤ longest_sheet
    by-sites (not_placed_at {why} reason) = omega (arith, refusal-short why)
    by-sites (is_placed_at {sites} accepts chosen) = sheet-longest sites (read-listed text sites (reads-are accepts.read)) chosen

-- What is put into an array lies within it.
pub output_within : {n : ℕ} {after : List ℕ} (output buffer : List ℕ) → n ≡ length output → after ≡ filled_with output buffer
    → n ≤ length after
output_within output buffer size is = omega (arith, ap length is, length-append output (drop (length output) buffer))
