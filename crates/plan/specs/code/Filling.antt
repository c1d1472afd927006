-- A sheet and the buffer that it is written to, or not (that it is copied there: proofs/Guaranteed); and the output, which is made in the
-- buffer.
-- Assumes nothing.
use Rattle.std.proofs.Math.Path.{◌≡◌, refl, sym, ap, subst}
use Rattle.std.proofs.Common.{◌∙◌, mul-le-mul, arith, take_at}
use Rattle.std.specs.Prelude.{Bool, true, false, not, ℕ, ◌*◌, ◌≤◌, ◌<◌, eqb, Ok, Err, IsErr, drop}
use Rattle.std.proofs.lemmas.Bool.{false≢true}
use mathlib.Core.List.{List, [], ◌∷◌}
use Rattle.std.proofs.Math.ListN.{length, take}
use borrow.Author.Tests.{lt-ltb}
use Rattle.placing.specs.declared.units.Side.{Side}
use Rattle.placing.specs.declared.way.Way.{Way}
use Rattle.placing.specs.rules.Answer.{is_side}
use Rattle.placing.specs.deciding.Answer.{answer_of, chosen_at}
use Rattle.placing.specs.theorems.Given.{found-chosen}
use Rattle.plan.specs.declared.plan.Plan.{Plan}
use Rattle.plan.specs.declared.refusal.Refusal.{Refusal}
use Rattle.plan.specs.declared.refusal.Refusal.TheVariants.{BadNumber, NoSites, NotPlaced, ShortBuffer, NoGoodChoice}
use Rattle.plan.specs.rules.Refusal.{number_of, ◌gives◌, first_refusal, number_by, Result, accepted, refused, unless, after, after_tests}
use Rattle.plan.specs.rules.List.{Site, places_of}
use Rattle.plan.specs.rules.Sheet.{sheet_with, refusal_line}
use Rattle.plan.specs.rules.Calls.{no_sites, no_good, write_tests, filled_with, bytes_after, to_place, to_place_at}
use Rattle.plan.specs.deciding.Output.{sheet_of, sheet_at, output_for, output_of, exists_at, output_at}
use Rattle.plan.specs.deciding.Reading.{read_list}
use Rattle.plan.specs.calls.Lengths.{full_table, longest_sheet}
use Rattle.plan.specs.calls.Plan.{unplaced_plan, placed_with, placed_plan, sites_in, Valid, is_placed, is_unplaced}
use Rattle.plan.specs.calls.Answers.{
  written_length,
  carried_at,
  started,
  handed,
  read_from,
  side_answer,
  found_in,
  chosen_in,
  sheet_for,
  written_answer,
  length_written,
  written_in,
  buffer_after,
  list_placed,
  placed_at,
  list_placed_at,
  Written,
  Outcome,
  Planned,
}
use Rattle.plan.specs.Demands.{WriteTold, SheetWritten}
use Rattle.plan.specs.theorems.Reading.{reads-are, read-listed}
use Rattle.plan.specs.theorems.Sheet.{answer-listed, sheet-longest, some-to-place}
use Rattle.plan.specs.theorems.Plan.{sites-unplaced, sites-placed, holding-unplaced, valid-holding, valid-for}
use Rattle.plan.specs.theorems.Calls.{write-told}
use Rattle.plan.specs.theorems.Choosing.{chosen-listed, found-done, placed_by}
use Rattle.plan.specs.theorems.Output.{ToPlace, not_placed, to_be_placed, text-to-place}
use Rattle.plan.specs.code.CallLaws.{refusal-of}

-- ---- writing

-- A placed plan has some sites.
pub placed-some : {plan : Plan} → Valid plan → plan.placed ≡ true → 1 ≤ length (sites_in plan)
unfolding unplaced_plan
placed-some (is_unplaced sites listed) is = absurd (false≢true is)
placed-some (is_placed sites way answer listed nonempty chosen) is = rw (sites-placed sites way answer) nonempty

-- Its sheet is no longer than the longest.
pub placed-longest : {plan : Plan} → Valid plan → plan.placed ≡ true → length (sheet_for plan) ≤ longest_sheet
unfolding sheet_at
placed-longest {plan} valid is = sheet-longest (sites_in plan) (valid-holding valid).listed (valid-for valid is)

-- What is promised of writing a plan into a buffer.
abbrev pub WritePromised : Plan → List ℕ → Written → List ℕ → Type 0
WritePromised plan buffer r after =
    (r ≡ written_in plan buffer)
    × ((after ≡ buffer_after plan buffer)
    × (SheetWritten plan.way (sites_in plan) plan.side r after
    × (WriteTold plan buffer r after
    × (written_length r
    ≡ carried_at (number_by (write_tests plan.placed (sheet_for plan) buffer)) (length (sheet_for plan))))))

module _ (plan : Plan) (buffer : List ℕ) where
  -- All of it follows from what writing comes to, the buffer afterwards and what the sheet is.
  pub promised : (comes : Result ℕ) {after : List ℕ} → length_written plan buffer ≡ comes
      → after ≡ bytes_after comes (filled_with (sheet_for plan) buffer) buffer
      → SheetWritten plan.way (sites_in plan) plan.side (written_answer comes) after
      → WritePromised plan buffer (written_answer comes) after
  promised comes {after} is left sheet =
      let told : written_answer comes ≡ written_in plan buffer = ap written_answer (sym is) in
      let left_so : after ≡ buffer_after plan buffer
      = left ∙ ap (λ (r : Result ℕ). bytes_after r (filled_with (sheet_for plan) buffer) buffer) (sym is) in
      (told, (left_so, (sheet, write-told plan buffer told left_so)))

  -- A plan that is not placed is refused.
  pub write-unplaced : plan.placed ≡ false → WritePromised plan buffer (Err NotPlaced) buffer
  write-unplaced is = promised (refused NotPlaced) (rw is) refl tt

module _ {plan : Plan} (valid : Valid plan) (is : plan.placed ≡ true) {buffer : List ℕ} where
  -- There is no room.
  pub write-short : length buffer < length (sheet_for plan) → WritePromised plan buffer (Err ShortBuffer) buffer
  unfolding sites_in
  write-short short = promised plan buffer (refused ShortBuffer) (rw (is, lt-ltb (length buffer) (length (sheet_for plan)) short)) refl tt

-- ---- the output

-- What is written of a list that was read and placed: the line of its refusal, or the sheet of its plan.
abbrev pub written_by : Outcome → Plan → List ℕ
written_by (Ok done) plan = sheet_for plan
written_by (Err why) plan = refusal_line (number_of why)

abbrev pub planned_output : Planned → List ℕ
planned_output planned = written_by planned.outcome planned.plan

-- It can be: where the outcome is no refusal the plan is placed.
pub record MayPut (planned : Planned) : Type 0 where
  pub done_placed : planned.outcome ≡ Ok tt → planned.plan.placed ≡ true

-- What is handed back placed, or refused, can be.
pub handed-put : {A : Type 0} {r : Planned} (plan-of : A → Plan) (other : Plan) (result : Result A) → r ≡ handed plan-of other result
    → ((value : A) → (plan-of value).placed ≡ true) → MayPut r
handed-put {A} {r} plan-of other result is placed =
    record { done_placed = subst (λ (p : Planned). p.outcome ≡ Ok tt → p.plan.placed ≡ true) (sym is) (by_result result) }
  where
    by_result : (result : Result A) → (handed plan-of other result).outcome ≡ Ok tt → (handed plan-of other result).plan.placed ≡ true
    by_result (accepted value) done = placed value
    by_result (refused why) done = let z : ◌≡◌ {A = ℕ} 0 1 = cc in absurd (omega arith)

-- What is promised of an output: its length, and the buffer afterwards, where it was put at the front of a buffer.
pub output-put : (buffer : List ℕ) {out after : List ℕ} {n : ℕ} (output : List ℕ) → out ≡ output → n ≡ length out → after ≡ filled_with out buffer
    → (n ≡ length output) × ((after ≡ filled_with output buffer) × (take n after ≡ output))
output-put buffer {n = n} output is size filled =
    let size-is : n ≡ length output = size ∙ ap length is in
    let filled-is = filled ∙ ap (λ (text : List ℕ). filled_with text buffer) is in
    (size-is, (filled-is, ap (take n) filled-is ∙ take_at output (drop (length output) buffer) n (sym size-is)))

-- ---- a list, read and placed at the side found

-- The answer of a call that hands back a plan.
abbrev outcome_of : Planned → Outcome
outcome_of p = p.outcome

-- Where reading is refused, so is the list.
pub reading-refused : (way : Way) (text : List ℕ) {listed : Planned} → listed ≡ read_from text → IsErr listed.outcome
    → listed ≡ list_placed way text
reading-refused way text {listed} listed-is is = listed-is ∙ by-sites (read_list text) (subst (λ (p : Planned). IsErr p.outcome) listed-is is)
  where
    by-sites : (sites : Result (List Site)) → IsErr (handed unplaced_plan started sites).outcome
        → handed unplaced_plan started sites ≡ handed (placed_plan way) started (to_place sites)
    by-sites (accepted sites) is = absurd (false≢true is)
    by-sites (refused why) is = refl

-- A table of 57,600 bytes is enough for the sites of every plan.
enough : {sites : List Site} (text table : List ℕ) → length table ≡ full_table → read_list text ≡ accepted sites
    → length sites * length sites ≤ length table
enough {sites} text table size read = let few = (read-listed text sites read).few in omega (arith, mul-le-mul few few)

module _ (way : Way) (text table : List ℕ) (size : length table ≡ full_table) where
  -- Where no side is found, the list has no sites;
  pub reading-unfound : {listed : Planned} {why : Refusal} → listed ≡ read_from text → listed.outcome ≡ Ok tt
      → Err why ≡ found_in listed.plan way table → refusal-of listed.plan why ≡ list_placed way text
  unfolding unplaced_plan
  reading-unfound {listed} {why} listed-is is_read found =
      subst (λ (p : Planned). Err why ≡ found_in p.plan way table → refusal-of p.plan why ≡ list_placed way text) (sym listed-is)
      (by-sites (read_list text) refl (ap outcome_of (sym listed-is) ∙ is_read)) found
    where
      by-sites : (sites : Result (List Site)) → read_list text ≡ sites → (handed unplaced_plan started sites).outcome ≡ Ok tt
          → Err why ≡ found_in (handed unplaced_plan started sites).plan way table
          → refusal-of (handed unplaced_plan started sites).plan why ≡ handed (placed_plan way) started (to_place sites)
      by-sites (refused other) read is_read found = let z : ◌≡◌ {A = ℕ} 0 1 = cc in absurd (omega arith)
      by-sites (accepted []) read is_read found = let same : why ≡ NoSites = cc in ap (refusal-of started) same
      by-sites (accepted (site ∷ sites)) read is_read found =
          let z = found ∙ ap side_answer (found-done (unplaced_plan (site ∷ sites)) table (λ zero. omega arith) (enough text table size read) way) in
          let none : ◌≡◌ {A = ℕ} 0 1 = cc in
          absurd (omega arith)

  -- else it is placed at the side found.
  pub reading-placed : {listed done : Planned} {side : Side} (again : List ℕ) → length again ≡ full_table → listed ≡ read_from text
      → listed.outcome ≡ Ok tt → Ok side ≡ found_in listed.plan way table → done ≡ chosen_in listed.plan way side again
      → done ≡ list_placed way text
  unfolding unplaced_plan
  reading-placed {listed} {done} {side} again size-again listed-is is_read found done-is =
      done-is
      ∙ subst (λ (p : Planned). Ok side ≡ found_in p.plan way table → chosen_in p.plan way side again ≡ list_placed way text) (sym listed-is)
      (by-sites (read_list text) refl (ap outcome_of (sym listed-is) ∙ is_read)) found
    where
      by-sites : (sites : Result (List Site)) → read_list text ≡ sites → (handed unplaced_plan started sites).outcome ≡ Ok tt
          → Ok side ≡ found_in (handed unplaced_plan started sites).plan way table
          → chosen_in (handed unplaced_plan started sites).plan way side again ≡ handed (placed_plan way) started (to_place sites)
      by-sites (refused other) read is_read found = let z : ◌≡◌ {A = ℕ} 0 1 = cc in absurd (omega arith)
      by-sites (accepted []) read is_read found = let z : ◌≡◌ {A = ℕ} 0 1 = cc in absurd (omega arith)
      by-sites (accepted (site ∷ sites)) read is_read found =
          let listed = read-listed text (site ∷ sites) read in
          let plan = unplaced_plan (site ∷ sites) in
          let room = enough text table size read in
          let is = found ∙ ap side_answer (found-done plan table (λ zero. omega arith) room way) in
          let same : side ≡ (answer_of way (places_of (sites_in plan))).side = cc in
          ap (λ (s : Side). chosen_in plan way s again) (same ∙ ap (λ (l : List Site). (answer_of way (places_of l)).side) (sites-unplaced (site ∷ sites)))
          ∙ placed_by (answer_of way (places_of (site ∷ sites))) again (holding-unplaced listed) (sites-unplaced (site ∷ sites)) (omega arith)
          (omega arith) (answer-listed way (site ∷ sites) listed)
          ∙ sym (ap (handed (placed_plan way) started) (some-to-place (site ∷ sites) (omega arith)))

-- What is written of it is the output for the text.
pub placed-output : (way : Way) (text : List ℕ) {done : Planned} → done ≡ list_placed way text → planned_output done ≡ output_of way text
unfolding output_of sheet_of sheet_at placed_with
placed-output way text {done} done-is = ap planned_output done-is ∙ by-sites (text-to-place text)
  where
    by-sites : {sites : Result (List Site)} → ToPlace text sites
        → planned_output (handed (placed_plan way) started sites) ≡ output_for (sheet_of way) sites
    by-sites (not_placed reason) = refl
    by-sites (to_be_placed {sites} accepts) =
        let listed = read-listed text sites (reads-are accepts.read) in
        ap (λ (l : List Site). sheet_with l (chosen_at way (placed_plan way sites).side (places_of l))) (sites-placed sites way (answer_of way (places_of sites)))
        ∙ ap (sheet_with sites) (found-chosen way listed.places_distinct)

-- ---- the same at a given side

-- Of a side that cannot be given.
pub side-refused-at : (way : Way) (side : Side) (text : List ℕ) → is_side side ≡ false
    → refusal-of started BadNumber ≡ list_placed_at way side text
side-refused-at way side text given = rw given

module _ (way : Way) (side : Side) (given : is_side side ≡ true) (text : List ℕ) where
  -- Where reading is refused, so is the list.
  pub reading-refused-at : {listed : Planned} → listed ≡ read_from text → IsErr listed.outcome → listed ≡ list_placed_at way side text
  reading-refused-at {listed} listed-is is =
      rw given (listed-is ∙ by-sites (read_list text) (subst (λ (p : Planned). IsErr p.outcome) listed-is is))
    where
      by-sites : (sites : Result (List Site)) → IsErr (handed unplaced_plan started sites).outcome
          → handed unplaced_plan started sites
          ≡ handed (placed_at way side) started
          (after sites (λ l. after_tests (no_sites (length l) ∷ no_good (exists_at way side l) ∷ []) l))
      by-sites (accepted sites) is = absurd (false≢true is)
      by-sites (refused why) is = refl

  -- So, with a table that is long enough, the list is placed,
  module _ {listed chosen : Planned} (table : List ℕ) (size : length table ≡ full_table) (listed-is : listed ≡ read_from text)
      (is_read : listed.outcome ≡ Ok tt) (chosen_is : chosen ≡ chosen_in listed.plan way side table) where
    abbrev comes : Result (List Site)
    comes = after (read_list text) (λ l. after_tests (no_sites (length l) ∷ no_good (exists_at way side l) ∷ []) l)

    chosen-comes : chosen ≡ handed (placed_at way side) (read_from text).plan comes
    chosen-comes =
        chosen_is
        ∙ ap (λ (p : Planned). chosen_in p.plan way side table) listed-is
        ∙ by-sites (read_list text) refl (ap outcome_of (sym listed-is) ∙ is_read)
      where
        by-sites : (sites : Result (List Site)) → read_list text ≡ sites → (handed unplaced_plan started sites).outcome ≡ Ok tt
            → chosen_in (handed unplaced_plan started sites).plan way side table
            ≡ handed (placed_at way side) (handed unplaced_plan started sites).plan
            (after sites (λ l. after_tests (no_sites (length l) ∷ no_good (exists_at way side l) ∷ []) l))
        by-sites (refused other) read is_read = let z : ◌≡◌ {A = ℕ} 0 1 = cc in absurd (omega arith)
        by-sites (accepted sites) read is_read =
            chosen-listed way side sites table (enough text table size read) ∙ rw given (by_tests (eqb (length sites) 0) (not (exists_at way side sites)))
          where
            by_tests : (b d : Bool)
                → handed (placed_with sites way) (unplaced_plan sites)
                (unless (first_refusal (b gives NoSites ∷ d gives NoGoodChoice ∷ [])) (chosen_at way side (places_of sites)))
                ≡ handed (placed_at way side) (unplaced_plan sites) (unless (first_refusal (b gives NoSites ∷ d gives NoGoodChoice ∷ [])) sites)
            by_tests true d = refl
            by_tests false true = refl
            by_tests false false = refl

    pub choosing-done : chosen.outcome ≡ Ok tt → chosen ≡ list_placed_at way side text
    choosing-done done = rw given (chosen-comes ∙ go comes (ap outcome_of (sym chosen-comes) ∙ done))
      where
        go : (result : Result (List Site)) → (handed (placed_at way side) (read_from text).plan result).outcome ≡ Ok tt
            → handed (placed_at way side) (read_from text).plan result ≡ handed (placed_at way side) started result
        go (accepted sites) done = refl
        go (refused why) done = let z : ◌≡◌ {A = ℕ} 0 1 = cc in absurd (omega arith)

    -- or refused.
    pub choosing-refused : {why : Refusal} → chosen.outcome ≡ Err why → refusal-of started why ≡ list_placed_at way side text
    choosing-refused {why} refusal = rw given (go comes (ap outcome_of (sym chosen-comes) ∙ refusal))
      where
        go : (result : Result (List Site)) → (handed (placed_at way side) (read_from text).plan result).outcome ≡ Err why
            → refusal-of started why ≡ handed (placed_at way side) started result
        go (accepted sites) is = let z : ◌≡◌ {A = ℕ} 0 1 = cc in absurd (omega arith)
        go (refused other) is = let same : why ≡ other = cc in ap (refusal-of started) same

-- What is written of it is the output for the text at that side.
pub placed-output-at : (way : Way) (side : Side) (text : List ℕ) {done : Planned} → done ≡ list_placed_at way side text
    → planned_output done ≡ output_at way side text
unfolding output_at sheet_at placed_with chosen_at
placed-output-at way side text {done} done-is = ap planned_output done-is ∙ by-sites (to_place_at side (exists_at way side) (read_list text))
  where
    by-sites : (sites : Result (List Site)) → planned_output (handed (placed_at way side) started sites) ≡ output_for (sheet_at way side) sites
    by-sites (refused why) = refl
    by-sites (accepted sites) = ap (sheet_at way side) (sites-placed sites way (chosen_at way side (places_of sites)))
