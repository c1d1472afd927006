-- What each call tells, from the equation that its contract gives: demand 1, and the value that an answer carries.
-- Assumes nothing.
use Rattle.std.specs.Prelude.{◌≡◌, refl, Bool, true, false, not, List, [], ◌∷◌, ◌⊎◌, ℕ, ◌*◌, ◌≤◌, ◌<◌, eqb, ltb, length, Ok}
use Rattle.std.proofs.Common.{sym, ap, ◌∙◌, subst, ⊎_elim, arith, le-leb, ne_eqb}
use Rattle.std.proofs.Math.Option.{Option, some, none}
use Rattle.std.proofs.lemmas.Bool.{lt-leb}
use Rattle.placing.specs.declared.units.Side.{Side}
use Rattle.placing.specs.declared.way.Way.{Way}
use Rattle.placing.specs.rules.Units.{greatest_coordinate}
use Rattle.placing.specs.rules.Choice.{corner_at}
use Rattle.placing.specs.rules.Answer.{is_side, side_number}
use Rattle.placing.specs.deciding.Answer.{answer_of, chosen_at}
use Rattle.plan.specs.declared.refusal.Refusal.{Refusal}
use Rattle.plan.specs.declared.refusal.Refusal.TheVariants.{BadNumber, NoSites, ShortTable, NoGoodChoice}
use Rattle.plan.specs.declared.plan.Plan.{Plan}
use Rattle.plan.specs.rules.Refusal.{number_of, ◌gives◌, first_refusal, refusal_number, number_by, unless}
use Rattle.plan.specs.rules.Text.{decimal, number_in}
use Rattle.plan.specs.rules.List.{Site, places_of, enter_tests, wanted_at}
use Rattle.plan.specs.deciding.Output.{exists_at}
use Rattle.plan.specs.rules.Calls.{finding_tests, cleared, side_tests, corner_tests, write_tests, filled_with, bytes_after}
use Rattle.plan.specs.calls.Plan.{unplaced_plan, placed_with, sites_in, Valid}
use Rattle.plan.specs.calls.Answers.{
  outcome_number,
  side_asked_number,
  side_carried,
  corner_asked_number,
  corner_carried,
  written_number,
  written_length,
  carried_at,
  handed,
  entered_in,
  found_in,
  table_found,
  chosen_in,
  table_chosen,
  answer_for,
  sheet_for,
  side_answer,
  side_asked,
  corner_answer,
  corner_asked,
  written_answer,
  written_in,
  buffer_after,
  AskedSide,
  AskedCorner,
  Written,
  Planned,
}
use Rattle.plan.specs.Demands.{Refuses, EnterTold, FindTold, ChooseTold, SideTold, CornerTold, WriteTold}
use Rattle.plan.specs.calls.Given.{coordinate_read, coordinate_number}
use Rattle.plan.specs.theorems.Text.{number-decimal}
use Rattle.plan.specs.theorems.Tables.{number-some}

-- A refusal carries no value.
none-carried : {A : Type 0} (why : Refusal) (value : A) → carried_at (number_of why) value ≡ none
none-carried why value = rw (ne_eqb (number_of why) 0 (λ zero. omega (arith, number-some why)), carried_at)

-- Entering.
pub enter-told : {r : Planned} (plan : Plan) (name : List ℕ) (x y : ℕ) → (r ≡ entered_in plan name x y) × Valid r.plan
    → (r ≡ entered_in plan name x y) × (Valid r.plan × EnterTold plan name x y r)
enter-told plan name x y both =
    (both.0, (both.1, subst (EnterTold plan name x y) (sym both.0) (by_first (first_refusal (enter_tests (sites_in plan) (wanted_at name x y))) _)))
  where
    by_first : (first : Option Refusal) (more : List Site)
        → Refuses (outcome_number (handed unplaced_plan plan (unless first more)).outcome) (refusal_number first) plan
        (handed unplaced_plan plan (unless first more)).plan
    by_first none more = record { number_is = refl; as_it_came = λ given. absurd (given refl) }
    by_first (some why) more = record { number_is = refl; as_it_came = λ given. refl }

-- Finding gives 8, 11, or the side; refused, it leaves the table as it came.
pub find-told : {r : AskedSide} {after : List ℕ} (plan : Plan) (way : Way) (table : List ℕ) → r ≡ found_in plan way table
    → after ≡ table_found plan table
    → FindTold plan table r after
    × (side_carried r
    ≡ carried_at (number_by (finding_tests plan.count (length table))) (side_number (answer_of way (places_of (sites_in plan))).side))
find-told plan way table is left =
    rw (is, left) (by_first (first_refusal (finding_tests plan.count (length table))) (answer_of way (places_of (sites_in plan))).side)
  where
    by_first : (first : Option Refusal) (side : Side)
        → Refuses (side_asked_number (side_answer (unless first side))) (refusal_number first) table
        (bytes_after (unless first plan) (cleared plan.count table) table)
        × (side_carried (side_answer (unless first side)) ≡ carried_at (refusal_number first) (side_number side))
    by_first none side = (record { number_is = refl; as_it_came = λ given. absurd (given refl) }, refl)
    by_first (some why) side = (record { number_is = refl; as_it_came = λ given. refl }, sym (none-carried why (side_number side)))

-- Choosing gives 3, 8, 11, 12, or the placed plan. The tests before 12 come first: where one of them holds, the table is as it came.
pub choose-told : {r : Planned} {after : List ℕ} (plan : Plan) (way : Way) (side : Side) (table : List ℕ) → r ≡ chosen_in plan way side table
    → after ≡ table_chosen plan side table → ChooseTold plan way side table r after
choose-told plan way side table is left =
    let told =
    by_tests (not (is_side side)) (eqb plan.count 0) (ltb (length table) (plan.count * plan.count)) (not (exists_at way side (sites_in plan))) in
    rw (is, left) (record { number_is = told.0; plan_kept = told.1; table_kept = told.2; table_cleared = told.3 })
  where
    came : Option Refusal → Planned
    came first = handed (placed_with (sites_in plan) way) plan (unless first (chosen_at way side (places_of (sites_in plan))))

    left_by : Option Refusal → List ℕ
    left_by early = bytes_after (unless early side) (cleared plan.count table) table

    -- What is told, by the refusal of all tests and that of those before 12.
    Told : (first early : Option Refusal) → Type 0
    Told first early =
        (outcome_number (came first).outcome ≡ refusal_number first)
        × ((outcome_number (came first).outcome ≡ 0 → ⊥) → (came first).plan ≡ plan)
        × ((outcome_number (came first).outcome ≡ 0 → ⊥) → (outcome_number (came first).outcome ≡ 12 → ⊥) → left_by early ≡ table)
        × ((outcome_number (came first).outcome ≡ 0) ⊎ (outcome_number (came first).outcome ≡ 12) → left_by early ≡ cleared plan.count table)

    early-told : (why : Refusal) → (number_of why ≡ 12 → ⊥) → Told (some why) (some why)
    early-told why other = (
      refl,
      λ given. refl,
      λ given others. refl,
      ⊎_elim (λ zero. absurd (omega (arith, number-some why, zero))) (λ twelve. absurd (other twelve)),
    )

    by_tests : (a b c d : Bool)
        → Told (first_refusal (a gives BadNumber ∷ b gives NoSites ∷ c gives ShortTable ∷ d gives NoGoodChoice ∷ []))
        (first_refusal (a gives BadNumber ∷ b gives NoSites ∷ c gives ShortTable ∷ []))
    by_tests true b c d = early-told BadNumber (λ e. omega arith)
    by_tests false true c d = early-told NoSites (λ e. omega arith)
    by_tests false false true d = early-told ShortTable (λ e. omega arith)
    by_tests false false false true = (refl, λ given. refl, λ given others. absurd (others refl), λ either. refl)
    by_tests false false false false = (refl, λ given. absurd (given refl), λ given. absurd (given refl), λ either. refl)

-- Asking the side gives 9, or the side.
pub side-told : {r : AskedSide} (plan : Plan) → r ≡ side_asked plan
    → SideTold plan r × (side_carried r ≡ carried_at (number_by (side_tests plan.placed)) (side_number (answer_for plan).side))
side-told plan is =
    let told = by_first (first_refusal (side_tests plan.placed)) (answer_for plan).side in
    (ap side_asked_number is ∙ told.0, ap side_carried is ∙ told.1)
  where
    by_first : (first : Option Refusal) (side : Side) → (side_asked_number (side_answer (unless first side)) ≡ refusal_number first)
        × (side_carried (side_answer (unless first side)) ≡ carried_at (refusal_number first) (side_number side))
    by_first none side = (refl, refl)
    by_first (some why) side = (refl, sym (none-carried why (side_number side)))

-- Asking a corner gives 9, 6, or the corner.
pub corner-told : {r : AskedCorner} (plan : Plan) (i : ℕ) → r ≡ corner_asked plan i
    → CornerTold plan i r
    × (corner_carried r ≡ carried_at (number_by (corner_tests plan.placed plan.count i)) (corner_at (answer_for plan).corners i))
corner-told plan i is =
    let told = by_first (first_refusal (corner_tests plan.placed plan.count i)) (corner_at (answer_for plan).corners i) in
    (ap corner_asked_number is ∙ told.0, ap corner_carried is ∙ told.1)
  where
    by_first : (first : Option Refusal) (corner : ℕ) → (corner_asked_number (corner_answer (unless first corner)) ≡ refusal_number first)
        × (corner_carried (corner_answer (unless first corner)) ≡ carried_at (refusal_number first) corner)
    by_first none corner = (refl, refl)
    by_first (some why) corner = (refl, sym (none-carried why corner))

-- Writing: its number, the buffer, and the sheet's length where it is accepted.
pub write-told : {r : Written} {after : List ℕ} (plan : Plan) (buffer : List ℕ) → r ≡ written_in plan buffer → after ≡ buffer_after plan buffer
    → WriteTold plan buffer r after
    × (written_length r ≡ carried_at (number_by (write_tests plan.placed (sheet_for plan) buffer)) (length (sheet_for plan)))
write-told plan buffer is left =
    rw (is, left) (by_first (first_refusal (write_tests plan.placed (sheet_for plan) buffer)) (sheet_for plan))
  where
    by_first : (first : Option Refusal) (sheet : List ℕ)
        → Refuses (written_number (written_answer (unless first (length sheet)))) (refusal_number first) buffer
        (bytes_after (unless first (length sheet)) (filled_with sheet buffer) buffer)
        × (written_length (written_answer (unless first (length sheet))) ≡ carried_at (refusal_number first) (length sheet))
    by_first none sheet = (record { number_is = refl; as_it_came = λ given. absurd (given refl) }, refl)
    by_first (some why) sheet = (record { number_is = refl; as_it_came = λ given. refl }, sym (none-carried why (length sheet)))

-- An accepted answer carries its value, and where a number is told none is carried.
pub carried-values : ((side : Side) → side_carried (Ok side) ≡ some (side_number side))
    × (((corner : ℕ) → corner_carried (Ok corner) ≡ some corner) × ((n : ℕ) → written_length (Ok n) ≡ some n))
carried-values = (λ side. refl, (λ corner. refl, λ n. refl))

pub carried-accepted : (value : ℕ) → carried_at 0 value ≡ some value
carried-accepted value = refl

-- A coordinate is read from what a list writes for it, and from no number above 10,000.
pub coordinate-written : (n : ℕ) → n ≤ 10000 → coordinate_number (coordinate_read (number_in (decimal n))) ≡ some n
coordinate-written n inside =
    ap (λ (o : Option ℕ). coordinate_number (coordinate_read o)) (number-decimal n)
    ∙ rw (le-leb n greatest_coordinate inside, coordinate_read)

pub coordinate-none : (n : ℕ) → 10000 < n → coordinate_number (coordinate_read (number_in (decimal n))) ≡ none
coordinate-none n outside =
    ap (λ (o : Option ℕ). coordinate_number (coordinate_read o)) (number-decimal n)
    ∙ rw (lt-leb n greatest_coordinate outside, coordinate_read)
