-- "No refusal is given outside its condition": one theorem for the table of every call. Its number is that of the first row whose test
-- holds, and where no test holds it is 0.
-- Assumes nothing.
use Rattle.std.specs.Prelude.{◌≡◌, refl, Bool, true, false, List, [], ◌∷◌, ◌++◌, ℕ, zero, suc, ◌≤◌, ◌<◌, length, get_or, drop}
use Rattle.std.proofs.Common.{sym, ap, ◌∙◌, true≢false, arith}
use Rattle.std.proofs.Math.Option.{Option, some, none}
use Rattle.std.proofs.Math.Decide.{dec_lt}
use Rattle.plan.specs.declared.refusal.Refusal.{Refusal}
use Rattle.plan.specs.declared.refusal.Refusal.TheVariants.{BadLine, BadName, BadNumber, NameTaken, PlaceTaken, NoSuchSite, Full, NoSites, NotPlaced, ShortBuffer, ShortTable, NoGoodChoice}
use Rattle.plan.specs.rules.Refusal.{number_of, Test, ◌gives◌, first_refusal, refusal_number, number_by, Result, accepted, refused, unless}

-- Numbers of refusals go from 1 to 12.
number-range : (why : Refusal) → (1 ≤ number_of why) × (number_of why ≤ 12)
number-range BadLine = omega arith
number-range BadName = omega arith
number-range BadNumber = omega arith
number-range NameTaken = omega arith
number-range PlaceTaken = omega arith
number-range NoSuchSite = omega arith
number-range Full = omega arith
number-range NoSites = omega arith
number-range NotPlaced = omega arith
number-range ShortBuffer = omega arith
number-range ShortTable = omega arith
number-range NoGoodChoice = omega arith

pub number-some : (why : Refusal) → 1 ≤ number_of why
number-some why = (number-range why).0

pub number_small : (why : Refusal) → number_of why ≤ 12
number_small why = (number-range why).1

-- Row number i of a table, from 0.
abbrev pub row_at : List Test → ℕ → Test
row_at tests i = get_or tests i (false gives BadLine)

-- A row of a table has this number, its test holds, and that of no earlier row does.
pub record FirstRow (tests : List Test) (number : ℕ) : Type 0 where
  pub row : ℕ
  pub listed : row < length tests
  pub number_is : number_of (row_at tests row).refusal ≡ number
  pub holds : (row_at tests row).holds ≡ true
  pub none_earlier : (i : ℕ) → i < row → (row_at tests i).holds ≡ false

-- No row's test holds.
pub record NoRow (tests : List Test) : Type 0 where
  pub none_holds : (i : ℕ) → i < length tests → (row_at tests i).holds ≡ false

-- A row more in front whose test does not hold.
row-later : {test : Test} {tests : List Test} {number : ℕ} → test.holds ≡ false → FirstRow tests number → FirstRow (test ∷ tests) number
row-later {test} {tests} fails first =
    record {
      row = suc first.row;
      listed = omega (arith, first.listed);
      number_is = first.number_is;
      holds = first.holds;
      none_earlier = earlier;
    }
  where
    earlier : (i : ℕ) → i < suc first.row → (row_at (test ∷ tests) i).holds ≡ false
    earlier zero below = fails
    earlier (suc i) below = first.none_earlier i (omega arith)

no-row-later : {test : Test} {tests : List Test} → test.holds ≡ false → NoRow tests → NoRow (test ∷ tests)
no-row-later {test} {tests} fails rest = record { none_holds = each }
  where
    each : (i : ℕ) → i < length (test ∷ tests) → (row_at (test ∷ tests) i).holds ≡ false
    each zero below = fails
    each (suc i) below = rest.none_holds i (omega arith)

-- What the table's number tells.
pub data Tells (tests : List Test) : ℕ → Type 0 where
  a_row : {number : ℕ} → 1 ≤ number → FirstRow tests number → Tells tests number
  no_row : NoRow tests → Tells tests 0

-- The theorem: a number is given by the first row whose test holds, and 0 where no test does.
pub table-tells : (tests : List Test) → Tells tests (number_by tests)
table-tells [] = no_row (record { none_holds = λ i below. absurd (omega arith) })
table-tells (test ∷ tests) = by-test test.holds refl (table-tells tests)
  where
    later : {number : ℕ} → test.holds ≡ false → Tells tests number → Tells (test ∷ tests) number
    later fails (a_row some-number first) = a_row some-number (row-later fails first)
    later fails (no_row rest) = no_row (no-row-later fails rest)

    by-test : (b : Bool) → test.holds ≡ b → Tells tests (number_by tests)
        → Tells (test ∷ tests) (refusal_number (elim b [ true ↦ some test.refusal | false ↦ first_refusal tests ]))
    by-test true is rest =
        a_row (number-some test.refusal)
        (record { row = 0; listed = omega arith; number_is = refl; holds = is; none_earlier = λ i below. absurd (omega arith) })
    by-test false is rest = later is rest

-- Of a table that gives no refusal, the first row's test does not hold, and the others give none.
pub first-none : (test : Test) (tests : List Test) → first_refusal (test ∷ tests) ≡ none → (test.holds ≡ false) × (first_refusal tests ≡ none)
first-none test tests = by-test test.holds
  where
    by-test : (b : Bool) → ◌≡◌ {A = Option Refusal} (elim b [ true ↦ some test.refusal | false ↦ first_refusal tests ]) none
        → (b ≡ false) × (first_refusal tests ≡ none)
    by-test true is = let z : ◌≡◌ {A = ℕ} 0 1 = cc in absurd (omega arith)
    by-test false is = (refl, is)

-- So none of its tests holds.
pub rows_none : (tests : List Test) → first_refusal tests ≡ none → NoRow tests
rows_none [] is = record { none_holds = λ i below. absurd (omega arith) }
rows_none (test ∷ tests) is = let both = first-none test tests is in no-row-later both.0 (rows_none tests both.1)

-- Nor do the rows behind its first k give a refusal.
pub rest-none : (k : ℕ) (tests : List Test) → first_refusal tests ≡ none → first_refusal (drop k tests) ≡ none
rest-none zero tests is = is
rest-none (suc k) [] is = is
rest-none (suc k) (test ∷ tests) is = rest-none k tests (first-none test tests is).1

-- More rows behind a table that gives a refusal change nothing; behind one that gives none they decide.
pub first-early : (tests more : List Test) {why : Refusal} → first_refusal tests ≡ some why → first_refusal (tests ++ more) ≡ some why
first-early [] more is = let z : ◌≡◌ {A = ℕ} 0 1 = cc in absurd (omega arith)
first-early (test ∷ tests) more {why} is = by-test test.holds (first-early tests more) is
  where
    by-test : (b : Bool) → (first_refusal tests ≡ some why → first_refusal (tests ++ more) ≡ some why)
        → ◌≡◌ {A = Option Refusal} (elim b [ true ↦ some test.refusal | false ↦ first_refusal tests ]) (some why)
        → ◌≡◌ {A = Option Refusal} (elim b [ true ↦ some test.refusal | false ↦ first_refusal (tests ++ more) ]) (some why)
    by-test true later is = is
    by-test false later is = later is

pub first-late : (tests more : List Test) → first_refusal tests ≡ none → first_refusal (tests ++ more) ≡ first_refusal more
first-late [] more is = refl
first-late (test ∷ tests) more is =
    let both = first-none test tests is in
    ap (λ (b : Bool). elim b [ true ↦ some test.refusal | false ↦ first_refusal (tests ++ more) ]) both.0
    ∙ first-late tests more both.1

-- What is refused is not accepted.
pub refused-not-accepted : {A : Type 0} {why : Refusal} {value : A} → ◌≡◌ {A = Result A} (refused why) (accepted value) → ⊥
refused-not-accepted e = let z : ◌≡◌ {A = ℕ} 0 1 = cc in omega arith

-- A value that is accepted unless there is a refusal: where it is accepted there is none, and where it is refused there is that one.
pub unless-accepted : {A : Type 0} (first : Option Refusal) {value more : A} → unless first value ≡ accepted more
    → (first ≡ none) × (more ≡ value)
unless-accepted none is = (refl, cc)
unless-accepted (some why) is = absurd (refused-not-accepted is)

pub unless-refused : {A : Type 0} (first : Option Refusal) (value : A) {why : Refusal} → unless first value ≡ refused why → first ≡ some why
unless-refused none value is = cc
unless-refused (some other) value is = cc

-- A test does not both hold and fail.
no_both : {b : Bool} → b ≡ true → b ≡ false → ⊥
no_both is so = true≢false (sym is ∙ so)

-- A table tells one number.
pub tells-one : (tests : List Test) {n m : ℕ} → Tells tests n → Tells tests m → n ≡ m
tells-one tests {n} {m} (a_row some-n f) (a_row some-m g) = by_order (dec_lt f.row g.row) (dec_lt g.row f.row)
  where
    by_order : Dec (f.row < g.row) → Dec (g.row < f.row) → n ≡ m
    by_order (yes earlier) other = absurd (no_both f.holds (g.none_earlier f.row earlier))
    by_order (no not-earlier) (yes later) = absurd (no_both g.holds (f.none_earlier g.row later))
    by_order (no not-earlier) (no not-later) =
        let same : f.row ≡ g.row = omega arith in
        sym f.number_is ∙ ap (λ (i : ℕ). number_of (row_at tests i).refusal) same ∙ g.number_is
tells-one tests (a_row some-n f) (no_row rest) = absurd (no_both f.holds (rest.none_holds f.row f.listed))
tells-one tests (no_row rest) (a_row some-m g) = absurd (no_both g.holds (rest.none_holds g.row g.listed))
tells-one tests (no_row rest) (no_row other) = refl
