-- Laws of `Asked`: words that write six numbers ask for these, whatever they are, and a word that writes none is refused.
-- Assumes nothing.
use Rattle.std.specs.Prelude.{◌≡◌, refl, Bool, true, false, List, ◌⊎◌, ℕ, ◌≤◌, ◌<◌, Some, None, Err}
use Rattle.std.specs.Prelude as rattle
use Rattle.std.proofs.Common.{ap, ◌∙◌, ⊎_elim, arith, le-leb}
use Rattle.std.proofs.Math.Option.{Option, none, some}
use Rattle.std.proofs.Math.Decide.{dec_le}
use Rattle.std.proofs.lemmas.Bool.{lt-leb}
use Rattle.desk.specs.Words.{bytes_in}
use Rattle.placing.specs.declared.units.Units.{Units}
use Rattle.placing.specs.rules.Units.{greatest_coordinate}
use Rattle.plan.specs.declared.refusal.Refusal.TheVariants.{BadNumber}
use Rattle.plan.specs.rules.Text.{decimal, number_in, or_zero}
use Rattle.plan.specs.rules.List.{place_at, is_coordinate}
use Rattle.plan.specs.calls.Given.{coordinate_read}
use Rattle.plan.specs.theorems.Text.{number-decimal}
use Rattle.growth.specs.Asked.{AskedGrowth, growth_asked, HasLabel, GrowthTold, told, told_3}
use Rattle.growth.specs.AskedLaws.{asked-tells, told-one}
use Rattle.grow.specs.declared.asked.LabelWords.{LabelWords}
use Rattle.grow.specs.Asked.{outside, number_or, number_given, place_given, growth_by_words}

-- The number of a coordinate that is read, or the one that stands for none.
abbrev pub number_from : rattle.Option Units → ℕ
number_from (Some units) = units.0
number_from None = outside

pub number-from : (number : Option ℕ) → number_from (coordinate_read number) ≡ number_or number
number-from number = go (is_coordinate number)
  where
    go : (inside : Bool)
        → number_from (elim inside [ true ↦ Some (record { 0 = or_zero number }) | false ↦ None ])
        ≡ elim inside [ true ↦ or_zero number | false ↦ outside ]
    go true = refl
    go false = refl

-- A number in range is given as it is; and what is given in range is the number.
inside : {n : ℕ} → n ≤ greatest_coordinate → number_or (some n) ≡ n
inside {n} small = rw (le-leb n greatest_coordinate small, number_or)

inside_back : (n : ℕ) → number_or (some n) ≤ greatest_coordinate → number_or (some n) ≡ n
inside_back n given = go (dec_le n greatest_coordinate)
  where
    go : Dec (n ≤ greatest_coordinate) → number_or (some n) ≡ n
    go (yes small) = inside small
    go (no large) =
        let over : greatest_coordinate < n = omega arith in
        let is : number_or (some n) ≡ outside = rw (lt-leb n greatest_coordinate over, number_or) in
        absurd (omega arith)

-- Three words that write these numbers.
pub record Writes (label : LabelWords) (x y corner : ℕ) : Type 0 where
  pub x_written : bytes_in label.x ≡ decimal x
  pub y_written : bytes_in label.y ≡ decimal y
  pub corner_written : bytes_in label.corner ≡ decimal corner

-- Any three words that do, and nothing is asked of them besides.
pub writes-made : {label : LabelWords} {x y corner : ℕ} → bytes_in label.x ≡ decimal x → bytes_in label.y ≡ decimal y
    → bytes_in label.corner ≡ decimal corner → Writes label x y corner
writes-made at_x at_y at_corner = record { x_written = at_x; y_written = at_y; corner_written = at_corner }

-- They give these numbers, where those make a label ..
written-number : {text : List ℕ} (n : ℕ) → text ≡ decimal n → number_or (number_in text) ≡ number_or (some n)
written-number n is = ap number_or (ap number_in is ∙ number-decimal n)

record Gives (label : LabelWords) (x y corner : ℕ) : Type 0 where
  place_is : place_given label ≡ place_at x y
  corner_is : number_given label.corner ≡ corner

module _ {label : LabelWords} {x y corner : ℕ} (writes : Writes label x y corner) where
  given : number_or (some x) ≡ x → number_or (some y) ≡ y → number_or (some corner) ≡ corner → Gives label x y corner
  given at_x at_y at_corner =
      record {
        place_is = λ i.
            place_at ((written-number x writes.x_written ∙ at_x) i) ((written-number y writes.y_written ∙ at_y) i);
        corner_is = written-number corner writes.corner_written ∙ at_corner;
      }

  label_given : HasLabel (place_at x y) corner → Gives label x y corner
  label_given has = given (inside has.on_plan.on_x) (inside has.on_plan.on_y) (inside (omega (arith, has.corner.most)))

  -- .. and give a label only where they make one.
  given_label : HasLabel (place_given label) (number_given label.corner) → Gives label x y corner
  given_label has =
      given (inside_back x (omega (arith, has.on_plan.on_x, written-number x writes.x_written)))
      (inside_back y (omega (arith, has.on_plan.on_y, written-number y writes.y_written)))
      (inside_back corner (omega (arith, has.corner.most, written-number corner writes.corner_written)))

-- So six words that write six numbers ask for these, whatever they are.
pub words-ask : {own other : LabelWords} {x y c x' y' e : ℕ} → Writes own x y c → Writes other x' y' e
    → growth_by_words own other ≡ growth_asked (place_at x y) c (place_at x' y') e
words-ask {own} {other} {x} {y} {c} {x'} {y'} {e} one two =
    told-one
    (of-numbers (asked-tells (place_given own) (number_given own.corner) (place_given other) (number_given other.corner)))
    (asked-tells (place_at x y) c (place_at x' y') e)
  where
    of-numbers : {r : AskedGrowth}
        → GrowthTold (place_given own) (number_given own.corner) (place_given other) (number_given other.corner) r
        → GrowthTold (place_at x y) c (place_at x' y') e r
    of-numbers (told has has_other grows) =
        let a = given_label one has in
        let b = given_label two has_other in
        told (rw (a.place_is, a.corner_is) at has) (rw (b.place_is, b.corner_is) at has_other)
        (rw (a.place_is, a.corner_is, b.place_is, b.corner_is) at grows)
    of-numbers (told_3 refused) =
        told_3 (λ has has_other.
        let a = label_given one has in
        let b = label_given two has_other in
        refused (rw (a.place_is, a.corner_is) has) (rw (b.place_is, b.corner_is) has_other))

-- One of a label's words writes no number.
pub data NoNumber (label : LabelWords) : Type 0 where
  no_x : number_in (bytes_in label.x) ≡ none → NoNumber label
  no_y : number_in (bytes_in label.y) ≡ none → NoNumber label
  no_corner : number_in (bytes_in label.corner) ≡ none → NoNumber label

-- Any of the three, and nothing is asked of it besides.
pub no_number : {label : LabelWords} → (number_in (bytes_in label.x) ≡ none → NoNumber label)
    × ((number_in (bytes_in label.y) ≡ none → NoNumber label) × (number_in (bytes_in label.corner) ≡ none → NoNumber label))
no_number = (no_x, (no_y, no_corner))

none-given : {label : LabelWords} → NoNumber label → HasLabel (place_given label) (number_given label.corner) → ⊥
none-given (no_x is) has = omega (arith, ap number_or is, has.on_plan.on_x)
none-given (no_y is) has = omega (arith, ap number_or is, has.on_plan.on_y)
none-given (no_corner is) has = omega (arith, ap number_or is, has.corner.most)

-- Such words are refused with 3.
pub words-refused : {own other : LabelWords} → NoNumber own ⊎ NoNumber other → growth_by_words own other ≡ Err BadNumber
words-refused {own} {other} bad =
    told-one (asked-tells (place_given own) (number_given own.corner) (place_given other) (number_given other.corner))
    (told_3 (λ has has_other. ⊎_elim (λ no_own. none-given no_own has) (λ no_other. none-given no_other has_other) bad))
