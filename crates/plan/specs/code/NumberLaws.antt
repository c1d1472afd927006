-- Reading a number byte by byte.
-- Assumes nothing.
use Rattle.std.specs.Prelude.{Bool, ◌&&◌, ◌≢◌, ◌≡◌, ℕ, zero, suc, ◌+◌, ◌-◌, ◌*◌, ◌≤◌, ◌<◌, length, get_or, drop, Option, Some, None}
use Rattle.std.specs.Bool.{then_some}
use Rattle.std.proofs.Math.Bool.{true, false}
use mathlib.Core.List.{List, [], ◌∷◌}
use Rattle.std.proofs.Math.Option as maybe
use Rattle.std.proofs.Math.Option.{some, none}
use Rattle.std.proofs.Math.Path.{refl}
use Rattle.std.proofs.Common.{ap, ◌∙◌, add-one, arith, drop_of_length-le, drop-cons, leb-true, le-leb, leb-false, eq-eqb, ne_eqb}
use Rattle.std.proofs.Math.Dec.{leb}
use Rattle.std.proofs.lemmas.Bool.{lt-leb}
use Rattle.placing.specs.rules.Units.{greatest_coordinate, greatest_side}
use Rattle.placing.specs.declared.units.Side.TheVariants.{Number, Free}
use Rattle.plan.specs.rules.Text.{same_bytes, zero_digit, digits_after, number_in}
use Rattle.plan.specs.rules.Sheet.{free_word, numbered_side, side_in}
use Rattle.plan.specs.calls.Given.{side_by_word, coordinate_read}
use Rattle.plan.specs.code.NumberRead.{number_read, coordinate_of, side_of}

-- Numbers up to `most`.
module _ (most : ℕ) where
  -- A number is there exactly where it is in range.
  pub number-in : (n : ℕ) → n ≤ most → number_read most (some n) ≡ Some n
  number-in n fits = rw (le-leb n most fits, number_read)

  number-beyond : (n : ℕ) → most < n → number_read most (some n) ≡ None
  number-beyond n far = rw (lt-leb n most far, number_read)

  pub number_fits : (number : maybe.Option ℕ) {n : ℕ} → number_read most number ≡ Some n → n ≤ most
  number_fits none is = let z : ◌≡◌ {A = ℕ} 0 1 = cc in absurd (omega arith)
  number_fits (some m) {n} is = by-test (leb m most) refl is
    where
      by-test : (t : Bool) → leb m most ≡ t → elim t [ true ↦ Some m | false ↦ None ] ≡ Some n → n ≤ most
      by-test true fits is = let same : m ≡ n = cc in omega (arith, leb-true m most fits)
      by-test false far is = let z : ◌≡◌ {A = ℕ} 0 1 = cc in absurd (omega arith)

  -- A digit is appended where the number stays in range, and a byte that is no digit writes no number.
  pub digit-read : (n b : ℕ) {is : Bool} → (leb zero_digit b && leb b 57) ≡ is
      → number_read most (digits_after n (b ∷ []))
      ≡ elim is [ true ↦ then_some (leb (n * 10 + (b - zero_digit)) most) (n * 10 + (b - zero_digit)) | false ↦ None ]
  unfolding digits_after
  digit-read n b e = rw (← e) (by-digit (leb zero_digit b && leb b 57))
    where
      in_range : (t : Bool) → elim t [ true ↦ Some (n * 10 + (b - zero_digit)) | false ↦ None ] ≡ then_some t (n * 10 + (b - zero_digit))
      in_range true = refl
      in_range false = refl

      by-digit : (digit : Bool) → number_read most (elim digit [ true ↦ some (n * 10 + (b - zero_digit)) | false ↦ none ])
          ≡ elim digit [ true ↦ then_some (leb (n * 10 + (b - zero_digit)) most) (n * 10 + (b - zero_digit)) | false ↦ None ]
      by-digit true = in_range (leb (n * 10 + (b - zero_digit)) most)
      by-digit false = refl

  -- A number that is out of range stays so, whatever is appended.
  beyond-stays : (n : ℕ) (text : List ℕ) → most < n → number_read most (digits_after n text) ≡ None
  unfolding digits_after
  beyond-stays n [] far = number-beyond n far
  beyond-stays n (b ∷ text) far = by-test (leb zero_digit b && leb b 57) (beyond-stays (n * 10 + (b - zero_digit)) text (omega arith))
    where
      by-test : (t : Bool) → number_read most (digits_after (n * 10 + (b - zero_digit)) text) ≡ None
          → number_read most (elim t [ true ↦ digits_after (n * 10 + (b - zero_digit)) text | false ↦ none ]) ≡ None
      by-test true more = more
      by-test false more = refl

  -- Reading on after a number.
  abbrev read_after : Option ℕ → List ℕ → Option ℕ
  read_after (Some n) rest = number_read most (digits_after n rest)
  read_after None rest = None

  -- So a text is read by its first byte, and then on after what that gives.
  byte-read : (n b : ℕ) (rest : List ℕ)
      → number_read most (digits_after n (b ∷ rest)) ≡ read_after (number_read most (digits_after n (b ∷ []))) rest
  unfolding digits_after
  byte-read n b rest = by-digit (leb zero_digit b && leb b 57)
    where
      in_range : (m : ℕ) (t : Bool) → leb m most ≡ t
          → number_read most (digits_after m rest) ≡ read_after (elim t [ true ↦ Some m | false ↦ None ]) rest
      in_range m true fits = refl
      in_range m false far = beyond-stays m rest (leb-false m most far)

      by-digit : (t : Bool) → number_read most (elim t [ true ↦ digits_after (n * 10 + (b - zero_digit)) rest | false ↦ none ])
          ≡ read_after (number_read most (elim t [ true ↦ some (n * 10 + (b - zero_digit)) | false ↦ none ])) rest
      by-digit true = in_range (n * 10 + (b - zero_digit)) (leb (n * 10 + (b - zero_digit)) most) refl
      by-digit false = refl

  -- The same of byte i of a text.
  pub byte_at : (n : ℕ) (text : List ℕ) (i : ℕ) {read : Option ℕ} → i < length text
      → number_read most (digits_after n (get_or text i 0 ∷ [])) ≡ read
      → number_read most (digits_after n (drop i text)) ≡ read_after read (drop (i + 1) text)
  byte_at n text i within is = rw (add-one, drop-cons text i 0, ← is) (byte-read n (get_or text i 0) (drop (suc i) text))

-- At the end of a text.
pub end-at : (n : ℕ) (text : List ℕ) (i : ℕ) → length text ≤ i → digits_after n (drop i text) ≡ some n
unfolding digits_after
end-at n text i past = rw (drop_of_length-le text past)

-- A text writes no number if it is empty or has a leading zero; else it writes that of its digits.
pub empty-number : (text : List ℕ) → length text ≡ 0 → number_in text ≡ none
unfolding number_in
empty-number [] e = refl
empty-number (b ∷ text) e = absurd (omega arith)

pub leading-zero : (text : List ℕ) → 1 < length text → get_or text 0 0 ≡ zero_digit → number_in text ≡ none
unfolding number_in
leading-zero [] long e = absurd (omega arith)
leading-zero (b ∷ []) long e = absurd (omega arith)
leading-zero (b ∷ c ∷ text) long e = rw (eq-eqb b zero_digit e, number_in)

pub number_digits : (text : List ℕ) → 1 ≤ length text → (1 < length text → get_or text 0 0 ≢ zero_digit) → number_in text ≡ digits_after 0 text
unfolding number_in
number_digits [] some_byte lead = absurd (omega arith)
number_digits (b ∷ []) some_byte lead = refl
number_digits (b ∷ c ∷ text) some_byte lead = rw (ne_eqb b zero_digit (lead (omega arith)), number_in)

-- A coordinate is a number up to the greatest one.
pub number-coordinate : (number : maybe.Option ℕ) {read : Option ℕ} → read ≡ number_read greatest_coordinate number
    → coordinate_of read ≡ coordinate_read number
number-coordinate none is = ap coordinate_of is
number-coordinate (some n) is = ap coordinate_of is ∙ by-test (leb n greatest_coordinate)
  where
    by-test : (t : Bool) → coordinate_of (elim t [ true ↦ Some n | false ↦ None ]) ≡ elim t [ true ↦ Some (record { 0 = n }) | false ↦ None ]
    by-test true = refl
    by-test false = refl

-- A side is the word free,
pub free-side : (text : List ℕ) → same_bytes text free_word ≡ true → side_by_word (side_in text) ≡ Free
free-side text is = rw (is, side_by_word)

-- or a number up to the greatest side, where 0 stands for no side.
number-given : (number : maybe.Option ℕ) → side_of (number_read greatest_side number) ≡ side_by_word (numbered_side number)
number-given none = refl
number-given (some zero) = refl
number-given (some (suc n)) = rw (le-leb 1 (suc n) (omega arith), side_by_word) (by-test (leb (suc n) greatest_side))
  where
    by-test : (t : Bool) → side_of (elim t [ true ↦ Some (suc n) | false ↦ None ])
        ≡ elim t [ true ↦ Number (record { 0 = suc n }) | false ↦ Number (record { 0 = 0 }) ]
    by-test true = refl
    by-test false = refl

pub number-side : (text : List ℕ) {read : Option ℕ} → same_bytes text free_word ≡ false → read ≡ number_read greatest_side (number_in text)
    → side_of read ≡ side_by_word (side_in text)
number-side text other is = rw (other, side_by_word) (ap side_of is ∙ number-given (number_in text))
