-- The digits that the library prints are those of a number as in a list, and so are its fewest digits in base 10; how many there are at
-- most; and the bytes of what is told.
-- Assumes nothing.
use Rattle.std.specs.Prelude.{◌≡◌, refl, List, [], ◌∷◌, ◌++◌, ℕ, zero, suc, ◌+◌, ◌-◌, ◌*◌, ◌/◌, ◌%◌, ◌^◌, ◌≤◌, ◌<◌, Ok, Err, length, take}
use Rattle.std.specs.Prelude as rattle
use Rattle.std.proofs.Common.{sym, ◌∙◌, subst, pow-suc, arith, lt-ltb, length-append}
use Rattle.std.proofs.Math.Decide.{dec_lt}
use Rattle.std.proofs.Math.Nat.{pow-le-pow_right}
use Rattle.std.proofs.lemmas.Fmt.{decimal_by_steps}
use Rattle.placing.specs.declared.units.Growth.TheVariants.{Never}
use Rattle.placing.specs.deciding.Growth.{up_to}
use Rattle.plan.specs.declared.refusal.Refusal.{Refusal}
use Rattle.plan.specs.rules.Refusal.{number_of}
use Rattle.plan.specs.rules.Text.{line_feed, zero_digit, Writes, one_digit, one_more, decimal}
use Rattle.plan.specs.rules.Sheet.{refusal_line}
use Rattle.plan.specs.theorems.Text.{writes-decimal, decimal_digit, decimal-large}
use Rattle.grow.specs.Digits.{hex_digit_ascii, last_digits, IsDigitCount}
use Rattle.grow.specs.Text.{Text, Holds, refusal_text, asked_text}

-- The digits that the library prints of a number write it.
pub printed_decimal : (n : ℕ) → n < 2 ^ 64 → rattle.decimal n ≡ decimal n
printed_decimal n fits = writes-decimal (decimal_by_steps Writes (λ n small. one_digit small) (λ n ds large tenth. last-more n ds large tenth) n fits)
  where
    last-more : (n : ℕ) (ds : List ℕ) → 10 ≤ n → Writes (n / 10) ds → Writes n (ds ++ ((48 + n % 10) ∷ []))
    last-more n ds large tenth =
        let parts : n / 10 * 10 + n % 10 ≡ n = omega arith in
        subst (λ (m : ℕ). Writes m (ds ++ ((zero_digit + n % 10) ∷ []))) parts (one_more (omega arith) (omega arith) tenth)

-- The byte of a digit below 10.
glyph-digit : (d : ℕ) → d < 10 → hex_digit_ascii d ≡ zero_digit + d
glyph-digit d small = rw (lt-ltb d 10 small)

-- The fewest digits of a number write it: the tenth of a number of k + 2 digits has k + 1, and is not 0.
fewest-writes : (k n : ℕ) → IsDigitCount 10 1 n k → Writes n (last_digits 10 k n)
fewest-writes zero n fewest = absurd (omega (arith, fewest.0))
fewest-writes (suc zero) n fewest =
    let small : n < 10 = fewest.1 in
    let same : hex_digit_ascii (n % 10) ≡ zero_digit + n = glyph-digit (n % 10) (omega arith) ∙ omega arith in
    subst (λ (b : ℕ). Writes n (b ∷ [])) (sym same) (one_digit small)
fewest-writes (suc (suc j)) n fewest =
    let ten = pow-suc 10 j in
    let hundred = pow-suc 10 (suc j) in
    let some : 10 ^ 0 ≤ 10 ^ j = pow-le-pow_right {n = 10} (omega arith) {i = 0} {j = j} (omega arith) in
    let one_less : suc (suc j) - 1 ≡ suc j = omega arith in
    let least : 10 ^ suc j ≤ n = subst (λ (k : ℕ). 10 ^ k ≤ n) one_less (fewest.2 (omega arith)) in
    let most : n < 10 ^ suc (suc j) = fewest.1 in
    let none-less : suc j - 1 ≡ j = omega arith in
    let at_least : 10 ^ (suc j - 1) ≤ n / 10 = rw none-less (omega arith) in
    let tenth = fewest-writes (suc j) (n / 10) (omega arith, omega arith, λ more. at_least) in
    let digit : n % 10 < 10 = omega arith in
    let parts : n / 10 * 10 + n % 10 ≡ n = omega arith in
    subst (λ (b : ℕ). Writes n (last_digits 10 (suc j) (n / 10) ++ (b ∷ []))) (sym (glyph-digit (n % 10) digit))
    (subst (λ (m : ℕ). Writes m (last_digits 10 (suc j) (n / 10) ++ ((zero_digit + n % 10) ∷ []))) parts
    (one_more (omega arith) digit tenth))

pub digits_decimal : (k n : ℕ) → IsDigitCount 10 1 n k → last_digits 10 k n ≡ decimal n
digits_decimal k n fewest = writes-decimal (fewest-writes k n fewest)

-- A refusal, by the digits of its number.
pub refusal-digit : (n : ℕ) → n < 10 → refusal_text n ≡ 114 ∷ 101 ∷ 102 ∷ 117 ∷ 115 ∷ 101 ∷ 100 ∷ 9 ∷ (48 + n) ∷ []
refusal-digit n small = rw (decimal_digit n small)

pub refusal-digits : (n : ℕ) → 10 ≤ n → n < 100
    → refusal_text n ≡ 114 ∷ 101 ∷ 102 ∷ 117 ∷ 115 ∷ 101 ∷ 100 ∷ 9 ∷ (48 + n / 10) ∷ (48 + n % 10) ∷ []
refusal-digits n least most =
    let tenth : n / 10 < 10 = omega arith in
    rw (decimal-large n least, decimal_digit (n / 10) tenth)

-- What is told, as bytes: the number as in a list, the word never, and with a line feed behind it the line of a refusal.
pub told-texts : ((g : ℕ) → asked_text (Ok (up_to g)) ≡ decimal g)
    × ((asked_text (Ok Never) ≡ 110 ∷ 101 ∷ 118 ∷ 101 ∷ 114 ∷ [])
    × ((why : Refusal) → asked_text (Err why) ++ (line_feed ∷ []) ≡ refusal_line (number_of why)))
told-texts = (λ g. refl, (refl, λ why. refl))

-- An array that holds bytes has them at its front.
pub holds-bytes : {text : Text} {bytes : List ℕ} → Holds text bytes → take text.len text.bytes ≡ bytes
holds-bytes holds = holds.held

-- A number of 32 bits has at most ten digits.
pub decimal_ten : (n : ℕ) → n < 2 ^ 32 → length (decimal n) ≤ 10
decimal_ten n fits = digits_most 9 n (omega arith)
  where
    digits_most : (k n : ℕ) → n < 10 ^ suc k → length (decimal n) ≤ suc k
    digits_most zero n small = rw (decimal_digit n small) (omega arith)
    digits_most (suc k) n small = by_size (dec_lt n 10) (digits_most k (n / 10))
      where
        by_size : Dec (n < 10) → (n / 10 < 10 ^ suc k → length (decimal (n / 10)) ≤ suc k) → length (decimal n) ≤ suc (suc k)
        by_size (yes one) tenth = rw (decimal_digit n one) (omega arith)
        by_size (no large) tenth =
            let fewer = tenth (omega (arith, pow-suc 10 (suc k))) in
            rw (decimal-large n (omega arith)) (simp length-append (omega arith))
