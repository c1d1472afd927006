-- `with_digit` meets its contract: a byte that is no digit writes nothing, and a digit is appended. Assumes nothing.
use Rattle.std.specs.Prelude.{Option, Some, None, SomeIff}
use Rattle.std.specs.Bool.{then_some}
use Rattle.std.specs.Char.{digit_value}
use Rattle.std.proofs.Common.{sym, ap, ap₂, subst, ◌∙◌, arith, refl, Bool, true, false, ℕ, ◌≡◌, ◌<◌, ◌+◌, ◌*◌, ◌-◌, leb, ◌&&◌, [], ◌∷◌, le-leb}
use Rattle.std.proofs.lemmas.Bool.{leb-true}
use Rattle.std.proofs.lemmas.Str.{digit_value_digit}
use Rattle.std.proofs.lemmas.Str.Parse.{digit_from_value}
use Rattle.plan.specs.rules.Text.{digits_after}
use Rattle.plan.specs.code.NumberRead.{number_read}
use Rattle.plan.specs.code.NumberLaws.{digit-read}
use Rattle.plan.proofs.number.with_digit.Goals as goal

-- What a digit makes of the number before it.
abbrev appended : ℕ → ℕ → Option ℕ → Option ℕ
appended most n None = None
appended most n (Some d) = then_some (leb (n * 10 + d) most) (n * 10 + d)

-- That is the number which is read, where the digit is that of the byte.
byte-read : (most n b : ℕ) (digit : Option ℕ) → SomeIff digit (digit_value b < 10) (digit_value b)
    → number_read most (digits_after n (b ∷ [])) ≡ appended most n digit
byte-read most n b None never = digit-read most n b (by-tests (leb 48 b) (leb b 57) refl refl)
  where
    by-tests : (low high : Bool) → leb 48 b ≡ low → leb b 57 ≡ high → (leb 48 b && leb b 57) ≡ false
    by-tests true true l h = absurd (never (omega (arith, digit_value_digit b (leb-true 48 b l, leb-true b 57 h), leb-true b 57 h)))
    by-tests true false l h = ap₂ (λ (x y : Bool). x && y) l h
    by-tests false high l h = ap₂ (λ (x y : Bool). x && y) l h
byte-read most n b (Some d) is =
    let range = digit_from_value b is.0 in
    let same : b - 48 ≡ d = omega (arith, digit_value_digit b range, is.1) in
    digit-read most n b (ap₂ (λ (x y : Bool). x && y) (le-leb 48 b range.0) (le-leb b 57 range.1))
    ∙ ap (λ (x : ℕ). then_some (leb (n * 10 + x) most) (n * 10 + x)) same

-- The byte is given as a character of that code.
char-read : (most n b : ℕ) {code : ℕ} → code ≡ b → (digit : Option ℕ) → SomeIff digit (digit_value code < 10) (digit_value code)
    → number_read most (digits_after n (b ∷ [])) ≡ appended most n digit
char-read most n b {code} same digit is =
    byte-read most n b digit (subst (λ (x : ℕ). SomeIff digit (digit_value x < 10) (digit_value x)) same is)

pub returns-in_err-digit : goal.returns-in_err-digit
returns-in_err-digit c =
    let read = char-read c.args.most c.args.value c.args.b c.from.ensures _ c.to_digit.ensures.value in
    c.from_residual.ensures ∙ sym (read ∙ ap (appended c.args.most c.args.value) c.in_err-digit.was)

pub returns : goal.returns
returns c =
    let read = char-read c.args.most c.args.value c.args.b c.from.ensures _ c.to_digit.ensures.value in
    c.then_some.ensures ∙ sym (read ∙ ap (appended c.args.most c.args.value) c.in_ok-digit.was)
