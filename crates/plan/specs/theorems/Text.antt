-- Laws of names, of texts that are parted, and of numbers: `decimal` writes by the rule, and `number_in` reads exactly what is written so.
-- Assumes nothing.
use Rattle.std.specs.Prelude.{◌≡◌, ◌≢◌, Bool, ◌&&◌, ℕ, zero, suc, ◌+◌, ◌-◌, ◌*◌, ◌/◌, ◌%◌, ◌^◌, ◌≤◌, ◌<◌, eqb}
use Rattle.std.proofs.Math.Path.{refl}
use Rattle.std.proofs.Common.{sym, ap, ap₂, ◌∙◌, subst, pow-suc, div-add-mod', zero-add, length-append}
use Rattle.std.proofs.Math.Bool.{true, false, and-eq-true_iff}
use Rattle.std.proofs.lemmas.Bool.{false≢true}
use mathlib.Core.List.{List, [], ◌∷◌, ◌++◌, append_assoc, append-nil}
use Rattle.std.proofs.Math.Option.{some, none, some-injective, none-ne-some}
use Rattle.std.proofs.Math.Decide.{dec_lt}
use native.Mathlib.Omega.{arith}
use Rattle.std.proofs.Math.Dec.{leb}
use Rattle.std.proofs.Math.ListN.{length}
use Rattle.std.proofs.Math.Seq.{append_snoc}
use borrow.Author.Tests.{leb-true, le-leb, lt-leb, lt-ltb, le-ltb, eqb-true, eqb-false, eq-eqb, ne_eqb}
use Rattle.plan.specs.rules.Text.{is_name_byte, all_name_bytes, is_name, most_name_bytes, same_bytes, tab, line_feed, Without, with_first, parted, fields_of}
use Rattle.plan.specs.rules.Text.{zero_digit, Writes, one_digit, one_more, digits_of, decimal, digits_after, number_in}
use Rattle.plan.specs.rules.Sheet.{joined, but_last, lines_of}
use Rattle.plan.specs.calls.Lengths.{most_digits}

-- ---- names

-- A test of two parts is passed where both are.
pub and_both : (a b : Bool) → (a && b) ≡ true → (a ≡ true) × (b ≡ true)
and_both a b e = (and-eq-true_iff a b).0 e

-- Below the digits only the hyphen is of a name.
pub low-no-name-byte : (b : ℕ) → b ≢ 45 → b < 48 → is_name_byte b ≡ false
low-no-name-byte b e h = rw (lt-leb 65 b (omega arith), lt-leb 48 b h, ne_eqb b 45 e)

-- So no byte below the hyphen is.
name-bytes-without : (bytes : List ℕ) (b : ℕ) → b < 45 → all_name_bytes bytes ≡ true → Without b bytes
unfolding all_name_bytes
name-bytes-without [] b low e = tt
name-bytes-without (c ∷ bytes) b low e =
    let tests = and_both (is_name_byte c) (all_name_bytes bytes) e in
    (λ same. false≢true (sym (low-no-name-byte c (omega arith) (omega arith)) ∙ tests.0), name-bytes-without bytes b low tests.1)

-- A name has 1 to 8 bytes, and none below the hyphen: no tab and no line feed.
module _ (bytes : List ℕ) where
  tests : is_name bytes ≡ true → ((1 ≤ length bytes) × (length bytes ≤ most_name_bytes)) × (all_name_bytes bytes ≡ true)
  unfolding is_name
  tests e =
      let both = and_both (leb 1 (length bytes) && leb (length bytes) most_name_bytes) (all_name_bytes bytes) e in
      let sizes = and_both (leb 1 (length bytes)) (leb (length bytes) most_name_bytes) both.0 in
      ((leb-true 1 (length bytes) sizes.0, leb-true (length bytes) most_name_bytes sizes.1), both.1)

  pub name-some : is_name bytes ≡ true → 1 ≤ length bytes
  name-some e = (tests e).0.0

  pub name-short : is_name bytes ≡ true → length bytes ≤ most_name_bytes
  name-short e = (tests e).0.1

  pub name-without : (b : ℕ) → b < 45 → is_name bytes ≡ true → Without b bytes
  name-without b low e = name-bytes-without bytes b low (tests e).1

-- Texts that the test finds the same are equal ..
pub same-bytes-same : (a b : List ℕ) → same_bytes a b ≡ true → a ≡ b
unfolding same_bytes
same-bytes-same [] [] e = refl
same-bytes-same [] (c ∷ other) e = absurd (false≢true e)
same-bytes-same (b ∷ bytes) [] e = absurd (false≢true e)
same-bytes-same (b ∷ bytes) (c ∷ other) e =
    let tests = and_both (eqb b c) (same_bytes bytes other) e in
    ap₂ (λ (first : ℕ) (rest : List ℕ). first ∷ rest) (eqb-true b c tests.0) (same-bytes-same bytes other tests.1)

-- .. and it finds a text the same as itself.
pub same-bytes-refl : (a : List ℕ) → same_bytes a a ≡ true
unfolding same_bytes
same-bytes-refl [] = refl
same-bytes-refl (b ∷ bytes) = rw (eq-eqb b b refl, same-bytes-refl bytes, same_bytes)

-- ---- texts that are parted

-- Two texts without a byte, one after the other, are without it.
pub without-append : (b : ℕ) (xs ys : List ℕ) → Without b xs → Without b ys → Without b (xs ++ ys)
without-append b [] ys none-in-xs none-in-ys = none-in-ys
without-append b (c ∷ xs) ys none-in-xs none-in-ys = (none-in-xs.0, without-append b xs ys none-in-xs.1 none-in-ys)

-- The parts between bytes `by`.
module _ (by : ℕ) where
  -- A text without such a byte is one part.
  pub parted-one : (part : List ℕ) → Without by part → parted by part ≡ part ∷ []
  unfolding parted
  parted-one [] without = refl
  parted-one (b ∷ part) without = rw (ne_eqb b by without.0, parted-one part without.1, parted)

  -- One that stands in front of such a byte is the first part.
  pub parted-more : (part rest : List ℕ) → Without by part → parted by (part ++ (by ∷ rest)) ≡ part ∷ parted by rest
  unfolding parted
  parted-more [] rest without = rw (eq-eqb by by refl, parted)
  parted-more (b ∷ part) rest without = rw (ne_eqb b by without.0, parted-more part rest without.1, parted)

  -- There is a part.
  pub parted-some : (text : List ℕ) → 1 ≤ length (parted by text)
  unfolding parted
  parted-some [] = omega arith
  parted-some (b ∷ text) = by-test (eqb b by) (parted by text)
    where
      by-test : (ends : Bool) (parts : List (List ℕ))
          → 1 ≤ length {A = List ℕ} (elim ends [ true ↦ [] ∷ parts | false ↦ with_first b parts ])
      by-test true parts = omega arith
      by-test false [] = omega arith
      by-test false (part ∷ parts) = omega arith

-- One byte more at the first field is one more at the front of the line.
joined-with-first : (b : ℕ) (fields : List (List ℕ)) → joined (with_first b fields) ≡ b ∷ joined fields
joined-with-first b [] = refl
joined-with-first b (field ∷ []) = refl
joined-with-first b (field ∷ next ∷ fields) = refl

-- A field in front of others, and a part in front of others of which all but the last are wanted.
joined-more : (field : List ℕ) (fields : List (List ℕ)) → 1 ≤ length fields → joined (field ∷ fields) ≡ field ++ (tab ∷ joined fields)
joined-more field [] some-field = absurd (omega arith)
joined-more field (next ∷ fields) some-field = refl

but-last-more : (part : List ℕ) (parts : List (List ℕ)) → 1 ≤ length parts → but_last (part ∷ parts) ≡ part ∷ but_last parts
but-last-more part [] some-part = absurd (omega arith)
but-last-more part (next ∷ parts) some-part = refl

-- The fields of a line put together are the line.
pub fields-joined : (line : List ℕ) → joined (fields_of line) ≡ line
unfolding parted
fields-joined [] = refl
fields-joined (b ∷ line) = by-tab (fields-joined line) (eqb b tab) refl
  where
    by-tab : joined (fields_of line) ≡ line → (ends : Bool) → eqb b tab ≡ ends
        → joined (elim ends [ true ↦ [] ∷ fields_of line | false ↦ with_first b (fields_of line) ]) ≡ b ∷ line
    by-tab rest true is = joined-more [] (fields_of line) (parted-some tab line) ∙ cc (eqb-true b tab is)
    by-tab rest false is = joined-with-first b (fields_of line) ∙ ap (λ (bytes : List ℕ). b ∷ bytes) rest

-- No text has no lines; a text up to a line feed is the first line.
pub lines_none : lines_of [] ≡ []
unfolding parted
lines_none = refl

pub lines_more : (line rest : List ℕ) → Without line_feed line → lines_of (line ++ (line_feed ∷ rest)) ≡ line ∷ lines_of rest
lines_more line rest without =
    ap but_last (parted-more line_feed line rest without) ∙ but-last-more line (parted line_feed rest) (parted-some line_feed rest)

-- ---- the bytes that write a number

-- They are one or more.
written-some : {n : ℕ} {bytes : List ℕ} → Writes n bytes → 1 ≤ length bytes
written-some (one_digit small) = omega arith
written-some (one_more some-front digit is) = simp length-append (omega arith)

-- None is below the digits.
written-without : {n : ℕ} {bytes : List ℕ} → Writes n bytes → (b : ℕ) → b < zero_digit → Without b bytes
written-without (one_digit small) b low = (omega arith, tt)
written-without (one_more {d} {bytes = front} some-front digit is) b low =
    without-append b front ((zero_digit + d) ∷ []) (written-without is b low) (omega arith, tt)

-- They are no more than the digits of the power of ten that is above the number.
written-short : (k : ℕ) {n : ℕ} {bytes : List ℕ} → Writes n bytes → n < 10 ^ suc k → length bytes ≤ suc k
written-short k (one_digit small) below = omega arith
written-short zero (one_more some-front digit is) below = absurd (omega arith)
written-short (suc k) (one_more some-front digit is) below =
    let front = written-short k is (omega (arith, pow-suc 10 (suc k))) in simp length-append (omega arith)

-- What writes a number's tenth, and its last digit, write it.
tenth-writes : (n : ℕ) {front : List ℕ} → 10 ≤ n → Writes (n / 10) front → Writes n (front ++ ((zero_digit + n % 10) ∷ []))
tenth-writes n {front} large is =
    subst (λ (v : ℕ). Writes v (front ++ ((zero_digit + n % 10) ∷ []))) (div-add-mod' n 10) (one_more (omega arith) (omega arith) is)

-- The digits of a number write it ..
digits-write : (k n : ℕ) → n < k → Writes n (digits_of k n)
unfolding digits_of
digits-write zero n below = absurd (omega arith)
digits-write (suc k) n below = by_size (dec_lt n 10) (digits-write k (n / 10))
  where
    by_size : Dec (n < 10) → (n / 10 < k → Writes (n / 10) (digits_of k (n / 10))) → Writes n (digits_of (suc k) n)
    by_size (yes small) tenth = rw (lt-ltb n 10 small, digits_of) (one_digit small)
    by_size (no large) tenth = rw (le-ltb n 10 (omega arith), digits_of) (tenth-writes n (omega arith) (tenth (omega arith)))

pub decimal-writes : (n : ℕ) → Writes n (decimal n)
unfolding decimal
decimal-writes n = digits-write (suc n) n (omega arith)

-- .. and no other bytes do.
written-digits : (k : ℕ) {n : ℕ} {bytes : List ℕ} → Writes n bytes → n < k → bytes ≡ digits_of k n
unfolding digits_of
written-digits zero is below = absurd (omega arith)
written-digits (suc k) (one_digit {n} small) below = rw (lt-ltb n 10 small, digits_of)
written-digits (suc k) (one_more {m} {d} some-front digit is) below =
    let tenth : (m * 10 + d) / 10 ≡ m = omega arith in
    let last : (m * 10 + d) % 10 ≡ d = omega arith in
    rw (le-ltb (m * 10 + d) 10 (omega arith), digits_of, tenth, last, written-digits k is (omega arith))

pub writes-decimal : {n : ℕ} {bytes : List ℕ} → Writes n bytes → bytes ≡ decimal n
unfolding decimal
writes-decimal {n} is = written-digits (suc n) is (omega arith)

-- A number below 10 is written in one digit, any other as its tenth and its last digit.
pub decimal_digit : (n : ℕ) → n < 10 → decimal n ≡ (zero_digit + n) ∷ []
decimal_digit n small = sym (writes-decimal (one_digit small))

pub decimal-large : (n : ℕ) → 10 ≤ n → decimal n ≡ decimal (n / 10) ++ ((zero_digit + n % 10) ∷ [])
decimal-large n large = sym (writes-decimal (tenth-writes n large (decimal-writes (n / 10))))

-- What is written is one digit or more, with no byte below 48: no tab and no line feed.
pub decimal-some : (n : ℕ) → 1 ≤ length (decimal n)
decimal-some n = written-some (decimal-writes n)

pub decimal-without : (n b : ℕ) → b < zero_digit → Without b (decimal n)
decimal-without n b low = written-without (decimal-writes n) b low

pub decimal-short : (n : ℕ) → n < 100000 → length (decimal n) ≤ most_digits
decimal-short n below = written-short 4 (decimal-writes n) below

-- ---- the number in a text

-- A digit is read.
digit-read : (m d : ℕ) (bytes : List ℕ) → d < 10 → digits_after m ((zero_digit + d) ∷ bytes) ≡ digits_after (m * 10 + d) bytes
unfolding digits_after
digit-read m d bytes digit =
    let value : zero_digit + d - zero_digit ≡ d = omega arith in
    rw (le-leb zero_digit (zero_digit + d) (omega arith), le-leb (zero_digit + d) 57 (omega arith), value, digits_after)

-- What starts with bytes that write a number above zero has no leading zero, and is read on from there.
number-started : {m : ℕ} {front : List ℕ} → Writes m front → 1 ≤ m → (rest : List ℕ) → number_in (front ++ rest) ≡ digits_after m rest
unfolding number_in
number-started (one_digit {n} small) some-front rest =
    by-rest rest ∙ digit-read 0 n rest small ∙ ap (λ (v : ℕ). digits_after v rest) (omega arith)
  where
    by-rest : (rest : List ℕ) → number_in ((zero_digit + n) ∷ rest) ≡ digits_after 0 ((zero_digit + n) ∷ rest)
    by-rest [] = refl
    by-rest (c ∷ rest) = rw (ne_eqb (zero_digit + n) zero_digit (omega arith), number_in)
number-started (one_more {m} {d} {bytes = front} some-start digit is) some-front rest =
    rw append_assoc (number-started is some-start ((zero_digit + d) ∷ rest) ∙ digit-read m d rest digit)

-- The number that bytes write is in them,
pub written-number : {n : ℕ} {bytes : List ℕ} → Writes n bytes → number_in bytes ≡ some n
unfolding number_in digits_after
written-number (one_digit {n} small) = digit-read 0 n [] small ∙ ap some (omega arith)
written-number (one_more {m} {d} some-front digit is) = number-started is some-front ((zero_digit + d) ∷ []) ∙ digit-read m d [] digit

-- where a number is read, the first byte is a digit,
read-digit : (m b : ℕ) (bytes : List ℕ) (n : ℕ) → digits_after m (b ∷ bytes) ≡ some n
    → (d : ℕ) × (b ≡ zero_digit + d) × (d < 10) × (digits_after (m * 10 + d) bytes ≡ some n)
unfolding digits_after
read-digit m b bytes n e = by_tests (leb zero_digit b && leb b 57) refl e
  where
    by_tests : (digit : Bool) → leb zero_digit b && leb b 57 ≡ digit
        → elim digit [ true ↦ digits_after (m * 10 + (b - zero_digit)) bytes | false ↦ none ] ≡ some n
        → (d : ℕ) × (b ≡ zero_digit + d) × (d < 10) × (digits_after (m * 10 + d) bytes ≡ some n)
    by_tests true is e =
        let tests = and_both (leb zero_digit b) (leb b 57) is in
        let least : zero_digit ≤ b = leb-true zero_digit b tests.0 in
        let most : b ≤ 57 = leb-true b 57 tests.1 in
        (b - zero_digit, omega arith, omega arith, e)
    by_tests false is e = absurd (none-ne-some n e)

-- what is read after a number above zero writes the whole,
read-writes : {m : ℕ} {front : List ℕ} (bytes : List ℕ) {n : ℕ} → Writes m front → 1 ≤ m → digits_after m bytes ≡ some n
    → Writes n (front ++ bytes)
unfolding digits_after
read-writes {m} {front} [] {n} is some-front e = rw append-nil (subst (λ (v : ℕ). Writes v front) (some-injective m n e) is)
read-writes {m} {front} (b ∷ bytes) {n} is some-front e =
    let (d, same, digit, further) = read-digit m b bytes n e in
    rw (same, ← append_snoc) (read-writes {m = m * 10 + d} bytes (one_more some-front digit is) (omega arith) further)

-- so a text with a number in it writes that.
pub number-written : (text : List ℕ) (n : ℕ) → number_in text ≡ some n → Writes n text
unfolding number_in digits_after
number-written [] n e = absurd (none-ne-some n e)
number-written (b ∷ []) n e =
    let (d, same, digit, further) = read-digit 0 b [] n e in
    rw same (subst (λ (v : ℕ). Writes v ((zero_digit + d) ∷ [])) (some-injective d n (rw zero-add at further)) (one_digit digit))
number-written (b ∷ c ∷ bytes) n e = by-lead (eqb b zero_digit) refl e
  where
    by-lead : (zeros : Bool) → eqb b zero_digit ≡ zeros
        → elim zeros [ true ↦ none | false ↦ digits_after 0 (b ∷ c ∷ bytes) ] ≡ some n → Writes n (b ∷ c ∷ bytes)
    by-lead true is e = absurd (none-ne-some n e)
    by-lead false is e =
        let (d, same, digit, further) = read-digit 0 b (c ∷ bytes) n e in
        rw same (read-writes (c ∷ bytes) (one_digit digit) (omega (arith, eqb-false b zero_digit is)) (rw zero-add at further))

-- A number that is written is read, and a number that is read was written so.
pub number-decimal : (n : ℕ) → number_in (decimal n) ≡ some n
number-decimal n = written-number (decimal-writes n)

pub decimal-number : (text : List ℕ) (n : ℕ) → number_in text ≡ some n → text ≡ decimal n
decimal-number text n e = writes-decimal (number-written text n e)
