-- Every hint names something for which a line is refused: a line that is accepted has none, so that one with a hint is refused whatever
-- the sites before it are.
-- Assumes nothing.
use Rattle.std.specs.Prelude.{◌≡◌, Bool, false, ◌&&◌, ◌||◌, List, [], ◌∷◌, ◌++◌, ◌≢◌, ℕ, ◌+◌, ◌≤◌, ◌<◌, eqb, leb, length, get_or, None}
use Rattle.std.proofs.Math.Path.{refl, ap}
use Rattle.std.proofs.Common.{sym, ◌∙◌, subst, append_assoc, arith, length-append, leb-true, le-leb, ne_eqb}
use Rattle.std.proofs.Math.Bool.{true, and-false, or-true}
use Rattle.std.proofs.lemmas.Bool.{false≢true, lt-leb}
use Rattle.std.proofs.Math.Decide.{dec_lt}
use Rattle.std.proofs.Math.Seq.{get_or-append_seam}
use Rattle.plan.specs.declared.refusal.Refusal.{Refusal}
use Rattle.plan.specs.rules.Refusal.{first_refusal, Result, accepted, refused}
use Rattle.plan.specs.rules.Text.{is_name_byte, all_name_bytes, is_name, most_name_bytes, tab, fields_of}
use Rattle.plan.specs.rules.Text.{zero_digit, Writes, one_digit, one_more, decimal}
use Rattle.plan.specs.rules.List.{Site, no_site, list_line, wanted_in, TextLine, line_tests, line_entered}
use Rattle.plan.specs.theorems.Text.{and_both, decimal-writes}
use Rattle.plan.specs.theorems.Tables.{rest-none, unless-accepted}
use Rattle.plan.specs.theorems.Entering.{Passed, tests-passed}
use Rattle.plan.specs.theorems.Reading.{entered-line}
use Rattle.hints.specs.Hint.{within, has, has_separator, ends_in, starts_with, starts_with_mark, is_heading, hint_of}
use Rattle.hints.specs.TestLaws.{ends-behind}

-- ---- the bytes of an accepted line

-- A tab or a byte of a name, which digits are too.
abbrev list_byte : ℕ → Bool
list_byte b = eqb b tab || is_name_byte b

-- A text has only such bytes.
abbrev AllListBytes : List ℕ → Type 0
AllListBytes [] = Unit {0}
AllListBytes (b ∷ bytes) = (list_byte b ≡ true) × AllListBytes bytes

list-bytes-append : (xs ys : List ℕ) → AllListBytes xs → AllListBytes ys → AllListBytes (xs ++ ys)
list-bytes-append [] ys all-xs all-ys = all-ys
list-bytes-append (b ∷ xs) ys all-xs all-ys = (all-xs.0, list-bytes-append xs ys all-xs.1 all-ys)

-- It is so of a name,
name-bytes : (bytes : List ℕ) → all_name_bytes bytes ≡ true → AllListBytes bytes
unfolding all_name_bytes
name-bytes [] is = tt
name-bytes (b ∷ bytes) is =
    let both = and_both (is_name_byte b) (all_name_bytes bytes) is in (rw both.0 (or-true (eqb b tab)), name-bytes bytes both.1)

name-list-bytes : (bytes : List ℕ) → is_name bytes ≡ true → AllListBytes bytes
unfolding is_name
name-list-bytes bytes is =
    name-bytes bytes (and_both (leb 1 (length bytes) && leb (length bytes) most_name_bytes) (all_name_bytes bytes) is).1

-- and of a number,
digit-list-byte : (d : ℕ) → d < 10 → list_byte (zero_digit + d) ≡ true
digit-list-byte d digit =
    rw (
      ne_eqb (zero_digit + d) tab (omega arith),
      lt-leb 65 (zero_digit + d) (omega arith),
      le-leb zero_digit (zero_digit + d) (omega arith),
      le-leb (zero_digit + d) 57 (omega arith),
    )

number-list-bytes : {n : ℕ} {bytes : List ℕ} → Writes n bytes → AllListBytes bytes
number-list-bytes (one_digit {n} small) = (digit-list-byte n small, tt)
number-list-bytes (one_more {d} {bytes = front} some-front digit is) =
    list-bytes-append front ((zero_digit + d) ∷ []) (number-list-bytes is) (digit-list-byte d digit, tt)

-- which ends in a digit.
record EndsInDigit (bytes : List ℕ) : Type 0 where
  front : List ℕ
  digit : ℕ
  least : zero_digit ≤ digit
  most : digit ≤ 57
  parts : bytes ≡ front ++ (digit ∷ [])

number-ends : {n : ℕ} {bytes : List ℕ} → Writes n bytes → EndsInDigit bytes
number-ends (one_digit {n} small) = record { front = []; digit = zero_digit + n; least = omega arith; most = omega arith; parts = refl }
number-ends (one_more {d} {bytes = front} some-front digit is) =
    record { front = front; digit = zero_digit + d; least = omega arith; most = omega arith; parts = refl }

ends-append : (xs ys : List ℕ) → EndsInDigit ys → EndsInDigit (xs ++ ys)
ends-append xs ys ends =
    record {
      front = xs ++ ends.front;
      digit = ends.digit;
      least = ends.least;
      most = ends.most;
      parts = ap (λ (l : List ℕ). xs ++ l) ends.parts ∙ sym (append_assoc xs ends.front (ends.digit ∷ []));
    }

-- By this of the bytes of a line every test fails. It holds of the line of a site whose name is by the rule.
record LineBytes (bytes : List ℕ) : Type 0 where
  all : AllListBytes bytes
  ends : EndsInDigit bytes

line-bytes : (site : Site) → is_name site.name ≡ true → LineBytes (list_line site)
unfolding list_line
line-bytes site named =
    let writes-x = decimal-writes site.place.x.0 in
    let writes-y = decimal-writes site.place.y.0 in
    let name-and-x = site.name ++ (tab ∷ decimal site.place.x.0) in
    let y-field = tab ∷ decimal site.place.y.0 in
    record {
      all =
          list-bytes-append name-and-x y-field
          (list-bytes-append site.name (tab ∷ decimal site.place.x.0) (name-list-bytes site.name named)
          (refl, number-list-bytes writes-x))
          (refl, number-list-bytes writes-y);
      ends = ends-append name-and-x y-field (ends-append (tab ∷ []) (decimal site.place.y.0) (number-ends writes-y));
    }

-- ---- no test of a hint holds of such bytes

-- A byte that is in no such line is none of its bytes,
other_byte : (other b : ℕ) → list_byte other ≡ false → list_byte b ≡ true → b ≢ other
other_byte other b none is same = false≢true (sym none ∙ sym (ap list_byte same) ∙ is)

-- and none of them is above Z.
not-above : (b : ℕ) → list_byte b ≡ true → b ≤ 90
not-above b is = by_order (dec_lt 90 b)
  where
    by_order : Dec (90 < b) → b ≤ 90
    by_order (yes above) =
        absurd (false≢true
        (sym (rw (
          ne_eqb b tab (omega arith),
          le-leb 65 b (omega arith),
          lt-leb b 90 above,
          le-leb 48 b (omega arith),
          lt-leb b 57 (omega arith),
          ne_eqb b 45 (omega arith),
        ))
        ∙ is))
    by_order (no not_so) = omega arith

-- So such a line has no byte from low to high where these are in no such line: a byte alone, and the lower-case letters.
has-none : (low high : ℕ) → ((b : ℕ) → list_byte b ≡ true → within low high b ≡ false) → (bytes : List ℕ) → AllListBytes bytes
    → has low high bytes ≡ false
unfolding has
has-none low high apart [] all = refl
has-none low high apart (b ∷ bytes) all = rw (apart b all.0) (has-none low high apart bytes all.1)

has-not : (other : ℕ) → list_byte other ≡ false → (bytes : List ℕ) → AllListBytes bytes → has other other bytes ≡ false
has-not other none = has-none other other (λ b is. by-test b is (within other other b) refl)
  where
    by-test : (b : ℕ) → list_byte b ≡ true → (test : Bool) → within other other b ≡ test → test ≡ false
    by-test b is true e =
        let both = and_both (leb other b) (leb b other) e in
        absurd (other_byte other b none is (omega (arith, leb-true other b both.0, leb-true b other both.1)))
    by-test b is false e = refl

has-no-lower-case : (bytes : List ℕ) → AllListBytes bytes → has 97 122 bytes ≡ false
has-no-lower-case = has-none 97 122 (λ b is. rw (lt-leb 97 b (omega (arith, not-above b is))))

-- It starts with no byte order mark, whose first byte is in no such line.
starts-not : (first : ℕ) (mark bytes : List ℕ) → list_byte first ≡ false → AllListBytes bytes → starts_with (first ∷ mark) bytes ≡ false
unfolding starts_with
starts-not first mark [] none all = refl
starts-not first mark (b ∷ bytes) none all = rw (ne_eqb b first (other_byte first b none all.0))

-- A byte at the end is found, whatever stands in front of it.
has-behind : (low high : ℕ) (front : List ℕ) (b : ℕ) → low ≤ b → b ≤ high → has low high (front ++ (b ∷ [])) ≡ true
unfolding has
has-behind low high [] b least most = rw (le-leb low b least, le-leb b high most)
has-behind low high (a ∷ front) b least most = rw (has-behind low high front b least most) (or-true (within low high a))

-- The tests of the table, and so the table.
module _ {bytes : List ℕ} (of : LineBytes bytes) where
  no-mark : starts_with_mark bytes ≡ false
  no-mark =
      rw (
        starts-not 239 (187 ∷ 191 ∷ []) bytes refl of.all,
        starts-not 255 (254 ∷ []) bytes refl of.all,
        starts-not 254 (255 ∷ []) bytes refl of.all,
      )

  some_byte : eqb (length bytes) 0 ≡ false
  some_byte = ne_eqb (length bytes) 0 (λ none. omega (arith, none, simp length-append at (ap length of.ends.parts)))

  last-digit : (last : ℕ) → last < zero_digit → ends_in last bytes ≡ false
  last-digit last low =
      ap (ends_in last) of.ends.parts ∙ ends-behind last of.ends.front of.ends.digit
      ∙ ne_eqb of.ends.digit last (omega (arith, of.ends.least))

  no-heading : (number : ℕ) → is_heading number bytes ≡ false
  no-heading number =
      let some-digit : has 48 57 bytes ≡ true =
      ap (has 48 57) of.ends.parts ∙ has-behind 48 57 of.ends.front of.ends.digit of.ends.least of.ends.most in
      rw some-digit (and-false (eqb number 1))

  no-separator : has_separator bytes ≡ false
  no-separator = rw (has-not 32 refl bytes of.all, has-not 44 refl bytes of.all, has-not 59 refl bytes of.all)

bytes-no-hint : (number : ℕ) (line : TextLine) → LineBytes line.bytes → line.ended ≡ true → hint_of number line ≡ None
bytes-no-hint number line of ended =
    rw (
      no-mark of,
      some_byte of,
      has-not 13 refl line.bytes of.all,
      ended,
      no-heading of number,
      last-digit of tab (omega arith),
      no-separator of,
      has-no-lower-case line.bytes of.all,
      has-not 46 refl line.bytes of.all,
    )

-- ---- the theorem

-- So it is of an accepted line: its site is the one that its fields want, and its name is by the rule.
accepted-bytes : (sites : List Site) (line : TextLine) {next : List Site} → line_entered sites line ≡ accepted next
    → LineBytes line.bytes
accepted-bytes sites line is =
    let of = entered-line {sites = sites} {line = line} is in
    let wanted = wanted_in (fields_of line.bytes) in
    let told = unless-accepted (first_refusal (line_tests sites line)) is in
    let passed : Passed sites wanted = tests-passed (rest-none 3 (line_tests sites line) told.0) in
    let same : of.site ≡ wanted.site =
    sym (get_or-append_seam sites of.site [] no_site)
    ∙ ap (λ (l : List Site). get_or l (length sites) no_site) (sym of.next_is ∙ told.1)
    ∙ get_or-append_seam sites wanted.site [] no_site in
    subst LineBytes (sym of.written) (line-bytes of.site (ap (λ (s : Site). is_name s.name) same ∙ passed.given_name))

-- A line that is accepted has no hint, whatever its number is.
pub accepted-no-hint : (sites : List Site) (line : TextLine) {next : List Site} → line_entered sites line ≡ accepted next → (number : ℕ)
    → hint_of number line ≡ None
accepted-no-hint sites line is number =
    bytes-no-hint number line (accepted-bytes sites line is) (entered-line {sites = sites} {line = line} is).ended

-- So a line with a hint is refused, whatever the sites before it are.
pub hint-refused : (number : ℕ) (line : TextLine) → hint_of number line ≢ None → (sites : List Site)
    → (why : Refusal) × (line_entered sites line ≡ refused why)
hint-refused number line some-hint sites = by_result (line_entered sites line) refl
  where
    by_result : (result : Result (List Site)) → line_entered sites line ≡ result → (why : Refusal) × (line_entered sites line ≡ refused why)
    by_result (accepted next) is = absurd (some-hint (accepted-no-hint sites line is number))
    by_result (refused why) is = (why, is)
