-- Document 01, "Units and limits" and "List and sheet": names, fields and numbers as bytes.
-- Assumes nothing.
use Rattle.std.specs.Prelude.{Bool, true, false, ◌&&◌, ◌||◌, List, [], ◌∷◌, ◌++◌, ◌≢◌, ℕ, zero, suc, ◌+◌, ◌-◌, ◌*◌, ◌/◌, ◌%◌, ◌≤◌, ◌<◌, eqb, leb, ltb, length}
use Rattle.std.proofs.Math.Option.{Option, some, none}

-- ---- names: "A name is 1 to 8 bytes, each A to Z, 0 to 9 or hyphen." In ASCII A to Z are 65 to 90, 0 to 9 are 48 to 57, hyphen is 45.

abbrev pub most_name_bytes : ℕ
most_name_bytes = 8

abbrev pub is_name_byte : ℕ → Bool
is_name_byte b = (leb 65 b && leb b 90) || ((leb 48 b && leb b 57) || eqb b 45)

unfoldable pub all_name_bytes : List ℕ → Bool
all_name_bytes [] = true
all_name_bytes (b ∷ bytes) = is_name_byte b && all_name_bytes bytes

unfoldable pub is_name : List ℕ → Bool
is_name bytes = (leb 1 (length bytes) && leb (length bytes) most_name_bytes) && all_name_bytes bytes

-- Two texts have the same bytes.
unfoldable pub same_bytes : List ℕ → List ℕ → Bool
same_bytes [] [] = true
same_bytes [] (c ∷ other) = false
same_bytes (b ∷ bytes) [] = false
same_bytes (b ∷ bytes) (c ∷ other) = eqb b c && same_bytes bytes other

-- ---- tabs, line feeds and fields: "parted by one tab each, each line ended by a line feed (byte 10, decimal)"

abbrev pub tab : ℕ
tab = 9

abbrev pub line_feed : ℕ
line_feed = 10

-- No byte of the text is b.
abbrev pub Without : ℕ → List ℕ → Type 0
Without b [] = Unit {0}
Without b (c ∷ bytes) = (c ≢ b) × Without b bytes

-- Parts of which the first has one byte more in front; there is always a first.
abbrev pub with_first : ℕ → List (List ℕ) → List (List ℕ)
with_first b [] = (b ∷ []) ∷ []
with_first b (part ∷ parts) = (b ∷ part) ∷ parts

-- The parts of a text between the bytes that part it: one more than there are such bytes.
unfoldable pub parted : ℕ → List ℕ → List (List ℕ)
parted by [] = [] ∷ []
parted by (b ∷ text) = elim (eqb b by) [ true ↦ [] ∷ parted by text | false ↦ with_first b (parted by text) ]

abbrev pub fields_of : List ℕ → List (List ℕ)
fields_of line = parted tab line

-- ---- numbers: "A number is written in one or more decimal digits with no sign and no leading zero; zero is 0."

-- The digit 0 as a byte; the others follow it.
abbrev pub zero_digit : ℕ
zero_digit = 48

-- The bytes write the number: a number below 10 is one digit, any other is what writes its tenth, which is not 0, and its last digit.
pub data Writes : ℕ → List ℕ → Type 0 where
  one_digit : {n : ℕ} → n < 10 → Writes n ((zero_digit + n) ∷ [])
  one_more : {m d : ℕ} {bytes : List ℕ} → 1 ≤ m → d < 10 → Writes m bytes → Writes (m * 10 + d) (bytes ++ ((zero_digit + d) ∷ []))

-- The function that writes by this rule, as `theorems/Text` shows: the digits of n, at most k of them; no number has more than n + 1.
unfoldable pub digits_of : ℕ → ℕ → List ℕ
digits_of zero n = []
digits_of (suc k) n = elim (ltb n 10) [ true ↦ (zero_digit + n) ∷ [] | false ↦ digits_of k (n / 10) ++ ((zero_digit + n % 10) ∷ []) ]

unfoldable pub decimal : ℕ → List ℕ
decimal n = digits_of (suc n) n

-- The number that these digits append to n, if all are digits.
unfoldable pub digits_after : ℕ → List ℕ → Option ℕ
digits_after n [] = some n
digits_after n (b ∷ bytes) =
    elim (leb zero_digit b && leb b 57) [ true ↦ digits_after (n * 10 + (b - zero_digit)) bytes | false ↦ none ]

-- The function that reads by this rule, as `theorems/Text` shows: the number that a text writes, if it writes one.
unfoldable pub number_in : List ℕ → Option ℕ
number_in [] = none
number_in (b ∷ []) = digits_after 0 (b ∷ [])
number_in (b ∷ c ∷ bytes) = elim (eqb b zero_digit) [ true ↦ none | false ↦ digits_after 0 (b ∷ c ∷ bytes) ]

-- A number that is read, or 0 where none is.
abbrev pub or_zero : Option ℕ → ℕ
or_zero none = 0
or_zero (some n) = n
