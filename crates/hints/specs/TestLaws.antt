-- The tests of a line as the functions make them: byte by byte, and one after another.
-- Assumes nothing.
use Rattle.std.specs.Prelude.{map, Option, Some, cond, ◌≡◌, refl, Bool, true, false, not, ◌&&◌, ◌||◌, List, [], ◌∷◌, ◌++◌, ◌≢◌, ℕ, zero, suc, ◌+◌, ◌-◌, ◌≤◌, eqb, ltb, length, take, drop}
use Rattle.std.proofs.Common.{sym, ap, ap₂, ◌∙◌, add-one, arith, length-append}
use Rattle.std.proofs.Math.Seq.{take-length, take-append_seam}
use Rattle.std.proofs.lemmas.Bool.{eqb-true, eqb-false}
use Rattle.std.proofs.Math.Bool.{and-true}
use borrow.Author.Tests.{eq-eqb, ne_eqb, lt-ltb, le-ltb}
use Rattle.plan.specs.rules.Text.{line_feed, tab}
use Rattle.plan.specs.rules.List.{TextLine, FirstLine, with_feed, without_feed}
use Rattle.plan.specs.deciding.Reading.{with_byte, cut_line}
use Rattle.plan.specs.theorems.Reading.{cut-first-line}
use Rattle.std.specs.List.{find, list_any, starts_with as prefix_by, ends_with as suffix_by}
use Rattle.std.specs.Option.{option_map}
use lib.Pointwise.{pointwise}
use Rattle.hints.specs.declared.Hint.{Hint}
use Rattle.hints.specs.declared.Hint.TheVariants.{ByteOrderMark, Empty, CarriageReturn, NoLineFeed, LongLine}
use Rattle.hints.specs.declared.Hint.TheVariants.{Heading, EndTab, Separator, LowerCase, Point}
use Rattle.hints.specs.Hint.{within, has, has_separator, ends_in, starts_with, starts_with_mark, lacks_feed, is_heading}
use Rattle.hints.specs.Hint.{HintTest, ◌gives◌, first_hint, hint_of, line_of}

-- ---- the first line of a text

-- No byte of it is a line feed: its length counts the bytes before one.
pub empty-line : length (cut_line []).bytes ≡ 0
unfolding cut_line
empty-line = refl

pub feed-ends : (b : ℕ) (text : List ℕ) → b ≡ line_feed → length (cut_line (b ∷ text)).bytes ≡ 0
unfolding cut_line
feed-ends b text feed = rw feed refl

pub other-goes-on : (b : ℕ) (text : List ℕ) → b ≢ line_feed → length (cut_line (b ∷ text)).bytes ≡ length (cut_line text).bytes + 1
unfolding cut_line
other-goes-on b text other =
    ap (λ (line : TextLine). length line.bytes) (first-byte (eqb b line_feed) (ne_eqb b line_feed other)) ∙ sym (add-one _)
  where
    first-byte : (is : Bool) → is ≡ false → (elim is [ true ↦ record { bytes = []; ended = true; rest = text } | false ↦ with_byte b (cut_line text) ]) ≡ with_byte b (cut_line text)
    first-byte true is = cc
    first-byte false is = refl

-- The first line is as many bytes of the text as it is long, and ended where that is not all of them.
record Cut (text : List ℕ) (line : TextLine) : Type 0 where
  bytes_are : take (length line.bytes) text ≡ line.bytes
  ended_is : ltb (length line.bytes) (length text) ≡ line.ended
  inside : length line.bytes ≤ length text

cut_line_lem : (text : List ℕ) → Cut text (cut_line text)
unfolding cut_line
cut_line_lem [] = record { bytes_are = refl; ended_is = refl; inside = omega arith }
cut_line_lem (b ∷ text) = by_line (cut-first-line (b ∷ text) (omega arith))
  where
    by_line : {text : List ℕ} {line : TextLine} → FirstLine text line → Cut text line
    by_line (with_feed {bytes} {rest} without) =
        record {
          bytes_are = take-append_seam bytes (line_feed ∷ rest);
          ended_is = lt-ltb (length bytes) _ (simp length-append (omega arith));
          inside = simp length-append (omega arith);
        }
    by_line (without_feed {b} {bytes} without) =
        record { bytes_are = take-length (b ∷ bytes); ended_is = le-ltb (length (b ∷ bytes)) _ (omega arith); inside = omega arith }

pub cut_inside : (text : List ℕ) → length (cut_line text).bytes ≤ length text
cut_inside text = (cut_line_lem text).inside

-- So a text's first line has the hint of its bytes.
pub cut-hint : (number : ℕ) (text : List ℕ) {n : ℕ} {ended : Bool} → n ≡ length (cut_line text).bytes → ended ≡ ltb n (length text)
    → hint_of number (line_of (take n text) ended) ≡ hint_of number (cut_line text)
cut-hint number text {n} {ended} n-is ended_is =
    let bytes_are : take n text ≡ (cut_line text).bytes = rw n-is (cut_line_lem text).bytes_are in
    let ends : ended ≡ (cut_line text).ended = ended_is ∙ rw n-is (cut_line_lem text).ended_is in
    ap₂ (λ (bytes : List ℕ) (ended : Bool). hint_of number (line_of bytes ended)) bytes_are ends

-- ---- the bytes of a line

-- Some byte is from low to high as the library says it.
pub has-any : (low high : ℕ) (bytes : List ℕ) → list_any (λ b. within low high b) bytes ≡ has low high bytes
unfolding has
has-any low high [] = refl
has-any low high (b ∷ bytes) = ap (λ (rest : Bool). within low high b || rest) (has-any low high bytes)

-- The last byte is the one behind the others.
pub ends-behind : (last : ℕ) (front : List ℕ) (b : ℕ) → ends_in last (front ++ (b ∷ [])) ≡ eqb b last
unfolding ends_in
ends-behind last [] b = refl
ends-behind last (a ∷ []) b = refl
ends-behind last (a ∷ c ∷ front) b = ends-behind last (c ∷ front) b

-- Equality turned about.
eqb-turned : (a b : ℕ) → eqb a b ≡ eqb b a
eqb-turned a b = by-test (eqb a b) refl
  where
    by-test : (is : Bool) → eqb a b ≡ is → is ≡ eqb b a
    by-test true e = sym (eq-eqb b a (sym (eqb-true a b e)))
    by-test false e = sym (ne_eqb b a (λ same. eqb-false a b e (sym same)))

-- The last byte as the library says it.
last-part : (last : ℕ) (bytes : List ℕ) (n : ℕ) → suc n ≡ length bytes → pointwise eqb (last ∷ []) (drop n bytes) ≡ ends_in last bytes
unfolding ends_in
last-part last [] n all = absurd (omega (arith, all))
last-part last (b ∷ []) zero all = rw eqb-turned (and-true (eqb b last))
last-part last (b ∷ []) (suc n) all = absurd (omega (arith, all))
last-part last (b ∷ c ∷ bytes) zero all = absurd (omega (arith, all))
last-part last (b ∷ c ∷ bytes) (suc n) all = last-part last (c ∷ bytes) n (omega (arith, all))

pub ends-suffix : (last : ℕ) (bytes : List ℕ) → suffix_by eqb bytes (last ∷ []) ≡ ends_in last bytes
unfolding ends_in
ends-suffix last [] = refl
ends-suffix last (b ∷ bytes) = last-part last (b ∷ bytes) (length (b ∷ bytes) - 1) (omega arith)

-- The start as the library says it.
pub starts-prefix : (start bytes : List ℕ) → prefix_by eqb bytes start ≡ starts_with start bytes
unfolding starts_with
starts-prefix [] bytes = refl
starts-prefix (a ∷ start) [] = refl
starts-prefix (a ∷ start) (b ∷ bytes) = ap₂ (λ (s t : Bool). s && t) (eqb-turned a b) (starts-prefix start bytes)

-- ---- the table

-- A row of the code's table as a row of the rule's.
abbrev pub row_of : Bool × Hint → HintTest
row_of row = row.0 gives row.1

-- The hint of the first row that the library finds is the table's.
pub found-first : (rows : List (Bool × Hint)) → option_map (λ row. row.1) (find (λ row. row.0) rows) ≡ first_hint (map row_of rows)
found-first [] = refl
found-first ((true, hint) ∷ rows) = refl
found-first ((false, hint) ∷ rows) = found-first rows

-- The test of a cause in the rule's table,
abbrev pub shows : ℕ → TextLine → Hint → Bool
shows number line ByteOrderMark = starts_with_mark line.bytes
shows number line Empty = eqb (length line.bytes) 0
shows number line CarriageReturn = has 13 13 line.bytes
shows number line NoLineFeed = lacks_feed line.bytes line.ended
shows number line LongLine = not line.ended
shows number line Heading = is_heading number line.bytes
shows number line EndTab = ends_in tab line.bytes
shows number line Separator = has_separator line.bytes
shows number line LowerCase = has 97 122 line.bytes
shows number line Point = has 46 46 line.bytes

-- which has the causes in this order.
abbrev pub in_order : List Hint
in_order = ByteOrderMark ∷ Empty ∷ CarriageReturn ∷ NoLineFeed ∷ LongLine ∷ Heading ∷ EndTab ∷ Separator ∷ LowerCase ∷ Point ∷ []

-- A row of a cause: whether it shows, and its hint.
abbrev row_for : ℕ → TextLine → Hint → Bool × Hint
row_for number line hint = (shows number line hint, hint)

-- The first cause that shows is that of the first row that is found.
first-shown : (number : ℕ) (line : TextLine) (hints : List Hint)
    → find (shows number line) hints ≡ option_map (λ row. row.1) (find (λ row. row.0) (map (row_for number line) hints))
first-shown number line [] = refl
first-shown number line (hint ∷ hints) = by-test (shows number line hint) (find (λ row. row.0) (map (row_for number line) hints)) (first-shown number line hints)
  where
    by-test : (is : Bool) {rest : Option Hint} (rows : Option (Bool × Hint)) → (rest ≡ option_map (λ row. row.1) rows)
        → cond is (Some hint) rest ≡ option_map (λ row. row.1) (cond is (Some (is, hint)) rows)
    by-test true rows e = refl
    by-test false rows e = e

-- So the first cause in that order that shows is the rule's hint.
pub hint-shown : (number : ℕ) (line : TextLine) → find (shows number line) in_order ≡ hint_of number line
hint-shown number line = first-shown number line in_order ∙ found-first (map (row_for number line) in_order)
