-- Which hint a refused line has: the first of some common causes that shows in its bytes.
-- Assumes nothing.
use Rattle.std.specs.Prelude.{Bool, true, false, not, ◌&&◌, ◌||◌, List, [], ◌∷◌, ℕ, eqb, leb, length, Option, Some, None, codes}
use Rattle.plan.specs.rules.Text.{tab}
use Rattle.plan.specs.rules.List.{most_line_bytes, among, TextLine}
use Rattle.hints.specs.declared.Hint.{Hint}
use Rattle.hints.specs.declared.Hint.TheVariants.{ByteOrderMark, Empty, CarriageReturn, NoLineFeed, LongLine}
use Rattle.hints.specs.declared.Hint.TheVariants.{Heading, EndTab, Separator, LowerCase, Point}

-- ---- what is looked for in the bytes of a line

-- A byte is from low to high.
abbrev pub within : ℕ → ℕ → ℕ → Bool
within low high b = leb low b && leb b high

-- Some byte is from low to high.
unfoldable pub has : ℕ → ℕ → List ℕ → Bool
has low high bytes = among (within low high) bytes

-- Some byte is a space, a comma or a semicolon.
abbrev pub has_separator : List ℕ → Bool
has_separator bytes = has 32 32 bytes || (has 44 44 bytes || has 59 59 bytes)

-- The last byte is this one.
unfoldable pub ends_in : ℕ → List ℕ → Bool
ends_in last [] = false
ends_in last (b ∷ []) = eqb b last
ends_in last (b ∷ c ∷ bytes) = ends_in last (c ∷ bytes)

-- The bytes start with these.
unfoldable pub starts_with : List ℕ → List ℕ → Bool
starts_with [] bytes = true
starts_with (a ∷ start) [] = false
starts_with (a ∷ start) (b ∷ bytes) = eqb b a && starts_with start bytes

-- The bytes start with a byte order mark: EF BB BF, of UTF-8, or FF FE or FE FF, of UTF-16.
abbrev pub starts_with_mark : List ℕ → Bool
starts_with_mark bytes =
    starts_with (239 ∷ 187 ∷ 191 ∷ []) bytes || (starts_with (255 ∷ 254 ∷ []) bytes || starts_with (254 ∷ 255 ∷ []) bytes)

-- A line has no line feed and at most 20 bytes. Where reading 5,061 bytes cuts the first refused line, more than 20 of its bytes are left,
-- so that such a line ends the whole text.
abbrev pub lacks_feed : List ℕ → Bool → Bool
lacks_feed bytes ended = not ended && leb (length bytes) most_line_bytes

-- A heading row has no digit, and is line number 1 of its list.
abbrev pub is_heading : ℕ → List ℕ → Bool
is_heading number bytes = eqb number 1 && not (has 48 57 bytes)

-- ---- the table

-- A row: a test, and the hint that is given where it holds.
pub record HintTest : Type 0 where
  pub holds : Bool
  pub hint : Hint

infix 68 ◌gives◌
abbrev pub ◌gives◌ : Bool → Hint → HintTest
◌gives◌ holds hint = record { holds = holds; hint = hint }

-- The hint of the first row, if any, in the table's order, whose test holds.
abbrev pub first_hint : List HintTest → Option Hint
first_hint [] = None
first_hint (test ∷ tests) = elim test.holds [ true ↦ Some test.hint | false ↦ first_hint tests ]

-- The tests of a line and of its number in the list, from 1. A carriage return is byte 13, a to z are 97 to 122, a point is 46. From the
-- sixth row on the line is whole. LongLine is for lines without line feed alone; for others the rule's own words say it.
abbrev pub hint_tests : ℕ → TextLine → List HintTest
hint_tests number line =
    starts_with_mark line.bytes gives ByteOrderMark
    ∷ eqb (length line.bytes) 0 gives Empty
    ∷ has 13 13 line.bytes gives CarriageReturn
    ∷ lacks_feed line.bytes line.ended gives NoLineFeed
    ∷ not line.ended gives LongLine
    ∷ is_heading number line.bytes gives Heading
    ∷ ends_in tab line.bytes gives EndTab
    ∷ has_separator line.bytes gives Separator
    ∷ has 97 122 line.bytes gives LowerCase
    ∷ has 46 46 line.bytes gives Point
    ∷ []

-- The hint for a line, by its number in the list.
abbrev pub hint_of : ℕ → TextLine → Option Hint
hint_of number line = first_hint (hint_tests number line)

-- A line by its bytes and whether it is ended: no test looks at what follows.
abbrev pub line_of : List ℕ → Bool → TextLine
line_of bytes ended = record { bytes = bytes; ended = ended; rest = [] }

-- ---- in words

-- The cause in words, and what to do about it.
abbrev pub hint_text : Hint → List ℕ
hint_text ByteOrderMark = codes "it starts with a byte order mark; save the list as plain text without one"
hint_text Empty = codes "it is empty; leave no empty lines"
hint_text CarriageReturn = codes "it has a carriage return; end each line with a line feed alone"
hint_text NoLineFeed = codes "it has no line feed at its end; the last line needs one too"
hint_text LongLine = codes "it is over 20 bytes long; a line has a name, x and y alone"
hint_text Heading = codes "it has no digit; if it is a heading row, leave it out"
hint_text EndTab = codes "it ends in a tab with nothing behind it"
hint_text Separator = codes "it has a space, a comma or a semicolon; a list has one tab between two fields and none of these"
hint_text LowerCase = codes "it has lower-case letters; the letters of a list are A to Z"
hint_text Point = codes "it has a point; names and coordinates have none"
