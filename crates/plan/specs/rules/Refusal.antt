-- Document 01, "Refused because of the input" and "Refused because of the state", with document 02's number 12: the numbers, and how a
-- table of tests decides.
-- Assumes nothing.
use Rattle.std.specs.Prelude.{Bool, true, false, List, [], ◌∷◌, ℕ}
use Rattle.std.proofs.Math.Option.{Option, some, none}
use Rattle.plan.specs.declared.refusal.Refusal.{Refusal}
use Rattle.plan.specs.declared.refusal.Refusal.TheVariants.{BadLine, BadName, BadNumber, NameTaken, PlaceTaken, NoSuchSite, Full, NoSites, NotPlaced, ShortBuffer, ShortTable, NoGoodChoice}

-- The number of each refusal.
abbrev pub number_of : Refusal → ℕ
-- a line of other than three fields, over 20 bytes, or without its line feed
number_of BadLine = 1
-- a name outside the rule
number_of BadName = 2
-- a coordinate outside the rule; of document 02, a side outside the range, a place outside the range or a corner not 1 to 4; in a call from
-- C, which no document has, a number that is no way
number_of BadNumber = 3
-- a name already in the plan
number_of NameTaken = 4
-- a place already in the plan
number_of PlaceTaken = 5
-- a site number at or above the count
number_of NoSuchSite = 6
-- entering where 240 sites stand
number_of Full = 7
-- placing a plan of no sites
number_of NoSites = 8
-- asking side or corner, or writing, while unplaced
number_of NotPlaced = 9
-- the output buffer is shorter than the sheet
number_of ShortBuffer = 10
-- the work table is shorter than n × n
number_of ShortTable = 11
-- of document 02: no good choice exists at the given side
number_of NoGoodChoice = 12

-- A row of a call's table: a test, and the refusal that is given where it holds.
pub record Test : Type 0 where
  pub holds : Bool
  pub refusal : Refusal

infix 68 ◌gives◌
abbrev pub ◌gives◌ : Bool → Refusal → Test
◌gives◌ holds refusal = record { holds = holds; refusal = refusal }

-- The refusal of the first row, in the table's order, whose test holds.
abbrev pub first_refusal : List Test → Option Refusal
first_refusal [] = none
first_refusal (test ∷ tests) = elim test.holds [ true ↦ some test.refusal | false ↦ first_refusal tests ]

-- The number of a refusal, 0 where there is none; and the number that a table gives.
abbrev pub refusal_number : Option Refusal → ℕ
refusal_number none = 0
refusal_number (some why) = number_of why

abbrev pub number_by : List Test → ℕ
number_by tests = refusal_number (first_refusal tests)

-- What a call comes to: a value where it is accepted, else a refusal.
pub data Result (A : Type 0) : Type 0 where
  accepted : A → Result A
  refused : Refusal → Result A

-- This value, unless there is a refusal.
abbrev pub unless : {A : Type 0} → Option Refusal → A → Result A
unless none value = accepted value
unless (some why) value = refused why

-- What comes of a call after another that was accepted.
abbrev pub after : {A B : Type 0} → Result A → (A → Result B) → Result B
after (accepted value) next = next value
after (refused why) next = refused why

-- "No refusal is given outside its condition": the value, unless a test of the table holds.
abbrev pub after_tests : {A : Type 0} → List Test → A → Result A
after_tests tests value = unless (first_refusal tests) value
