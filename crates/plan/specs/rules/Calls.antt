-- Document 01, "Calls on a plan", with placing as document 02, L1, has split it: the tables of finding, choosing, asking and writing, the
-- value where a call is accepted, and the lent bytes afterwards. L2 adds a second way of placing "with the table and refusals of L1": they
-- are the same by both. Entering and reading stand in `List`; what start and count hand back, and which plans the calls hand back, in
-- `calls/`.
-- Assumes nothing.
use Rattle.std.specs.Prelude.{Bool, not, List, [], ◌∷◌, ◌++◌, ℕ, ◌*◌, leb, ltb, eqb, length, drop, replicate}
use Rattle.placing.specs.declared.units.Side.{Side}
use Rattle.placing.specs.rules.Choice.{corner_at}
use Rattle.placing.specs.rules.Answer.{Answer, is_side}
use Rattle.plan.specs.declared.refusal.Refusal.TheVariants.{BadNumber, NoSuchSite, NoSites, NotPlaced, ShortBuffer, ShortTable, NoGoodChoice}
use Rattle.plan.specs.rules.Refusal.{Test, ◌gives◌, Result, accepted, refused, after, after_tests}
use Rattle.plan.specs.rules.List.{Site}

-- Document 02, L1: "a side outside the range gives 3".
abbrev pub outside : Side → Test
outside side = not (is_side side) gives BadNumber

-- "Placing a plan of no sites": n is the count.
abbrev pub no_sites : ℕ → Test
no_sites n = eqb n 0 gives NoSites

-- "The work table is shorter than n × n": it has so many bytes.
abbrev pub short_table : (n bytes : ℕ) → Test
short_table n bytes = ltb bytes (n * n) gives ShortTable

-- L1: "12 where no good choice exists at the given side".
abbrev pub no_good : Bool → Test
no_good exists = not exists gives NoGoodChoice

-- "Placing tests 8, 11": so does finding the side.
abbrev pub finding_tests : (n bytes : ℕ) → List Test
finding_tests n bytes = no_sites n ∷ short_table n bytes ∷ []

-- L1, choosing at a given side: 3 is "tested first", then 8 and 11,
abbrev pub before_choice : Side → (n bytes : ℕ) → List Test
before_choice side n bytes = outside side ∷ finding_tests n bytes

-- and 12 is "tested after 11".
abbrev pub choosing_tests : Side → (n bytes : ℕ) → (exists : Bool) → List Test
choosing_tests side n bytes exists = before_choice side n bytes ++ (no_good exists ∷ [])

-- "After placing, its first n × n bytes are zero and the others are untouched." L1: "Both calls leave the work table as placing did, and
-- 12, unlike other refusals, does so too": so it is after choosing unless a test of `before_choice` holds.
abbrev pub cleared : ℕ → List ℕ → List ℕ
cleared n table = replicate (n * n) 0 ++ drop (n * n) table

-- The program finds the side of the list that it reads: 8 where it has no sites.
abbrev pub to_place : Result (List Site) → Result (List Site)
to_place read = after read (λ sites. after_tests (no_sites (length sites) ∷ []) sites)

-- At a given side it tests 3 before the list's own refusals, and 12 after 8.
abbrev pub to_place_at : Side → (List Site → Bool) → Result (List Site) → Result (List Site)
to_place_at side exists read =
    after (after_tests (outside side ∷ []) read)
    (λ listed. after listed (λ sites. after_tests (no_sites (length sites) ∷ no_good (exists sites) ∷ []) sites))

-- "Asking side or corner, or writing, while unplaced": 9.
abbrev pub side_tests : Bool → List Test
side_tests placed = not placed gives NotPlaced ∷ []

abbrev pub side_given : Bool → Answer → Result Side
side_given placed answer = after_tests (side_tests placed) answer.side

-- "Asking a corner tests 9, 6", for the site of number i in list order, from 0.
abbrev pub corner_tests : Bool → ℕ → ℕ → List Test
corner_tests placed n i = not placed gives NotPlaced ∷ leb n i gives NoSuchSite ∷ []

abbrev pub corner_given : Bool → ℕ → Answer → ℕ → Result ℕ
corner_given placed n answer i = after_tests (corner_tests placed n i) (corner_at answer.corners i)

-- "Writing tests 9, 10", and "gives the sheet's length".
abbrev pub write_tests : Bool → List ℕ → List ℕ → List Test
write_tests placed sheet buffer = not placed gives NotPlaced ∷ ltb (length buffer) (length sheet) gives ShortBuffer ∷ []

abbrev pub length_given : Bool → List ℕ → List ℕ → Result ℕ
length_given placed sheet buffer = after_tests (write_tests placed sheet buffer) (length sheet)

-- "When accepted it fills the buffer from its first byte .. and changes no byte after it."
abbrev pub filled_with : List ℕ → List ℕ → List ℕ
filled_with sheet buffer = sheet ++ drop (length sheet) buffer

-- "A refusal hands back .. every lent byte as it came": these bytes where a call is accepted, else those before it.
abbrev pub bytes_after : {A B : Type 0} → Result A → B → B → B
bytes_after (accepted value) after before = after
bytes_after (refused why) after before = before
