-- Document 01, "Known answers": the cases marked P; and document 02, cases at given sides, L1, and above the spot, L2. They are rows of one
-- table with a theorem over the rows: what the calls of starting, entering, finding and choosing lead to. Each row is tested by entering its
-- sites and by the pruned search, which the checker computes, so that a row more needs no proof.
-- Assumes nothing.
use Rattle.std.specs.Prelude.{◌≡◌, Bool, true, false, ◌&&◌, ℕ, suc, ◌+◌, ◌*◌, ◌≤◌, T, eqb, length, Ok, Err}
use Rattle.std.proofs.Math.Path.{refl, ap}
use Rattle.std.proofs.Common.{sym, ◌∙◌, subst, ⊎_elim, mul-le-mul, arith, lit≤}
use Rattle.std.proofs.Math.Bool.{not}
use mathlib.Core.List.Memᴰ
use mathlib.Core.List.{List, [], ◌∷◌, ◌++◌, map, Memᴰ}
use Rattle.std.proofs.Math.Option.{Option, some, none}
use Rattle.std.proofs.Math.Nat.{le_trans}
use Rattle.placing.specs.declared.units.Place.{Place}
use Rattle.placing.specs.declared.units.Side.{Side}
use Rattle.placing.specs.declared.units.Side.TheVariants.{Number, Free}
use Rattle.placing.specs.declared.way.Way.{Way}
use Rattle.placing.specs.declared.way.Way.TheVariants.{Usual, Above}
use Rattle.placing.specs.rules.Choice.{MeetingPair}
use Rattle.placing.specs.rules.Answer.{Answer, is_side, judged_at, numbered, free}
use Rattle.placing.specs.deciding.Tests.{eq-decides, both-decide, not-decides, meeting_test, meeting-decides}
use Rattle.placing.specs.deciding.Answer.{answer_of, is_some, corners_of, chosen_at}
use Rattle.placing.specs.theorems.FactorTwo.{meeting-larger}
use Rattle.placing.specs.theorems.Given.{chosen_is}
use Rattle.placing.specs.theorems.PrunedSearch.{pruned_first}
use Rattle.placing.specs.theorems.CheckedAnswer.{equal_test, equal-decides, pruned-same, checked_test, checked-right, passed, both-passed}
use Rattle.plan.specs.declared.refusal.Refusal.{Refusal}
use Rattle.plan.specs.declared.refusal.Refusal.TheVariants.{BadNumber, NoSites, NoGoodChoice}
use Rattle.plan.specs.declared.plan.Plan.{Plan}
use Rattle.plan.specs.rules.Refusal.{number_of, Test, ◌gives◌, Result, accepted, refused, after_tests}
use Rattle.plan.specs.rules.Text.{is_name, all_name_bytes, same_bytes}
use Rattle.plan.specs.rules.List.{Site, place_at, places_of, Listed, entered, wanted_at}
use Rattle.plan.specs.rules.Calls.{outside, no_sites, no_good}
use Rattle.plan.specs.deciding.Output.{exists_at}
use Rattle.plan.specs.calls.Plan.{unplaced_plan, placed_with}
use Rattle.plan.specs.calls.Answers.{started, handed, entered_in, side_answer, found_in, chosen_in, Outcome, AskedSide, Planned}
use Rattle.plan.specs.theorems.Sites.{listed-none}
use Rattle.plan.specs.theorems.Entering.{entered-listed}
use Rattle.plan.specs.theorems.Sheet.{answer-listed}
use Rattle.plan.specs.theorems.Plan.{answer_in, placed-answer, sites-unplaced, holding-unplaced}
use Rattle.plan.specs.theorems.Choosing.{chosen-listed, found-done, placed_by}
use Rattle.plan.specs.theorems.HandedBack.{entered-more}

-- A name and two numbers to enter.
pub record Entry : Type 0 where
  pub name : List ℕ
  pub x : ℕ
  pub y : ℕ

-- What entries, and placing after them, lead to: this side with these corners, or step number i, from 0, is refused with this number.
-- The step after the last entry is placing.
pub data End : Type 0 where
  answered : Answer → End
  refused_at : (i number : ℕ) → End

-- The way of placing, entries, the side at which they are placed, where that is given and not found, and what they lead to; and where
-- document 01 tells it the side up to which the labels of the answer do not meet.
pub record Row : Type 0 where
  pub way : Way
  pub entries : List Entry
  pub at_side : Option Side
  pub end : End
  pub apart_to : Option ℕ

-- A row of which it does not, placed at the side found,
abbrev pub row : Way → List Entry → End → Row
row way entries end = record { way = way; entries = entries; at_side = none; end = end; apart_to = none }

-- and one at a given side.
abbrev pub given : Way → List Entry → Side → End → Row
given way entries side end = record { way = way; entries = entries; at_side = some side; end = end; apart_to = none }

abbrev pub number : ℕ → Side
number h = Number (record { 0 = h })

-- ---- the table

-- The name of one letter, at (x, y).
abbrev pub at : (letter x y : ℕ) → Entry
at letter x y = record { name = letter ∷ []; x = x; y = y }

-- The lists of which more than one row speaks: one site, two side by side, the unit square, four and five on the diagonal, A, B, C, nine
-- in three rows, and three in a row.
abbrev pub alone : List Entry
alone = at 65 5 5 ∷ []

abbrev pub pair : List Entry
pair = at 65 0 0 ∷ at 66 1 0 ∷ []

abbrev pub square : List Entry
square = at 65 0 0 ∷ at 66 1 0 ∷ at 67 0 1 ∷ at 68 1 1 ∷ []

abbrev pub four_diagonal : List Entry
four_diagonal = at 65 0 0 ∷ at 66 1 1 ∷ at 67 2 2 ∷ at 68 3 3 ∷ []

abbrev pub diagonal : List Entry
diagonal = four_diagonal ++ (at 69 4 4 ∷ [])

abbrev pub column : List Entry
column = at 65 10 10 ∷ at 66 10 14 ∷ at 67 10 20 ∷ []

abbrev pub nine : List Entry
nine = at 65 0 0 ∷ at 66 1 0 ∷ at 67 2 0 ∷ at 68 0 1 ∷ at 69 1 1 ∷ at 70 2 1 ∷ at 71 0 2 ∷ at 72 1 2 ∷ at 73 2 2 ∷ []

abbrev pub in_row : List Entry
in_row = at 65 0 0 ∷ at 66 3 0 ∷ at 67 10 0 ∷ []

-- Document 01's cases, in its order, and placing a plan of no sites; then those at given sides; then those above the spot.
abbrev pub rows : List Row
rows =
    row Usual alone (answered (free (1 ∷ [])))
    ∷ row Usual pair (answered (free (2 ∷ 1 ∷ [])))
    ∷ row Usual square (answered (free (3 ∷ 4 ∷ 2 ∷ 1 ∷ [])))
    ∷ row Usual four_diagonal (answered (free (3 ∷ 2 ∷ 4 ∷ 1 ∷ [])))
    ∷ row Usual diagonal (answered (numbered 4 (2 ∷ 4 ∷ 2 ∷ 4 ∷ 1 ∷ [])))
    ∷ record {
      way = Usual;
      entries = column;
      at_side = none;
      end = answered (numbered 6 (3 ∷ 1 ∷ 1 ∷ []));
      apart_to = some 12;
    }
    ∷ row Usual nine (answered (numbered 1 (1 ∷ 1 ∷ 1 ∷ 1 ∷ 1 ∷ 1 ∷ 1 ∷ 1 ∷ 1 ∷ [])))
    ∷ row Usual (at 65 10000 10000 ∷ []) (answered (free (1 ∷ [])))
    ∷ row Usual (at 65 10001 0 ∷ []) (refused_at 0 3)
    ∷ row Usual (at 65 0 10001 ∷ []) (refused_at 0 3)
    ∷ row Usual (at 65 5 5 ∷ at 66 5 5 ∷ []) (refused_at 1 5)
    ∷ row Usual (at 65 5 5 ∷ at 65 5 5 ∷ []) (refused_at 1 4)
    ∷ row Usual [] (refused_at 0 8)
    ∷ given Usual column (number 4) (answered (numbered 4 (1 ∷ 1 ∷ 1 ∷ [])))
    ∷ given Usual column (number 5) (answered (numbered 5 (3 ∷ 1 ∷ 1 ∷ [])))
    ∷ given Usual column (number 6) (answered (numbered 6 (3 ∷ 1 ∷ 1 ∷ [])))
    ∷ given Usual column (number 7) (refused_at 3 12)
    ∷ given Usual column Free (refused_at 3 12)
    ∷ given Usual diagonal (number 2) (answered (numbered 2 (2 ∷ 2 ∷ 2 ∷ 2 ∷ 1 ∷ [])))
    ∷ given Usual diagonal (number 3) (answered (numbered 3 (2 ∷ 4 ∷ 2 ∷ 4 ∷ 1 ∷ [])))
    ∷ given Usual alone (number 20000) (answered (numbered 20000 (1 ∷ [])))
    ∷ given Usual alone (number 20001) (refused_at 1 3)
    ∷ given Usual alone (number 0) (refused_at 1 3)
    ∷ given Usual [] (number 0) (refused_at 0 3)
    ∷ given Usual [] Free (refused_at 0 8)
    ∷ row Above square (answered (numbered 2 (1 ∷ 1 ∷ 1 ∷ 1 ∷ [])))
    ∷ row Above column (answered (numbered 8 (1 ∷ 1 ∷ 1 ∷ [])))
    ∷ row Above four_diagonal (answered (numbered 2 (1 ∷ 1 ∷ 1 ∷ 1 ∷ [])))
    ∷ row Above nine (answered (numbered 2 (1 ∷ 1 ∷ 1 ∷ 1 ∷ 1 ∷ 1 ∷ 1 ∷ 1 ∷ 1 ∷ [])))
    ∷ row Above in_row (answered (numbered 14 (2 ∷ 1 ∷ 1 ∷ [])))
    ∷ row Above pair (answered (free (2 ∷ 1 ∷ [])))
    ∷ row Above alone (answered (free (1 ∷ [])))
    ∷ given Above in_row (number 6) (answered (numbered 6 (1 ∷ 1 ∷ 1 ∷ [])))
    ∷ given Above in_row (number 7) (answered (numbered 7 (2 ∷ 1 ∷ 1 ∷ [])))
    ∷ given Above in_row (number 15) (refused_at 3 12)
    ∷ given Above column (number 6) (answered (numbered 6 (1 ∷ 1 ∷ 1 ∷ [])))
    ∷ given Above column Free (refused_at 3 12)
    ∷ given Above [] (number 0) (refused_at 0 3)
    ∷ given Above [] Free (refused_at 0 8)
    ∷ []

-- So many rows, and of these so many above the spot, at given sides, and with a side up to which labels do not meet: one that is left out
-- is missed.
pub rows-count : length rows ≡ 39
rows-count = refl

abbrev count_of : (Row → Bool) → List Row → ℕ
count_of is [] = 0
count_of is (row ∷ rows) = elim (is row) [ true ↦ suc (count_of is rows) | false ↦ count_of is rows ]

abbrev is_above : Way → Bool
is_above Usual = false
is_above Above = true

abbrev is_told : {A : Type 0} → Option A → Bool
is_told (some it) = true
is_told none = false

pub rows_above : count_of (λ row. is_above row.way) rows ≡ 14
rows_above = refl

pub rows-given : count_of (λ row. is_told row.at_side) rows ≡ 19
rows-given = refl

pub rows_apart : count_of (λ row. is_told row.apart_to) rows ≡ 1
rows_apart = refl

-- ---- what entries lead to

-- What follows a step: nothing where it is refused.
abbrev pub after_step : (Plan → End) → ℕ → Outcome → Plan → End
after_step next i (Ok done) plan = next plan
after_step next i (Err why) plan = refused_at i (number_of why)

-- The same of what a call hands back.
abbrev pub onward : (Plan → End) → ℕ → Planned → End
onward next i planned = after_step next i planned.outcome planned.plan

-- Choosing by a way at a side, and at the one that was found.
abbrev pub chosen_end : List ℕ → ℕ → Plan → Way → Side → End
chosen_end table i plan way side = onward (λ end. answered (answer_in end)) i (chosen_in plan way side table)

abbrev pub found_end : List ℕ → ℕ → Plan → Way → AskedSide → End
found_end table i plan way (Ok side) = chosen_end table i plan way side
found_end table i plan way (Err why) = refused_at i (number_of why)

-- Placing at a side, where one is given, else at the one that is found. Each call is lent a table of this length.
abbrev pub placed_end : List ℕ → ℕ → Plan → Way → Option Side → End
placed_end table i plan way none = found_end table i plan way (found_in plan way table)
placed_end table i plan way (some side) = chosen_end table i plan way side

-- Entries from number i on, into this plan, then placing.
abbrev pub leads_from : List ℕ → Way → Option Side → ℕ → Plan → List Entry → End
leads_from table way side i plan [] = placed_end table i plan way side
leads_from table way side i plan (entry ∷ entries) =
    onward (λ more. leads_from table way side (suc i) more entries) i (entered_in plan entry.name entry.x entry.y)

-- Into a started plan.
abbrev pub leads_to : List ℕ → Way → Option Side → List Entry → End
leads_to table way side entries = leads_from table way side 0 started entries

-- ---- the same by sites, as it is computed

-- Entered one after another: the sites of all, to be placed at the side found, or the first step that is refused, or the end at a given
-- side.
data Run : Type 0 where
  through : List Site → Run
  stopped : (i : ℕ) → Refusal → Run
  ended : End → Run

-- The end at a given side, by plain search and by the pruned one.
abbrev result_end : ℕ → Result Answer → End
result_end i (accepted answer) = answered answer
result_end i (refused why) = refused_at i (number_of why)

abbrev end_by : Option (List ℕ) → ℕ → Side → List Site → End
end_by first i side sites =
    result_end i (after_tests (outside side ∷ no_sites (length sites) ∷ no_good (is_some first) ∷ []) (record { side = side; corners = corners_of first }))

abbrev end_at : Way → ℕ → Side → List Site → End
end_at way i side sites = end_by (pruned_first way (judged_at side) (places_of sites)) i side sites

-- What follows an entry: nothing where it is refused.
abbrev run_on : (List Site → Run) → ℕ → Result (List Site) → Run
run_on next i (accepted sites) = next sites
run_on next i (refused why) = stopped i why

-- Placing these sites; placing no sites is refused.
abbrev run_placed : Way → Option Side → ℕ → List Site → Run
run_placed way (some side) i sites = ended (end_at way i side sites)
run_placed way none i [] = stopped i NoSites
run_placed way none i (site ∷ sites) = through (site ∷ sites)

-- Entries from number i on, after these sites.
abbrev run_from : Way → Option Side → ℕ → List Site → List Entry → Run
run_from way side i sites [] = run_placed way side i sites
run_from way side i sites (entry ∷ entries) =
    run_on (λ more. run_from way side (suc i) more entries) i (entered sites (wanted_at entry.name entry.x entry.y))

-- All sites have the answer for their places; a refusal is its number.
abbrev end_of : Way → Run → End
end_of way (through sites) = answered (answer_of way (places_of sites))
end_of way (stopped i why) = refused_at i (number_of why)
end_of way (ended end) = end

-- By a way, with a table for so many sites.
module _ (way : Way) (table : List ℕ) (most : ℕ) (enough : most * most ≤ length table) where
  -- Choosing at a side for sites that are listed.
  choosing-run : (side : Side) (i : ℕ) (sites : List Site) → Listed sites → length sites ≤ most
      → chosen_end table i (unplaced_plan sites) way side ≡ end_at way i side sites
  unfolding chosen_at
  choosing-run side i sites listed few =
      ap (onward (λ end. answered (answer_in end)) i) (chosen-listed way side sites table (le_trans (mul-le-mul few few) enough))
      ∙ by_tests (is_side side) refl (eqb (length sites) 0) (exists_at way side sites) refl
      ∙ ap (λ (first : Option (List ℕ)). end_by first i side sites) (sym (pruned-same way (judged_at side) (places_of sites)))
    where
      tests : (a b d : Bool) → List Test
      tests a b d = not a gives BadNumber ∷ b gives NoSites ∷ not d gives NoGoodChoice ∷ []

      by_tests : (a : Bool) → is_side side ≡ a → (b d : Bool) → exists_at way side sites ≡ d
          → onward (λ end. answered (answer_in end)) i
          (handed (placed_with sites way) (unplaced_plan sites) (after_tests (tests a b d) (chosen_at way side (places_of sites))))
          ≡ result_end i (after_tests (tests a b d) (chosen_at way side (places_of sites)))
      by_tests false given b d there = refl
      by_tests true given true d there = refl
      by_tests true given false false there = refl
      by_tests true given false true there =
          ap answered (placed-answer sites (chosen_at way side (places_of sites)) (chosen_is way (places_of sites) side given there))

  -- Finding the side first.
  finding-run : (i : ℕ) (sites : List Site) → Listed sites → length sites ≤ most
      → found_end table i (unplaced_plan sites) way (found_in (unplaced_plan sites) way table) ≡ end_of way (run_placed way none i sites)
  unfolding unplaced_plan
  finding-run i [] listed few = refl
  finding-run i (site ∷ sites) listed few =
      let plan = unplaced_plan (site ∷ sites) in
      let room = le_trans (mul-le-mul few few) enough in
      let answer = answer_of way (places_of (site ∷ sites)) in
      let found = found-done plan table (λ none. omega arith) room way in
      let side = ap (λ (l : List Site). (answer_of way (places_of l)).side) (sites-unplaced (site ∷ sites)) in
      ap (λ (r : Result Side). found_end table i plan way (side_answer r)) (found ∙ ap accepted side)
      ∙ ap (onward (λ end. answered (answer_in end)) i)
      (placed_by answer table (holding-unplaced listed) (sites-unplaced (site ∷ sites)) (omega arith) room (answer-listed way (site ∷ sites) listed))
      ∙ ap answered (placed-answer (site ∷ sites) answer (answer-listed way (site ∷ sites) listed))

  -- The calls on plans lead where the sites by themselves do.
  leads-run : (side : Option Side) (i : ℕ) (sites : List Site) → Listed sites → (entries : List Entry) → length sites + length entries ≤ most
      → leads_from table way side i (unplaced_plan sites) entries ≡ end_of way (run_from way side i sites entries)
  leads-run none i sites listed [] few = finding-run i sites listed (omega arith)
  leads-run (some side) i sites listed [] few = choosing-run side i sites listed (omega arith)
  leads-run side i sites listed (entry ∷ entries) few =
      rw (sites-unplaced sites)
      (step (λ more each fewer. leads-run side (suc i) more each entries fewer) (entered sites (wanted_at entry.name entry.x entry.y)) refl)
    where
      step : ((more : List Site) → Listed more → length more + length entries ≤ most
          → leads_from table way side (suc i) (unplaced_plan more) entries ≡ end_of way (run_from way side (suc i) more entries))
          → (after : Result (List Site)) → entered sites (wanted_at entry.name entry.x entry.y) ≡ after
          → onward (λ more. leads_from table way side (suc i) more entries) i (handed unplaced_plan (unplaced_plan sites) after)
          ≡ end_of way (run_on (λ more. run_from way side (suc i) more entries) i after)
      step further (accepted more) e =
          further more (entered-listed entry.name entry.x entry.y listed e)
          (omega (arith, entered-more sites entry.name entry.x entry.y e))
      step further (refused why) e = refl

-- ---- the test of a row

-- Two sides, and two ends, are the same.
abbrev side_test : Side → Side → Bool
side_test (Number h) (Number k) = eqb h.0 k.0
side_test (Number h) Free = false
side_test Free (Number k) = false
side_test Free Free = true

side_right : (side other : Side) → T (side_test side other) → side ≡ other
side_right (Number h) (Number k) test = let same = passed (eq-decides h.0 k.0) test in λ i. Number (record { 0 = same i })
side_right (Number h) Free test = absurd test
side_right Free (Number k) test = absurd test
side_right Free Free test = refl

abbrev same_end : End → End → Bool
same_end (answered one) (answered other) = side_test one.side other.side && equal_test one.corners other.corners
same_end (answered one) (refused_at i number) = false
same_end (refused_at j number) (answered other) = false
same_end (refused_at j number) (refused_at i other) = eqb j i && eqb number other

same_end_lem : (one other : End) → T (same_end one other) → one ≡ other
same_end_lem (answered one) (answered other) test =
    let both = both-passed (side_test one.side other.side) (equal_test one.corners other.corners) test in
    let side = side_right one.side other.side both.0 in
    let corners = passed (equal-decides one.corners other.corners) both.1 in
    λ k. answered (record { side = side k; corners = corners k })
same_end_lem (answered one) (refused_at i number) test = absurd test
same_end_lem (refused_at j number) (answered other) test = absurd test
same_end_lem (refused_at j number) (refused_at i other) test =
    let same = passed (both-decide (eq-decides j i) (eq-decides number other)) test in
    λ k. refused_at (same.0 k) (same.1 k)

-- A run ends so: the answer is found by the search, another end is this one.
abbrev end_test : Way → Run → End → Bool
end_test way (through sites) (answered answer) = checked_test way (places_of sites) answer
end_test way (through sites) (refused_at i number) = false
end_test way (stopped j why) end = same_end (refused_at j (number_of why)) end
end_test way (ended one) end = same_end one end

-- The places of entries.
abbrev pub spots : List Entry → List Place
spots entries = map (λ entry. place_at entry.x entry.y) entries

-- The labels of an answer do not meet at the side that is told.
abbrev apart_test : List Place → End → Option ℕ → Bool
apart_test places end none = true
apart_test places (answered answer) (some side) = not (meeting_test side 1 places answer.corners)
apart_test places (refused_at i number) (some side) = false

-- The run of a row, and its tests.
abbrev run_of : Row → Run
run_of row = run_from row.way row.at_side 0 [] row.entries

abbrev row_test : Row → Bool
row_test row = end_test row.way (run_of row) row.end && apart_test (spots row.entries) row.end row.apart_to

abbrev rows_test : List Row → Bool
rows_test [] = true
rows_test (row ∷ rows) = row_test row && rows_test rows

-- Every row of a list that passes passes.
row-passed : (rows : List Row) → T (rows_test rows) → (row : Row) → Memᴰ row rows → T (row_test row)
row-passed [] test row member = absurd (Memᴰ.not-nil member)
row-passed (first ∷ rows) test row member =
    let parts = both-passed (row_test first) (rows_test rows) test in
    ⊎_elim (λ same. subst (λ (r : Row). T (row_test r)) (sym same) parts.0) (row-passed rows parts.1 row) (Memᴰ.cases_cons member)

-- So every row of the table does: antt computes it.
known-passed : (row : Row) → Memᴰ row rows
    → T (end_test row.way (run_of row) row.end) × T (apart_test (spots row.entries) row.end row.apart_to)
unfolding is_name all_name_bytes same_bytes
known-passed row member =
    both-passed (end_test row.way (run_of row) row.end) (apart_test (spots row.entries) row.end row.apart_to)
    (row-passed rows tt row member)

-- An end that passes its test is right.
end-right : (way : Way) (run : Run) (end : End) → T (end_test way run end) → end_of way run ≡ end
end-right way (through sites) (answered answer) test = ap answered (checked-right way (places_of sites) answer test)
end-right way (through sites) (refused_at i number) test = absurd test
end-right way (stopped j why) end test = same_end_lem (refused_at j (number_of why)) end test
end-right way (ended one) end test = same_end_lem one end test

-- The entries of every row lead to its end, with a work table of n × n bytes for n entries.
pub known : (row : Row) → Memᴰ row rows → (table : List ℕ) → length row.entries * length row.entries ≤ length table
    → leads_to table row.way row.at_side row.entries ≡ row.end
known row member table enough =
    leads-run row.way table (length row.entries) enough row.at_side 0 [] listed-none row.entries (omega arith)
    ∙ end-right row.way (run_of row) row.end (known-passed row member).0

-- Labels that do not meet at a side meet at no smaller one.
apart-right : (places : List Place) (end : End) (told : Option ℕ) {answer : Answer} {side : ℕ} → T (apart_test places end told)
    → end ≡ answered answer → told ≡ some side → (p q : ℕ) → p ≤ side * q → MeetingPair p q places answer.corners → ⊥
apart-right places end none test is told_is p q fits pair = let z : ◌≡◌ {A = ℕ} 0 1 = cc in omega arith
apart-right places (refused_at i number) (some s) test is told_is p q fits pair = test
apart-right places (answered a) (some s) {answer} {side} test is told_is p q fits pair =
    let same : a ≡ answer = cc in
    let same-side : s ≡ side = cc in
    let within : p ≤ s * q = rw same-side fits in
    passed (not-decides (meeting-decides s 1 places a.corners)) test
    (meeting-larger (lit≤ tt) (omega arith) (subst (λ (x : Answer). MeetingPair p q places x.corners) (sym same) pair))

-- The labels of every row's answer do not meet up to the side that it tells: for A, B, C up to 12, twice the side of its answer, "so the
-- factor two is reached".
pub known-apart : (row : Row) → Memᴰ row rows → {answer : Answer} {side : ℕ} → row.end ≡ answered answer → row.apart_to ≡ some side
    → (p q : ℕ) → p ≤ side * q → MeetingPair p q (spots row.entries) answer.corners → ⊥
known-apart row member is told_is =
    apart-right (spots row.entries) row.end row.apart_to (known-passed row member).1 is told_is
