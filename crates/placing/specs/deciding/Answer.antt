-- Document 01, "The answer", and the choice at a given side, by plain search, which nothing runs.
-- Assumes nothing.
use Rattle.std.specs.Prelude.{Bool, true, false, List, [], ℕ, zero, suc, length}
use Rattle.std.proofs.Math.Option.{Option, none, some}
use Rattle.placing.specs.declared.units.Place.{Place}
use Rattle.placing.specs.declared.units.Side.{Side}
use Rattle.placing.specs.declared.way.Way.{Way}
use Rattle.placing.specs.rules.Units.{greatest_side, free_side}
use Rattle.placing.specs.rules.Answer.{Answer, judged_at, numbered, free}
use Rattle.placing.specs.deciding.Tests.{good_test}
use Rattle.placing.specs.deciding.Enumerate.{first_of}

-- The first good choice at side h.
unfoldable pub first_good : Way → ℕ → List Place → Option (List ℕ)
first_good way h ps = first_of (length ps) (good_test way h ps)

-- The greatest side from h down that has a good choice, with the first one there. Distinct places have a good choice at 1, so
-- that zero is never reached.
unfoldable pub greatest : Way → ℕ → List Place → Answer
greatest way zero ps = numbered 0 []
greatest way (suc h) ps = elim (first_good way (suc h) ps) [ some cs ↦ numbered (suc h) cs | none ↦ greatest way h ps ]

-- The answer: free where a good choice exists at 20,001, else the greatest side that has one.
unfoldable pub answer_of : Way → List Place → Answer
answer_of way ps = elim (first_good way free_side ps) [ some cs ↦ free cs | none ↦ greatest way greatest_side ps ]

-- Whether a choice exists, and its corners; none where it does not.
abbrev pub is_some : Option (List ℕ) → Bool
is_some (some cs) = true
is_some none = false

abbrev pub corners_of : Option (List ℕ) → List ℕ
corners_of (some cs) = cs
corners_of none = []

-- A given side with the first good choice there; it has no corners where none exists.
unfoldable pub chosen_at : Way → Side → List Place → Answer
chosen_at way side ps = record { side = side; corners = corners_of (first_good way (judged_at side) ps) }
