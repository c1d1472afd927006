-- A test of an answer that a checker can run: by the pruned search at the answer's side and at the next one. The known answers
-- are proved by it.
-- Assumes nothing.
use Rattle.std.specs.Prelude.{◌≡◌, refl, Bool, true, false, ◌&&◌, ℕ, suc, T, leb, eqb}
use Rattle.std.proofs.Common.{sym, ap}
use mathlib.Core.List.{List, [], ◌∷◌, cons≢nil}
use Rattle.std.proofs.Math.Option.{Option, none, some, some-ne-none, none-ne-some}
use Rattle.placing.specs.declared.units.Place.{Place}
use Rattle.placing.specs.declared.units.Side.{Side}
use Rattle.placing.specs.declared.units.Side.TheVariants.{Number, Free}
use Rattle.placing.specs.declared.way.Way.{Way}
use Rattle.placing.specs.rules.Units.{Distinct, greatest_side, free_side}
use Rattle.placing.specs.rules.Choice.{Good}
use Rattle.placing.specs.rules.Answer.{Answer}
use Rattle.placing.specs.deciding.Decides.{Decides, decides-same, decides-no, decides-yes}
use Rattle.placing.specs.deciding.Tests.{le-decides, eq-decides, both-decide, distinct_test, distinct-decides}
use Rattle.placing.specs.deciding.Enumerate.{FirstWith, found, missing, found_first, nothing-found}
use Rattle.placing.specs.deciding.Answer.{first_good, answer_of}
use Rattle.placing.specs.theorems.Answer.{first_found, none_found, answer-found, answer-free}
use Rattle.placing.specs.theorems.PrunedSearch.{pruned_first, pruned-first}

-- Two lists of corners are equal.
abbrev pub equal_test : List ℕ → List ℕ → Bool
equal_test [] [] = true
equal_test [] (e ∷ es) = false
equal_test (c ∷ cs) [] = false
equal_test (c ∷ cs) (e ∷ es) = eqb c e && equal_test cs es

pub equal-decides : (cs es : List ℕ) → Decides (equal_test cs es) (cs ≡ es)
equal-decides [] [] = decides-yes refl
equal-decides [] (e ∷ es) = decides-no (λ same. cons≢nil (sym same))
equal-decides (c ∷ cs) [] = decides-no cons≢nil
equal-decides (c ∷ cs) (e ∷ es) =
    decides-same (λ r i. r.0 i ∷ r.1 i) (λ p. (cc, cc)) (both-decide (eq-decides c e) (equal-decides cs es))

-- A search has found these corners, or nothing.
abbrev found_test : Option (List ℕ) → Option (List ℕ) → Bool
found_test none none = true
found_test none (some cs) = false
found_test (some es) none = false
found_test (some es) (some cs) = equal_test es cs

found-decides : (o w : Option (List ℕ)) → Decides (found_test o w) (o ≡ w)
found-decides none none = decides-yes refl
found-decides none (some cs) = decides-no (none-ne-some cs)
found-decides (some es) none = decides-no (some-ne-none es)
found-decides (some es) (some cs) = decides-same (ap some) (λ p. cc) (equal-decides es cs)

-- The pruned search finds these corners at 20,001, or at this side with nothing at the next.
abbrev answer_test : Way → List Place → Side → List ℕ → Bool
answer_test way ps Free cs = found_test (pruned_first way free_side ps) (some cs)
answer_test way ps (Number h) cs =
    (leb 1 h.0 && leb h.0 greatest_side)
    && (found_test (pruned_first way h.0 ps) (some cs) && found_test (pruned_first way (suc h.0) ps) none)

-- An answer is tested with the places for being distinct.
abbrev pub checked_test : Way → List Place → Answer → Bool
checked_test way ps answer = distinct_test ps && answer_test way ps answer.side answer.corners

-- What a passed test decides.
pub passed : {b : Bool} {A : Type 0} → Decides b A → T b → A
passed {b = true} d t = d.yes_holds refl
passed {b = false} d t = absurd t

-- Two tests that passed together passed each.
pub both-passed : (a b : Bool) → T (a && b) → T a × T b
both-passed true b t = (tt, t)
both-passed false b t = absurd t

-- A passed test of an answer gives the answer.
answer-right : (way : Way) {ps : List Place} (side : Side) (cs : List ℕ) → Distinct ps → T (answer_test way ps side cs)
    → answer_of way ps ≡ record { side = side; corners = cs }
answer-right way {ps} Free cs places test =
    answer-free places (found_first (pruned-first way free_side ps) (passed (found-decides (pruned_first way free_side ps) (some cs)) test))
answer-right way {ps} (Number h) cs places test =
    let in_range = both-decide (le-decides 1 h.0) (le-decides h.0 greatest_side) in
    let searched = both-decide (found-decides (pruned_first way h.0 ps) (some cs)) (found-decides (pruned_first way (suc h.0) ps) none) in
    let r = passed (both-decide in_range searched) test in
    answer-found places r.0.0 r.0.1 (found_first (pruned-first way h.0 ps) r.1.0)
    (nothing-found (pruned-first way (suc h.0) ps) r.1.1)

-- The pruned search finds what plain search does.
pub pruned-same : (way : Way) (h : ℕ) (ps : List Place) → pruned_first way h ps ≡ first_good way h ps
pruned-same way h ps = by-found (pruned-first way h ps)
  where
    by-found : {o : Option (List ℕ)} → FirstWith (Good way h ps) o → o ≡ first_good way h ps
    by-found (found good none_before) = sym (first_found (record { good = good; none_before = none_before }))
    by-found (missing no_good) = sym (none_found no_good)

-- An answer that passes its test is the answer.
pub checked-right : (way : Way) (ps : List Place) (answer : Answer) → T (checked_test way ps answer) → answer_of way ps ≡ answer
checked-right way ps answer test =
    let parts = both-passed (distinct_test ps) (answer_test way ps answer.side answer.corners) test in
    answer-right way answer.side answer.corners (passed (distinct-decides ps) parts.0) parts.1
