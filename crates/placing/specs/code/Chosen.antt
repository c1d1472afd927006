-- What choosing hands back, as document 01 has it: the first good choice, or none.
-- Assumes nothing.
use Rattle.std.specs.Prelude.{◌≡◌, refl, Bool, true, false, Option, Some, None, is_some, List, ◌∷◌, ◌++◌, ℕ, zero, suc, ◌-◌, ◌≤◌, ◌<◌, ◌≢◌, length, take, replicate}
use Rattle.std.proofs.Common.{sym, ap, ◌∙◌, le_of_suc-le-suc, arith}
use Rattle.std.proofs.lemmas.List.{get_or_past}
use Rattle.std.proofs.Math.Decide.{dec_lt}
use Rattle.std.proofs.Math.Option.{Option as Found, some, none}
use Rattle.placing.specs.declared.fresh.State.{State}
use Rattle.placing.specs.declared.units.Place.{Place}
use Rattle.placing.specs.declared.way.Way.{Way}
use Rattle.placing.specs.rules.Units.{most_sites, Distinct}
use Rattle.placing.specs.rules.Choice.{corner_at, SomeGood, First}
use Rattle.placing.specs.deciding.Answer.{first_good}
use Rattle.placing.specs.calls.Placing.{choice_as}
use Rattle.placing.specs.theorems.Choice.{first-at-one}
use Rattle.placing.specs.theorems.Answer.{NoneGood, first_good-some, first_good-none, first_found, none_found}
use Rattle.placing.specs.search.State.{Walked}
use Rattle.placing.specs.search.Decided.{walk-solution, walk-none-before}
use Rattle.placing.specs.code.Labels.{problem, good-solution, solution-good}
use Rattle.placing.specs.code.Steps.{WalkedTo}

-- The corners of the n sites, where there are any.
abbrev pub choice_in : ℕ → Option (List ℕ) → Found (List ℕ)
choice_in n (Some cs) = some (take n cs)
choice_in n None = none

-- Where the sites below n are decided, the decisions are at least n.
decisions_long : (n : ℕ) (decided : List ℕ) → ((j : ℕ) → j < n → corner_at decided j ≢ 0) → n ≤ length decided
decisions_long zero decided all = omega arith
decisions_long (suc n) decided all = from (dec_lt n (length decided))
  where
    from : Dec (n < length decided) → suc n ≤ length decided
    from (yes there) = omega arith
    from (no past) = absurd (all n (omega arith) (get_or_past decided n 0 (omega arith)))

-- At the end of a walk the decisions of the sites are the first good choice.
decisions-first : (way : Way) (h : ℕ) (ps : List Place) (state : State) → Walked (problem way h ps) (length ps) state.opens state.decided
    → First way h ps (take (length ps) state.decided)
decisions-first way h ps state walked =
    record {
      good = solution-good way h ps (take (length ps) state.decided) (walk-solution walked long);
      none_before = λ es good. walk-none-before walked long es (good-solution way h ps es good);
    }
  where
    long : length ps ≤ length state.decided
    long = decisions_long (length ps) state.decided (λ j listed. walked.all_decided j listed listed)

module _ {way : Way} {h : ℕ} {ps : List Place} {ok : Bool} {state : State}
    (walked : WalkedTo (problem way h ps) (length ps) ok state) where
  -- A walk over all sites leaves the first good choice,
  pub walked_choice : ok ≡ true → choice_in (length ps) (Some state.decided) ≡ first_good way h ps
  walked_choice yes_ok = sym (first_found (decisions-first way h ps state (walked.walked yes_ok)))

  -- or there is none.
  pub walked_none : ok ≡ false → choice_in (length ps) None ≡ first_good way h ps
  walked_none no_ok = sym (none_found (λ cs good. walked.no_solution no_ok cs (good-solution way h ps cs good)))

module _ {way : Way} {h : ℕ} {ps : List Place} (n : ℕ) where
  -- What choosing finds is good,
  pub chosen_good : (chosen : Option (List ℕ)) → choice_in n chosen ≡ first_good way h ps → is_some chosen ≡ true → SomeGood way h ps
  chosen_good (Some cs) is found = record { choice = take n cs; good = (first_good-some (sym is)).good }
  chosen_good None is found = cc

  -- and where it finds none there is no good choice.
  pub chosen_none : (chosen : Option (List ℕ)) → choice_in n chosen ≡ first_good way h ps → is_some chosen ≡ false → NoneGood way h ps
  chosen_none (Some cs) is found = cc
  chosen_none None is found = first_good-none (sym is)

-- ---- what choosing at a side hands back

-- Corner 1 for the first n of k sites.
take-ones : (n k : ℕ) → n ≤ k → ◌≡◌ {A = List ℕ} (take n (replicate k 1)) (replicate n 1)
take-ones zero k few = refl
take-ones (suc n) zero few = absurd (omega arith)
take-ones (suc n) (suc k) few = ap (λ (l : List ℕ). 1 ∷ l) (take-ones n k (le_of_suc-le-suc few))

module _ (way : Way) (h : ℕ) (ps : List Place) where
  -- Where no good choice exists.
  pub no-choice : NoneGood way h ps → None ≡ choice_as (first_good way h ps)
  no-choice none_good = sym (ap choice_as (none_found none_good))

  -- Where it is these corners.
  pub choice-found : {cs first : List ℕ} → first_good way h ps ≡ some cs → first ≡ cs ++ replicate (most_sites - length ps) 0
      → Some first ≡ choice_as (first_good way h ps)
  choice-found {cs} made held =
      let size : length cs ≡ length ps = (first_good-some made).good.corners.one_each in
      ap Some (held ∙ ap (λ (k : ℕ). cs ++ replicate (most_sites - k) 0) (sym size)) ∙ sym (ap choice_as made)

  -- Up to side 1, where it is corner 1 everywhere.
  pub ones-found : {first : List ℕ} → h ≤ 1 → Distinct ps → length ps ≤ most_sites
      → first ≡ take (length ps) (replicate most_sites 1) ++ replicate (most_sites - length ps) 0
      → Some first ≡ choice_as (first_good way h ps)
  ones-found small distinct few held =
      choice-found (first_found (first-at-one small distinct))
      (held ∙ ap (λ (l : List ℕ). l ++ replicate (most_sites - length ps) 0) (take-ones (length ps) most_sites few))
