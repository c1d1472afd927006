-- What a function that answers yes or no promises, and what a test of the rules is proved to do: its answer decides a rule.
-- Assumes nothing.
use Rattle.std.specs.Prelude.{◌≡◌, refl, Bool, true, false}
use Rattle.std.proofs.Common.{sym, true≢false}

-- A yes or no that decides a rule.
pub record Decides (answer : Bool) (Rule : Type 0) : Type 0 where
  pub yes_holds : answer ≡ true → Rule
  pub no_fails : answer ≡ false → Rule → ⊥

-- What decides a rule decides another that says the same.
pub decides-same : {answer : Bool} {Rule Other : Type 0} → (Rule → Other) → (Other → Rule) → Decides answer Rule → Decides answer Other
decides-same to from d = record { yes_holds = λ e. to (d.yes_holds e); no_fails = λ e o. d.no_fails e (from o) }

-- Where the first part of a rule holds, its second part decides it.
pub decides-second : {answer : Bool} {First Second Both : Type 0} → First → Decides answer Second → (First → Second → Both)
    → (Both → Second) → Decides answer Both
decides-second f d join part = record { yes_holds = λ e. join f (d.yes_holds e); no_fails = λ e b. d.no_fails e (part b) }

-- A rule that fails is decided by no.
pub decides-no : {Rule : Type 0} → (Rule → ⊥) → Decides false Rule
decides-no fails = record { yes_holds = λ e. absurd (true≢false (sym e)); no_fails = λ e r. fails r }

-- A rule that holds is decided by yes.
pub decides-yes : {Rule : Type 0} → Rule → Decides true Rule
decides-yes holds = record { yes_holds = λ e. holds; no_fails = λ e r. true≢false e }

-- A decided rule, without the answer.
pub decided : {answer : Bool} {Rule : Type 0} → Decides answer Rule → Dec Rule
decided {answer = true} d = yes (d.yes_holds refl)
decided {answer = false} d = no (d.no_fails refl)

-- A rule that holds is answered yes.
pub holds-yes : {answer : Bool} {Rule : Type 0} → Decides answer Rule → Rule → answer ≡ true
holds-yes {answer = true} d holds = refl
holds-yes {answer = false} d holds = absurd (d.no_fails refl holds)
