-- What is told of a refused list: the line that reading stops at, why, and the hint for that line.
-- Assumes nothing.
use Rattle.std.specs.Prelude.{◌≡◌, List, [], ℕ, Option, Some, None}
use Rattle.plan.specs.declared.refusal.Refusal.{Refusal}
use Rattle.plan.specs.rules.Refusal.{number_of, accepted}
use Rattle.plan.specs.rules.List.{Site, Reads}
use Rattle.plan.specs.Demands.{FirstRefused}
use Rattle.hints.specs.declared.Explanation.{Explanation}
use Rattle.hints.specs.declared.Hint.{Hint}
use Rattle.hints.specs.Hint.{hint_of}

-- The first refused line, which is the one that the contract of reading names, or no line, where every line is accepted.
pub data Explained (text : List ℕ) : Option Explanation → Type 0 where
  by_line : {number : ℕ} {why : Refusal} {hint : Option Hint} (first : FirstRefused text (number_of why)) → number ≡ first.line_number
      → hint ≡ hint_of number first.line → Explained text (Some (record { line = number; why = why; hint = hint }))
  by_none : {sites : List Site} → Reads [] text (accepted sites) → Explained text None
