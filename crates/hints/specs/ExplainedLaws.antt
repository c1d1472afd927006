-- From where reading stops to what is told of it, for the proof of `explain`; and what is told is one thing.
-- Assumes nothing.
use Rattle.std.specs.Prelude.{◌≡◌, List, ℕ, ◌-◌, ◌<◌, length, take, drop, Option, Some, None}
use Rattle.std.proofs.Common.{sym, ap, ◌∙◌, length-drop}
use Rattle.std.proofs.Math.Seq.{take-length}
use Rattle.plan.specs.declared.list.RefusedLine.{RefusedLine}
use Rattle.plan.specs.declared.refusal.Refusal.{Refusal}
use Rattle.plan.specs.rules.Refusal.{number_of}
use Rattle.plan.specs.rules.List.{TextLine}
use Rattle.plan.specs.deciding.Reading.{cut_line}
use Rattle.plan.specs.Demands.{StopTold, at_a_line, at_no_line}
use Rattle.plan.specs.theorems.Reading.{first-line-cut, reads-are}
use Rattle.plan.specs.theorems.FirstLine.{refused-not-read, first-refused-one, first-refused-line, stop-inside}
use Rattle.hints.specs.declared.Explanation.{Explanation}
use Rattle.hints.specs.declared.Hint.{Hint}
use Rattle.hints.specs.Hint.{hint_of}
use Rattle.hints.specs.Explained.{Explained, by_line, by_none}

-- What is told: the line, the refusal and the hint.
abbrev pub told : ℕ → Refusal → Option Hint → Option Explanation
told line why hint = Some (record { line = line; why = why; hint = hint })

module _ {text : List ℕ} where
  -- Where reading stops nowhere, every line is accepted.
  pub nowhere-explained : StopTold text None → Explained text None
  nowhere-explained (at_no_line reads) = by_none reads

  -- A line starts within the text,
  pub line-inside : {line : RefusedLine} → StopTold text (Some line) → line.at < length text
  line-inside (at_a_line stops) = stop-inside stops

  -- and the hint for the first line of what starts there is the hint for it.
  pub line-explained : {line : RefusedLine} {hint : Option Hint} → StopTold text (Some line)
      → hint ≡ hint_of line.number (cut_line (take (length text - line.at) (drop line.at text)))
      → Explained text (told line.number line.why hint)
  line-explained {line} (at_a_line stops) is =
      let onward = ap (λ (n : ℕ). take n (drop line.at text)) (sym (length-drop line.at text)) ∙ take-length (drop line.at text) in
      let this = ap cut_line (onward ∙ stops.starts) ∙ first-line-cut stops.first.line_is in
      by_line stops.first stops.number_is (is ∙ ap (λ (l : TextLine). hint_of line.number l) this)

  -- A list is explained in one way: by one line, one number and one hint,
  pub explained-one : {n m : ℕ} {why other : Refusal} {hint another : Option Hint} → Explained text (told n why hint)
      → Explained text (told m other another) → (n ≡ m) × (number_of why ≡ number_of other) × (hint ≡ another)
  explained-one {m = m} (by_line first number_is hint-is) (by_line second other-is another-is) =
      let (line_same, number_same, rest-same) = first-refused-one first second in
      let same = number_is ∙ line_same ∙ sym other-is in (
        same,
        number_same,
        hint-is ∙ ap (λ (k : ℕ). hint_of k first.line) same
            ∙ ap (λ (l : TextLine). hint_of m l) (first-refused-line first second) ∙ sym another-is,
      )

  -- or, where every line is accepted, by none.
  pub explained-or-none : {n : ℕ} {why : Refusal} {hint : Option Hint} → Explained text (told n why hint) → Explained text None → ⊥
  explained-or-none (by_line first number_is hint-is) (by_none reads) = refused-not-read first (reads-are reads)
