-- `side_from` reads a side: the word free, or a number up to the greatest side. Assumes nothing.
use Rattle.std.proofs.Common.{◌≡◌, Bool, List, ℕ, eqb, sym, ap, ◌∙◌}
use Rattle.std.specs.Cmp.Lexicographic.{pointwise}
use Rattle.placing.specs.declared.units.Side.{Side}
use Rattle.placing.specs.declared.units.Side.TheVariants.{Number}
use Rattle.placing.specs.rules.Answer.{side_number}
use Rattle.plan.specs.rules.Text.{same_bytes}
use Rattle.plan.specs.rules.Sheet.{free_word}
use Rattle.plan.specs.code.NameLaws.{texts-equal}
use Rattle.plan.specs.code.NumberLaws.{free-side, number-side}
use Rattle.plan.proofs.number.side_from.Goals as goal

-- The side, and so its number.
valued : {side other : Side} → side ≡ other → (side ≡ other) × (side_number side ≡ side_number other)
valued same = (same, ap side_number same)

-- What the comparison with the word free says.
compared : (text : List ℕ) {word : List ℕ} {is : Bool} → word ≡ free_word → is ≡ pointwise eqb text word → same_bytes text free_word ≡ is
compared text word-is says = sym (texts-equal text free_word) ∙ ap (λ (word : List ℕ). pointwise eqb text word) (sym word-is) ∙ sym says

pub returns-then-eq : goal.returns-then-eq
returns-then-eq c =
    let told = valued (sym (free-side c.args.text.now (compared _ c.as_slice.ensures c.eq.ensures ∙ c.if-eq.true))) in
    record { side = told.0; value = told.1 }

pub returns : goal.returns
returns c =
    let told = valued
    (ap (λ (n : ℕ). Number (record { 0 = n })) c.unwrap_or-n.ensures
    ∙ number-side c.args.text.now (compared _ c.as_slice.ensures c.eq.ensures ∙ c.if-eq.false) c.number_from.ensures) in
    record { side = told.0; value = told.1 }
