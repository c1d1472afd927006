-- `number_from` reads a number: a text that is not empty and has no leading zero writes the number of its digits.
-- Assumes nothing.
use Rattle.std.proofs.Common.{◌≡◌, sym, ap, ◌∙◌, arith}
use Rattle.std.proofs.lemmas.Bool.{eqb-false}
use borrow.Author.Tests.{eqb-true}
use Rattle.plan.specs.rules.Text.{digits_after, number_in}
use Rattle.plan.specs.code.NumberLaws.{empty-number, leading-zero, number_digits}
use Rattle.plan.specs.code.NumberRead.{number_read}
use Rattle.plan.proofs.number.number_from.Goals as goal
use Rattle.plan.proofs.number.number_from.Goals.{else-text-gt1-via-then-text-gt1+else-text-eq48, else-text-gt1-via-else-text-gt1}

pub returns-then-is_empty : goal.returns-then-is_empty
returns-then-is_empty c =
    let args = c.args in
    sym (ap (number_read args.most) (empty-number args.text.now (eqb-true _ 0 (sym c.is_empty.ensures ∙ c.if-is_empty.true))))

pub returns-then-text-eq48 : goal.returns-then-text-eq48
returns-then-text-eq48 c =
    let args = c.args in
    sym (ap (number_read args.most) (leading-zero args.text.now c.if-text-gt1.true c.if-text-eq48.true))

pub returns : goal.returns
returns c =
    let args = c.args in
    let text = args.text.now in
    let number : number_in text ≡ digits_after 0 text =
    number_digits text (omega (arith, eqb-false _ 0 (sym c.is_empty.ensures ∙ c.if-is_empty.false)))
    (λ long. elim c.else-text-gt1.branch [
      | else-text-gt1-via-then-text-gt1+else-text-eq48 w ↦ w.if-text-eq48.false
      | else-text-gt1-via-else-text-gt1 w ↦ absurd (omega arith)
    ]) in
    c.digits_from.ensures ∙ sym (ap (number_read args.most) number)
