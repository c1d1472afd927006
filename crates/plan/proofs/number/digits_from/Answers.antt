-- `digits_from` reads digits: the number of those passed, with the others appended, is that of all. Assumes nothing.
use Rattle.std.proofs.Common.{sym, ap, ◌∙◌, arith}
use Rattle.plan.specs.rules.Text.{digits_after}
use Rattle.plan.specs.code.NumberRead.{number_read}
use Rattle.plan.specs.code.NumberLaws.{number_fits, number-in, byte_at, end-at}
use Rattle.plan.proofs.number.digits_from.Goals as goal

pub returns-in_err-value : goal.returns-in_err-value
returns-in_err-value c =
    c.from_residual.ensures
    ∙ sym (c.loop-b.invariant.1 ∙ byte_at _ _ _ c.loop-b.b-index (omega arith) (sym c.with_digit.ensures ∙ c.in_err-value.was))

pub loop-b-preserved : goal.loop-b-preserved
loop-b-preserved c =
    let read = sym c.with_digit.ensures ∙ c.in_ok-value.was in (
      number_fits _ (digits_after c.loop-b.value _) read,
      c.loop-b.invariant.1 ∙ byte_at _ _ _ c.loop-b.b-index (omega arith) read,
    )

pub returns : goal.returns
returns c =
    let args = c.args in
    let value = c.loop-b.value in
    let all = end-at value args.text.now c.loop-b.b-index (omega arith) in
    sym (c.loop-b.invariant.1 ∙ ap (number_read args.most) all ∙ number-in args.most value c.loop-b.invariant.0)
