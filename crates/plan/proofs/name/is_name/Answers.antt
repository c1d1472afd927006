-- `is_name` meets its contract: 1 to 8 bytes, all of them of a name. Assumes nothing.
use Rattle.std.proofs.Common.{sym, ◌∙◌, arith, rules, tests}
use Rattle.std.proofs.lemmas.Bool.{eqb-false}
use Rattle.std.proofs.lemmas.Iterator.{YieldsList-from_slice}
use Rattle.std.proofs.lemmas.Iterator.Search.{all_from_yields_List}
use borrow.Author.Tests.{eqb-true}
use Rattle.plan.specs.rules.Text.{is_name_byte}
use Rattle.plan.specs.code.NameLaws.{empty-no-name, long-no-name, short-name, name-bytes-all}
use Rattle.plan.proofs.name.is_name.Goals as goal
use Rattle.plan.proofs.name.is_name.Goals.{then-is_empty-via-then-is_empty, then-is_empty-via-else-is_empty+then-text-gt-LONGEST}

pub returns-then-is_empty : goal.returns-then-is_empty
returns-then-is_empty c =
    elim c.then-is_empty.branch [
      | then-is_empty-via-then-is_empty w ↦ sym (empty-no-name _ (eqb-true _ 0 (sym c.is_empty.ensures ∙ w.if-is_empty.true)))
      | then-is_empty-via-else-is_empty+then-text-gt-LONGEST w ↦ sym (long-no-name _ w.if-text-gt-LONGEST.true)
    ]

pub returns : goal.returns
returns c =
    let text = c.args.text.now in
    all_from_yields_List is_name_byte _ _ _ c.all.ensures.ran (YieldsList-from_slice text cc) (λ x b q k. search (rules, tests))
    ∙ name-bytes-all text
    ∙ sym (short-name text (omega (arith, eqb-false _ 0 (sym c.is_empty.ensures ∙ c.if-is_empty.false))) c.if-text-gt-LONGEST.false)
