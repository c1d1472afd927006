-- `Plan::place_list_at` meets its contract: the side or the list is refused, or its plan is placed at the side, with a table that is enough
-- for every plan. Assumes nothing.
use Rattle.std.specs.Prelude.{Ok}
use mathlib.Core.Path.{◌≡◌, refl, sym, ap, ◌∙◌}
use mathlib.Core.Bool.{true}
use Prim.Native.Nat.{ℕ}
use lib.ListN.{replicate, length-replicate}
use Rattle.placing.specs.rules.Answer.{is_side}
use Rattle.plan.specs.declared.plan.Plan.{Plan}
use Rattle.plan.specs.declared.refusal.Refusal.TheVariants.{BadNumber}
use Rattle.plan.specs.calls.Lengths.{full_table}
use Rattle.plan.specs.theorems.Output.{list-told-at}
use Rattle.plan.specs.code.CallLaws.{refusal-of}
use Rattle.plan.specs.code.Filling.{side-refused-at, reading-refused-at, choosing-done, choosing-refused}
use borrow.Author.Rules.{rules}
use Rattle.plan.proofs.plan.Plan.place_list_at.Goals as goal

pub returns-then-not-is_side : goal.returns-then-not-is_side
returns-then-not-is_side c =
    let text = c.args.text.now in
    let outside = sym c.is_side.ensures ∙ c.if-not-is_side.true in
    let refused = ap (λ (p : Plan). refusal-of p BadNumber) c.start.ensures ∙ side-refused-at c.args.way c.args.side text outside in
    record {
      answer = refused;
      told = list-told-at c.args.way c.args.side text refused;
    }

pub returns-then-is_err : goal.returns-then-is_err
returns-then-is_err c =
    let given : is_side c.args.side ≡ true =
    sym c.is_side.ensures ∙ c.if-not-is_side.false in
    let text = c.args.text.now in
    let refused = reading-refused-at c.args.way c.args.side given text c.read-plan.ensures.answer (sym c.if-is_err.ensures.value) in
    record {
      answer = refused;
      told = list-told-at c.args.way c.args.side text refused;
    }

pub returns-in-Ok : goal.returns-in-Ok
returns-in-Ok c =
    let given : is_side c.args.side ≡ true =
    sym c.is_side.ensures ∙ c.if-not-is_side.false in
    let text = c.args.text.now in
    let done : c.read-plan.result.1 ≡ Ok tt = search rules in
    let placed = choosing-done c.args.way c.args.side given text (replicate full_table 0) (length-replicate {A = ℕ} full_table 0)
    c.read-plan.ensures.answer done c.in-Ok.ensures.answer refl in
    record {
      answer = placed;
      told = list-told-at c.args.way c.args.side text placed;
    }

pub returns-in-Err : goal.returns-in-Err
returns-in-Err c =
    let given : is_side c.args.side ≡ true =
    sym c.is_side.ensures ∙ c.if-not-is_side.false in
    let text = c.args.text.now in
    let done : c.read-plan.result.1 ≡ Ok tt = search rules in
    let refused = ap (λ (p : Plan). refusal-of p c.in-Err.why) c.start-in-Err.ensures
    ∙ choosing-refused c.args.way c.args.side given text (replicate full_table 0) (length-replicate {A = ℕ} full_table 0)
    c.read-plan.ensures.answer done c.in-Err.ensures.answer refl in
    record {
      answer = refused;
      told = list-told-at c.args.way c.args.side text refused;
    }
