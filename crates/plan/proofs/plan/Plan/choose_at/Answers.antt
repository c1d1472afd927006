-- `Plan::choose_at` meets its contract, test by test: the plan holds its sites, whose first choice at the side is found. Assumes nothing.
use Rattle.std.specs.Prelude.{Ok}
use mathlib.Core.Path.{◌≡◌, refl, sym, ap, subst, ◌∙◌}
use mathlib.Core.Bool.{true}
use native.Mathlib.Omega.{arith}
use lib.ListN.{length}
use Rattle.placing.specs.rules.Answer.{is_side}
use Rattle.placing.specs.theorems.Given.{judged-range}
use Rattle.plan.specs.declared.plan.Plan.{Plan}
use Rattle.plan.specs.declared.refusal.Refusal.TheVariants.{NoGoodChoice}
use Rattle.plan.specs.calls.Plan.{Valid}
use Rattle.plan.specs.calls.Fields.{plan_of}
use Rattle.plan.specs.calls.Answers.{Planned}
use Rattle.plan.specs.theorems.Plan.{valid-holding}
use Rattle.plan.specs.code.Entering.{outcome-refused, outcome-done}
use Rattle.plan.specs.code.PlanLaws.{placed_of, holding-size, holding-cleared, holding-ready, holding-placed, holding-exists, holding-none}
use Rattle.plan.specs.code.CallLaws.{refusal-of, ChoosePromised, handed-back, outside-first, given-first, choose-refuses, choose-none, choose-accepts, chosen-valid}
use Rattle.plan.proofs.plan.Plan.choose_at.Goals as goal

pub returns-then-not-is_side : goal.returns-then-not-is_side
returns-then-not-is_side c =
    let outside = sym c.is_side.ensures ∙ c.if-not-is_side.true in
    let told = choose-refuses c.args.self.now c.args.way c.args.side c.args.table.now (outside-first c.args.side c.args.self.now.count (length c.args.table.now) outside) refl in
    record {
      answer = told.0;
      table = told.1.0;
      told = told.1.1;
    }

pub ready-requires : goal.ready-requires
ready-requires c =
    let holding = valid-holding c.self.invariant in omega (arith, holding.count, holding.listed.few)

pub returns-in_err-ready : goal.returns-in_err-ready
returns-in_err-ready c =
    let plan = plan_of c.self.inside in
    let given : is_side c.args.side ≡ true =
    sym c.is_side.ensures ∙ c.if-not-is_side.false in
    let told = choose-refuses plan c.args.way c.args.side c.args.table.now
    (given-first c.args.side plan.count (length c.args.table.now) given (outcome-refused _ (sym c.ready.ensures ∙ c.in_err-ready.was)))
    (handed-back plan c.from_residual.ensures.1) in
    let same = subst
    (λ (p : Plan). ChoosePromised p c.args.way c.args.side c.args.table.now (record { outcome = c.from_residual.result; plan = p }) c.args.table.now)
    c.self.view_is told in
    record {
      answer = same.0;
      table = same.1.0;
      told = same.1.1;
    }

pub shared_ref_as_front-sites : goal.shared_ref_as_front-sites
shared_ref_as_front-sites c =
    let holding = valid-holding c.self.invariant in omega (arith, holding.count, holding.listed.few)

pub choose_corners-requires : goal.choose_corners-requires
choose_corners-requires c =
    let given : is_side c.args.side ≡ true =
    sym c.is_side.ensures ∙ c.if-not-is_side.false in (
      holding-ready (valid-holding c.self.invariant) c.args.table.now (outcome-done _ (sym c.ready.ensures ∙ c.in_ok-ready.was)),
      (judged-range c.args.side given).1,
    )

pub returns-in_err-corners : goal.returns-in_err-corners
returns-in_err-corners c =
    let plan = plan_of c.self.inside in
    let given : is_side c.args.side ≡ true =
    sym c.is_side.ensures ∙ c.if-not-is_side.false in
    let holding = valid-holding c.self.invariant in
    let none_good = holding-none holding c.args.way c.args.side c.choose_corners.ensures.first NoGoodChoice c.ok_or.ensures.value c.in_err-corners.was in
    let told = choose-none plan c.args.way c.args.side c.args.table.now
    (given-first c.args.side plan.count (length c.args.table.now) given (outcome-done _ (sym c.ready.ensures ∙ c.in_ok-ready.was)))
    (holding-cleared holding c.args.table.now c.choose_corners.ensures.table) none_good.0
    (handed-back plan c.from_residual-in_err-corners.ensures.1 ∙ ap (refusal-of plan) (sym none_good.1)) in
    let same = subst
    (λ (p : Plan). ChoosePromised p c.args.way c.args.side c.args.table.now (record { outcome = c.from_residual-in_err-corners.result; plan = p }) c.choose_corners.new.table)
    c.self.view_is told in
    record {
      answer = same.0;
      table = same.1.0;
      told = same.1.1;
    }

pub invariant_of-self : goal.invariant_of-self
invariant_of-self c =
    let given : is_side c.args.side ≡ true =
    sym c.is_side.ensures ∙ c.if-not-is_side.false in
    let holding = valid-holding c.self.invariant in
    let first = c.choose_corners.ensures.first in
    let may = holding-ready holding c.args.table.now (outcome-done _ (sym c.ready.ensures ∙ c.in_ok-ready.was)) in
    subst Valid (sym (holding-placed holding c.args.way c.args.side first NoGoodChoice c.ok_or.ensures.value c.in_ok-corners.was))
    (chosen-valid c.self.invariant c.args.way c.args.side given
    (holding-exists holding c.args.way c.args.side first NoGoodChoice c.ok_or.ensures.value c.in_ok-corners.was)
    (omega (arith, may.some_sites, holding-size holding)))

pub returns : goal.returns
returns c =
    let plan = plan_of c.self.inside in
    let given : is_side c.args.side ≡ true =
    sym c.is_side.ensures ∙ c.if-not-is_side.false in
    let holding = valid-holding c.self.invariant in
    let first = c.choose_corners.ensures.first in
    let told = choose-accepts plan c.args.way c.args.side c.args.table.now
    (given-first c.args.side plan.count (length c.args.table.now) given (outcome-done _ (sym c.ready.ensures ∙ c.in_ok-ready.was)))
    (holding-cleared holding c.args.table.now c.choose_corners.ensures.table)
    (holding-exists holding c.args.way c.args.side first NoGoodChoice c.ok_or.ensures.value c.in_ok-corners.was)
    (ap {B = Planned} (λ (p : Plan). record { outcome = Ok tt; plan = p })
    (holding-placed holding c.args.way c.args.side first NoGoodChoice c.ok_or.ensures.value c.in_ok-corners.was)) in
    let placed : Plan = placed_of plan.count plan.names plan.places c.args.way c.args.side c.in_ok-corners.corners in
    let same = subst
    (λ (p : Plan). ChoosePromised p c.args.way c.args.side c.args.table.now (record { outcome = Ok tt; plan = placed }) c.choose_corners.new.table)
    c.self.view_is told in
    record {
      answer = same.0;
      table = same.1.0;
      told = same.1.1;
    }
