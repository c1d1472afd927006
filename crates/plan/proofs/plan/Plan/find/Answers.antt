-- `Plan::find` meets its contract: the plan holds its sites, whose side is found where no test holds. Assumes nothing.
use mathlib.Core.Path.{sym, ap, ◌∙◌}
use mathlib.Core.List.{List}
use native.Mathlib.Omega.{arith}
use Rattle.placing.specs.declared.units.Place.{Place}
use Rattle.placing.specs.deciding.Answer.{answer_of}
use Rattle.plan.specs.calls.Fields.{plan_of}
use Rattle.plan.specs.theorems.Plan.{valid-holding}
use Rattle.plan.specs.code.Entering.{outcome-refused, outcome-done}
use Rattle.plan.specs.code.PlanLaws.{holding-places, holding-cleared, holding-ready}
use Rattle.plan.specs.code.CallLaws.{handed-on, find-refuses, find-accepts}
use Rattle.plan.proofs.plan.Plan.find.Goals as goal

pub ready-requires : goal.ready-requires
ready-requires c =
    let holding = valid-holding c.self.invariant in omega (arith, holding.count, holding.listed.few)

pub returns-in_err-ready : goal.returns-in_err-ready
returns-in_err-ready c =
    let told = find-refuses (plan_of c.self.inside) c.args.way c.args.table.now (outcome-refused _ (sym c.ready.ensures ∙ c.in_err-ready.was))
    (handed-on c.from_residual.ensures.1) in
    rw (← c.self.view_is) (record {
      answer = told.0;
      table = told.1.0;
      told = told.1.1.0;
      value = told.1.1.1;
    })

pub shared_ref_as_front-sites : goal.shared_ref_as_front-sites
shared_ref_as_front-sites c =
    let holding = valid-holding c.self.invariant in omega (arith, holding.count, holding.listed.few)

pub find_side-requires : goal.find_side-requires
find_side-requires c =
    holding-ready (valid-holding c.self.invariant) c.args.table.now (outcome-done _ (sym c.ready.ensures ∙ c.in_ok-ready.was))

pub returns : goal.returns
returns c =
    let holding = valid-holding c.self.invariant in
    let told = find-accepts (plan_of c.self.inside) c.args.way c.args.table.now (outcome-done _ (sym c.ready.ensures ∙ c.in_ok-ready.was))
    (c.find_side.ensures.side ∙ ap (λ (ps : List Place). (answer_of c.args.way ps).side) (holding-places holding))
    (holding-cleared holding c.args.table.now c.find_side.ensures.table) in
    rw (← c.self.view_is) (record {
      answer = told.0;
      table = told.1.0;
      told = told.1.1.0;
      value = told.1.1.1;
    })
