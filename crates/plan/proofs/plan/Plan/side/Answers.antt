-- `Plan::side` meets its contract, by the one test: a valid plan holds the side of the rules. Assumes nothing.
use mathlib.Core.Path.{sym, ap, ◌∙◌}
use Rattle.std.specs.Prelude.{is_some, Ok, Err}
use Rattle.plan.specs.declared.refusal.Refusal.TheVariants.{NotPlaced}
use Rattle.plan.specs.calls.Fields.{placement_held, plan_of}
use Rattle.plan.specs.code.CallLaws.{handed-on, placement-there, placement-none, side-refused, side-given}
use Rattle.plan.specs.theorems.Calls.{side-told}
use Rattle.plan.proofs.plan.Plan.side.Goals as goal

pub returns-in_err-ok_or : goal.returns-in_err-ok_or
returns-in_err-ok_or c =
    let plan = plan_of c.self.inside in
    let none = placement-none c.self.inside.placement NotPlaced (sym c.ok_or.ensures.value ∙ c.in_err-ok_or.was) in
    let is = handed-on c.from_residual.ensures.1 ∙ ap Err (sym none.1) ∙ side-refused plan none.0 in
    let told = side-told plan is in
    rw (← c.self.view_is) (record {
      answer = is;
      told = told.0;
      value = told.1;
    })

pub returns : goal.returns
returns c =
    let plan = plan_of c.self.inside in
    let there = placement-there c.self.inside.placement NotPlaced (sym c.ok_or.ensures.value ∙ c.in_ok-ok_or.was) in
    let is = ap (λ at. Ok (placement_held at).side) (sym there) ∙ side-given plan (ap is_some there) in
    let told = side-told plan is in
    rw (← c.self.view_is) (record {
      answer = is;
      told = told.0;
      value = told.1;
    })
