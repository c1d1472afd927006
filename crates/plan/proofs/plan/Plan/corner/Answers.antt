-- `Plan::corner` meets its contract, by the two tests: a valid plan holds the corners of the rules, and a number below the count is in the
-- array. Assumes nothing.
use mathlib.Core.Path.{sym, ap, ◌∙◌}
use lib.ListN.{get_or}
use native.Mathlib.Omega.{arith}
use Rattle.std.specs.Prelude.{is_some, Ok}
use Rattle.plan.specs.declared.refusal.Refusal.TheVariants.{NotPlaced}
use Rattle.plan.specs.calls.Fields.{placement_held, plan_of}
use Rattle.plan.specs.theorems.Plan.{valid-holding}
use Rattle.plan.specs.code.CallLaws.{placement-there, corner-outside, corner-given, corner-promised}
use Rattle.plan.proofs.plan.Plan.corner.Goals as goal

pub returns-then-i-self : goal.returns-then-i-self
returns-then-i-self c =
    let plan = plan_of c.self.inside in
    let there = placement-there c.self.inside.placement NotPlaced (sym c.ok_or.ensures.value ∙ c.in_ok-placement.was) in
    let is = corner-outside plan c.args.i (ap is_some there) c.if-i-self.true in
    let told = corner-promised c.args.i c.self.view_is is in
    record {
      answer = told.0;
      told = told.1.0;
      value = told.1.1;
    }

pub bounds-placement-i : goal.bounds-placement-i
bounds-placement-i c =
    let holding = valid-holding c.self.invariant in
    omega (arith, holding.count, holding.listed.few)

pub returns : goal.returns
returns c =
    let plan = plan_of c.self.inside in
    let there = placement-there c.self.inside.placement NotPlaced (sym c.ok_or.ensures.value ∙ c.in_ok-placement.was) in
    let is = ap (λ at. Ok (get_or (placement_held at).corners c.args.i 0)) (sym there)
    ∙ corner-given plan c.args.i c.self.invariant (ap is_some there) c.if-i-self.false in
    let told = corner-promised c.args.i c.self.view_is is in
    record {
      answer = told.0;
      told = told.1.0;
      value = told.1.1;
    }
