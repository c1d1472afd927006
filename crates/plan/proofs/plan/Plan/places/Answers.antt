-- `Plan::places` meets its contract: a plan has no more sites than slots. Assumes nothing.
use native.Mathlib.Omega.{arith}
use Rattle.plan.specs.theorems.Plan.{valid-holding}
use Rattle.plan.proofs.plan.Plan.places.Goals as goal

pub shared_ref_as_front-result : goal.shared_ref_as_front-result
shared_ref_as_front-result c =
    let holding = valid-holding c.self.invariant in omega (arith, holding.count, holding.listed.few)
