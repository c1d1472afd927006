-- `Plan::start` meets its contract: its record is the plan of no sites. Assumes nothing.
use Rattle.plan.specs.code.PlanLaws.{empty-started, empty-valid}
use Rattle.plan.proofs.plan.Plan.start.Goals as goal

pub invariant_of-result : goal.invariant_of-result
invariant_of-result c =
    empty-valid c.none.ensures

pub returns : goal.returns
returns c =
    empty-started c.none.ensures
