-- `Plan::count` meets its contract: the plan holds its sites. Assumes nothing.
use Rattle.plan.specs.theorems.Plan.{valid-holding}
use Rattle.plan.proofs.plan.Plan.count.Goals as goal

pub returns : goal.returns
returns c =
    rw (← c.self.view_is) (record {
      answer = (valid-holding c.self.invariant).count;
      valid = c.self.invariant;
    })
