-- `Plan::enter_read` meets its contract: what is admitted makes the plan that of one site more.
-- Assumes nothing.
use Rattle.std.proofs.Common.{◌<◌, sym, ◌∙◌, arith}
use Rattle.placing.specs.rules.Units.{most_sites}
use Rattle.plan.specs.calls.Plan.{sites_in}
use Rattle.plan.specs.theorems.Plan.{Holding, valid-holding}
use Rattle.plan.specs.code.PlanLaws.{holding-more}
use Rattle.plan.specs.code.CallLaws.{accepts}
use Rattle.plan.specs.code.Entering.{Admitted, admitted-enters}
use Rattle.plan.proofs.plan.Plan.enter_read.Goals as goal
use Rattle.plan.proofs.plan.Plan.enter_read.Goals.{In_ok-name}

-- The plan holds its sites,
holding : (c : In_ok-name) → Holding c.args.self.now (sites_in c.args.self.now)
holding c = valid-holding c.admit.ensures.valid

-- and what was read is admitted behind them.
admitted : (c : In_ok-name) → Admitted (sites_in c.args.self.now) c.args.site c.in_ok-name.name c.in_ok-name.place
admitted c = admitted-enters _ c.args.site c.requires (sym c.admit.ensures.answer ∙ c.in_ok-name.was)

pub add-requires : goal.add-requires
add-requires c =
    let ok = (goal.at.add-requires c).In_ok-name in
    ((admitted ok).padded, (admitted ok).listed (holding ok).listed)

pub returns : goal.returns
returns c =
    let ok = (goal.at.returns c).In_ok-name in
    let site = admitted ok in
    let room : c.args.self.now.count < most_sites = omega (arith, (holding ok).count, site.room) in
    let done = accepts c.args.self.now (site.listed (holding ok).listed) (c.add.ensures ∙ holding-more (holding ok) _ _ site.padded room) site.enters in
    record { answer = done.0; valid = done.1 }
