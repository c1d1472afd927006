use Rattle.placing.specs.code.Crowding.{CrowdingOver}
use Rattle.placing.proofs.labels.Labels.crowding_of.Given as goal

abbrev pub invariant-loop-i : goal.invariant-loop-i
invariant-loop-i l = CrowdingOver l.initial.top.0 l.self.sites.now l.i l.reaches l.top.0
