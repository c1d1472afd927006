use Prim.Native.Nat.{◌-◌}
use Rattle.placing.specs.code.Bisect.{BetweenIs}
use Rattle.placing.proofs.labels.Labels.bisect.Given as goal

abbrev pub invariant-loop-between : goal.invariant-loop-between
invariant-loop-between l = BetweenIs l.self.way l.self.sites.now l.crowding.top.0 l.between

abbrev pub decreases-loop-between : goal.decreases-loop-between
decreases-loop-between l = l.between.high.0 - l.between.low.0
