-- `Labels::crowding_of` meets its contract. The loop's invariant: the reaches are over the rows below `i`, with the top that these sites
-- leave.
-- Assumes nothing.
use native.Mathlib.Omega.{arith}
use Rattle.placing.specs.code.Crowding.{crowding-none, crowding-more, crowding-all}
use Rattle.placing.proofs.labels.Labels.crowding_of.Goals as goal

pub loop-i-init : goal.loop-i-init
loop-i-init c =
    crowding-none c.doubled-furthest.result.0 c.doubled-furthest.ensures c.args.self.now.held.few

pub loop-i-preserved : goal.loop-i-preserved
loop-i-preserved c =
    crowding-more c.loop-i-test.true c.loop-i.invariant c.lower_row.ensures c.top_left-top.ensures

pub returns : goal.returns
returns c =
    crowding-all c.loop-i.top (omega arith) c.loop-i.invariant
