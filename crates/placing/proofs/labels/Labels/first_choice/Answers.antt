-- `Labels::first_choice` meets its contract: up to side 1 corner 1 everywhere is the first; above the top no good choice exists, and
-- up to it the walk leads to the first.
-- Assumes nothing.
use native.Mathlib.Omega.{arith}
use Rattle.placing.specs.deciding.Tests.{less-decides, at_most-decides}
use Rattle.placing.specs.code.Chosen.{no-choice, ones-found}
use Rattle.placing.proofs.labels.Labels.first_choice.Goals as goal

pub returns-then-le : goal.returns-then-le
returns-then-le c =
    let labels = c.args.self.now in
    ones-found labels.way labels.side.0 labels.sites.now ((at_most-decides labels.side.0 1 c.le.ensures).yes_holds c.if-le.true) c.requires.distinct
    labels.held.few c.first_corners.ensures

pub returns-then-lt : goal.returns-then-lt
returns-then-lt c =
    let labels = c.args.self.now in
    let below = (less-decides c.crowding-crowding.result.top.0 labels.side.0 c.lt.ensures).yes_holds c.if-lt.true in
    no-choice labels.way labels.side.0 labels.sites.now (c.crowding-crowding.ensures.none_above.none_good labels.side.0 (omega arith) (omega arith))
