-- `placing::geometry::lies_toward` meets its contract: along x, and where that holds along y.
-- Assumes nothing.
use Rattle.placing.specs.rules.Units.{X, Y}
use Rattle.placing.specs.deciding.Decides.{decides-second, decides-no}
use Rattle.placing.specs.deciding.Tests.{both}
use Rattle.placing.proofs.geometry.lies_toward.Goals as goal

pub returns-then-onward : goal.returns-then-onward
returns-then-onward c =
    let known = c.directions_of-d.ensures in
    decides-second (rw known at (c.onward.ensures.yes_holds c.if-onward.true)) (rw known at c.onward-then-onward.ensures) (both _)
    (λ lies. lies Y)

pub returns-else-onward : goal.returns-else-onward
returns-else-onward c =
    rw c.if-onward.false (decides-no (λ lies. c.onward.ensures.no_fails c.if-onward.false (rw c.directions_of-d.ensures (lies X))))
