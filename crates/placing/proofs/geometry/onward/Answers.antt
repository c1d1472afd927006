-- `placing::geometry::onward` meets its contract.
-- Assumes nothing.
use Rattle.placing.specs.deciding.Decides.{decides-same}
use Rattle.placing.specs.deciding.Tests.{at_most-decides, up-ordered, down-ordered}
use Rattle.placing.specs.rules.Label.{upward, downward}
use Rattle.placing.proofs.geometry.onward.Goals as goal

pub returns-in-Up : goal.returns-in-Up
returns-in-Up c =
    rw c.in-Up.is (decides-same upward up-ordered (at_most-decides _ _ c.le.ensures))

pub returns-in-Down : goal.returns-in-Down
returns-in-Down c =
    rw c.in-Down.is (decides-same downward down-ordered (at_most-decides _ _ c.le-in-Down.ensures))
