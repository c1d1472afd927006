-- `Labels::choose` meets its contract: the walk starts at a fresh state, and its end is the first good choice or none.
-- Assumes nothing.
use Rattle.placing.specs.code.Chosen.{walked_choice, walked_none}
use Rattle.placing.proofs.labels.Labels.choose.Goals as goal

pub returns-then-walk : goal.returns-then-walk
returns-then-walk c =
    walked_choice c.walk.ensures c.if-walk.true

pub returns-else-walk : goal.returns-else-walk
returns-else-walk c =
    walked_none c.walk.ensures c.if-walk.false
