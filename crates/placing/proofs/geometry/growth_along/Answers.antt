-- `placing::geometry::growth_along` meets its contract: by the directions and, where they are opposite, by the order.
-- Assumes nothing.
use mathlib.Core.Path.{sym}
use Rattle.placing.specs.deciding.Tests.{unlike-opposite}
use Rattle.placing.specs.theorems.Growth.{along-away}
use Rattle.placing.proofs.geometry.growth_along.Goals as goal

pub returns-else-onward : goal.returns-else-onward
returns-else-onward c =
    let args = c.args in
    sym (along-away args.a.0 args.b.0 (unlike-opposite args.d args.e c.eq.ensures c.if-eq.false) (c.onward.ensures.no_fails c.if-onward.false))
