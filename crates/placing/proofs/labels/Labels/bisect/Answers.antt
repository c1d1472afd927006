-- `Labels::bisect` meets its contract: the lower end has a good choice and no judged side from the upper one
-- on has, until nothing is left to try.
-- Assumes nothing.
use native.Mathlib.Omega.{arith}
use Rattle.placing.specs.deciding.Tests.{less-decides}
use Rattle.placing.specs.code.Bisect.{between-starts, between_ends}
use Rattle.placing.proofs.labels.Labels.bisect.Goals as goal

pub loop-between-init : goal.loop-between-init
loop-between-init c =
    between-starts _ c.requires.distinct c.requires.crowding_is.none_above

pub returns : goal.returns
returns c =
    let may = c.requires in
    let last = (less-decides c.loop-between.between.low.0 c.loop-between.between.next.0 c.lt.ensures).no_fails c.loop-between-test.false in
    between_ends may.crowding_is.judged may.distinct c.loop-between.invariant (omega arith) c.side_of.ensures
