-- `Labels::carry_corner` meets its contract. The loop's invariant: the decision of `k` was carried to corner `e` of the other sites below `j`,
-- and the rest is as at entry.
-- Assumes nothing.
use Rattle.placing.specs.code.Carry.{carried-start, carried-more, may-carry-to}
use Rattle.placing.proofs.labels.Labels.carry_corner.Goals as goal

pub loop-j-init : goal.loop-j-init
loop-j-init c =
    carried-start c.requires.carrying

pub carry_to-requires : goal.carry_to-requires
carry_to-requires c =
    may-carry-to c.requires c.loop-j.invariant c.loop-j-test.true
    c.at-own.ensures c.directions_of-toward.ensures

pub loop-j-preserved : goal.loop-j-preserved
loop-j-preserved c =
    carried-more c.loop-j.invariant c.carry_to.ensures c.if-not-carry_to.false
