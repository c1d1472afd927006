-- `Labels::choose_corner` meets its contract: a decided site is passed over; else the corners passed are refused, and the
-- first trial that does not fail is taken.
-- Assumes nothing.
use native.Mathlib.Omega.{arith}
use Rattle.placing.specs.search.Walk.{walk-decided-add-one}
use Rattle.placing.specs.code.Steps.{up-to-more}
use Rattle.placing.specs.code.Walking.{takes-corner, takes_none, walked_to}
use Rattle.placing.proofs.labels.Labels.choose_corner.Goals as goal

pub returns-then-state-i-ne0 : goal.returns-then-state-i-ne0
returns-then-state-i-ne0 c =
    let may = c.requires in
    walked_to (walk-decided-add-one may.0.walked may.1 c.if-state-i-ne0.true)

pub returns-then-try_open : goal.returns-then-try_open
returns-then-try_open c =
    let may = c.loop-e.invariant.0 in
    takes-corner c.loop-e.e may.walking.walked may.listed may.undecided c.loop-e.invariant.1 c.try_open.ensures c.if-try_open.true

pub loop-e-preserved : goal.loop-e-preserved
loop-e-preserved c =
    let may = c.loop-e.invariant.0 in
    let tried = c.try_open.ensures in
    let failed = c.if-try_open.false in (
      record {
        walking = record { room = omega (arith, may.walking.room); walked = rw (tried.back failed) may.walking.walked };
        listed = may.listed;
        undecided = rw (tried.back failed) may.undecided;
      },
      rw (tried.back failed) (up-to-more _ c.loop-e.e c.loop-e.invariant.1 (tried.refused failed)),
    )

pub returns : goal.returns
returns c =
    let may = c.loop-e.invariant.0 in
    takes_none may.walking.walked may.listed c.loop-e-test.false c.loop-e.invariant.1
