-- `Labels::try_corner` meets its contract: taking the corner starts a trial, and carrying on ends it; where it fails, the
-- state is put back.
-- Assumes nothing.
use native.Mathlib.Nat.{le_of_lt, lt_trans}
use native.Mathlib.Omega.{arith}
use Rattle.placing.specs.code.CarryOn.{taken-underway, trial-passes, trial-fails}
use Rattle.placing.proofs.labels.Labels.try_corner.Goals as goal

pub carry_on-requires : goal.carry_on-requires
carry_on-requires c =
    let asked = c.requires in
    let marked = rw asked.room at c.mark.ensures in
    record {
      room = omega (arith, asked.room);
      underway = taken-underway asked.closed asked.listed asked.undecided asked.is_open c.take_corner.ensures marked;
      inside = le_of_lt asked.listed;
      marked_below = λ j below. marked.marked j (lt_trans below asked.listed) (asked.decided_below j below);
    }

pub returns-then-carry_on : goal.returns-then-carry_on
returns-then-carry_on c =
    let asked = c.requires in
    trial-passes asked.closed asked.listed asked.undecided asked.is_open c.take_corner.ensures (rw asked.room at c.mark.ensures) c.carry_on.ensures
    c.if-carry_on.true

pub returns : goal.returns
returns c =
    let asked = c.requires in
    trial-fails asked.closed asked.listed asked.undecided asked.is_open c.take_corner.ensures (rw asked.room at c.mark.ensures) c.carry_on.ensures
    c.if-carry_on.false
