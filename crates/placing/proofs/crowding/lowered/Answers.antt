-- `crowding::lowered` meets its contract: a law for each of the ends that the check does not find.
-- Assumes nothing.
use native.Mathlib.Omega.{arith}
use Rattle.placing.specs.deciding.Tests.{at_most-decides}
use Rattle.placing.specs.code.Reach.{lowered-far, lowered-there}
use Rattle.placing.proofs.crowding.lowered.Goals as goal

pub returns-then-le : goal.returns-then-le
returns-then-le c =
    lowered-far (omega (arith, (at_most-decides c.args.reach.0 c.args.away.0 c.le.ensures).yes_holds c.if-le.true))

pub returns-then-lies_toward : goal.returns-then-lies_toward
returns-then-lies_toward c =
    let near = (at_most-decides c.args.reach.0 c.args.away.0 c.le.ensures).no_fails c.if-le.false in
    rw c.requires.1 (lowered-there (omega arith) (c.lies_toward.ensures.yes_holds c.if-lies_toward.true))
