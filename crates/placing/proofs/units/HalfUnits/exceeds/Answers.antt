-- `placing::units::HalfUnits::exceeds` meets its contract: by the number, where there is one.
-- Assumes nothing.
use native.Mathlib.Omega.{arith}
use Rattle.placing.specs.rules.Growth.{beyond}
use Rattle.placing.specs.deciding.Decides.{decides-same}
use Rattle.placing.specs.deciding.Tests.{bound-exceeded, less-decides}
use Rattle.placing.proofs.units.HalfUnits.exceeds.Goals as goal

pub returns-in-UpTo : goal.returns-in-UpTo
returns-in-UpTo c =
    rw c.in-UpTo.is
    (decides-same (λ less. beyond (omega arith)) (λ more. let bound = bound-exceeded more in omega arith) (less-decides c.in-UpTo.most.0 c.args.self.0 c.lt.ensures))
