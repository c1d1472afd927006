-- `Labels::try_open` meets its contract: an open corner is tried, another one is refused.
-- Assumes nothing.
use mathlib.Core.Path.{◌∙◌}
use native.Mathlib.Nat.{lt_trans}
use native.Mathlib.Omega.{arith}
use Rattle.placing.specs.search.Rows.{row_next}
use Prim.Native.Nat.{◌+◌, ◌*◌}
use lib.ListN.{get_or}
use Rattle.std.proofs.Common.{ne_eqb}
use Rattle.placing.specs.code.Walking.{tried-shut}
use Rattle.placing.proofs.labels.Labels.try_open.Goals as goal

pub try_corner-requires : goal.try_corner-requires
try_corner-requires c =
    let may = c.requires.0 in
    record {
      room = may.walking.room;
      listed = may.listed;
      corner = record { least = omega arith; most = omega arith };
      closed = may.walking.walked.closed;
      decided_below = λ j below. may.walking.walked.all_decided j below (lt_trans below may.listed);
      undecided = may.undecided;
      is_open = row_next _ c.args.i c.args.e c.requires.1 ∙ c.if-state-at-eq1.true;
    }

pub returns-else-state-at-eq1 : goal.returns-else-state-at-eq1
returns-else-state-at-eq1 c =
    let shut = c.if-state-at-eq1.false in
    rw (ne_eqb (get_or c.args.state.now.opens (4 * c.args.i + c.args.e) 0) 1 shut) (tried-shut c.args.e c.requires.0.listed c.requires.1 shut)
