-- `explain` meets its contract: the hint is that of the line at which reading stops.
-- Assumes nothing.
use Rattle.std.proofs.Common.{arith}
use Rattle.hints.specs.ExplainedLaws.{nowhere-explained, line-inside, line-explained}
use Rattle.hints.proofs.explain.Goals as goal

pub returns-in_err-stop : goal.returns-in_err-stop
returns-in_err-stop c = rw c.from_residual.ensures (nowhere-explained c.in_err-stop.ensures)

pub slice_bounds-hint_for-count : goal.slice_bounds-hint_for-count
slice_bounds-hint_for-count c = omega (arith, line-inside c.in_ok-stop.ensures)

pub slice_bounds-hint_for-start : goal.slice_bounds-hint_for-start
slice_bounds-hint_for-start c = omega (arith, line-inside c.in_ok-stop.ensures)

pub returns : goal.returns
returns c = line-explained c.in_ok-stop.ensures c.hint_for.ensures
