-- `Plan::read_lines` meets its contract. The loop's invariant: the lines up to `at` are entered, and the rest gives what the whole text
-- gives.
-- Assumes nothing.
use Rattle.std.proofs.Common.{arith}
use Rattle.plan.specs.code.Reading.{ends, reading-starts, reading-valid, reading-few, reading-refused, reading-on}
use Rattle.plan.specs.theorems.Plan.{valid-holding}
use Rattle.plan.proofs.plan.Plan.read_lines.Goals as goal

pub loop-at-init : goal.loop-at-init
loop-at-init c =
    reading-starts _ _ c.requires

pub overflow_add-number : goal.overflow_add-number
overflow_add-number c =
    omega (arith, reading-few c.loop-at.invariant, (valid-holding (reading-valid c.loop-at.invariant)).count, c.count-number.ensures.answer)

pub enter_line-requires : goal.enter_line-requires
enter_line-requires c = c.loop-at-test.true

pub returns-in-Err : goal.returns-in-Err
returns-in-Err c =
    reading-refused c.loop-at.invariant c.count-number.ensures.answer c.in-Err.ensures

pub loop-at-preserved : goal.loop-at-preserved
loop-at-preserved c =
    reading-on c.loop-at.invariant c.in-Ok.ensures

pub returns : goal.returns
returns c =
    ends c.loop-at.invariant c.loop-at-test.false
