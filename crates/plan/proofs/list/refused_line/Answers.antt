-- `refused_line` meets its contract: by where reading its lines stops. Assumes nothing.
use Rattle.plan.specs.code.Reading.{lines-told}
use Rattle.plan.proofs.list.refused_line.Goals as goal

pub returns : goal.returns
returns c =
    rw c.err.ensures.value (lines-told c.read_lines.ensures)
