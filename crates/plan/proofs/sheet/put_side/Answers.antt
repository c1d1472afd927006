-- `put_side` meets its contract: the word with its tab, the side, the line feed, one behind another. Assumes nothing.
use Rattle.std.proofs.Common.{ap, arith, length}
use Rattle.plan.specs.theorems.Text.{decimal-short}
use Rattle.plan.proofs.sheet.put_side.Goals as goal
use Rattle.plan.proofs.sheet.put_side.Goals.{in-Number, in-Free}

pub number-requires : goal.number-requires
number-requires c =
    let small = rw c.in-Number.is at c.requires.0 in
    omega (arith, decimal-short c.in-Number.h.0 (omega arith))

pub byte-requires : goal.byte-requires
byte-requires c =
    elim c.match-side.branch [
      | in-Number w ↦ let small = rw w.in-Number.is at c.requires.0 in omega (arith, ap length w.page-is, decimal-short w.in-Number.h.0 (omega arith))
      | in-Free w ↦ omega (arith, ap length w.page-is)
    ]
