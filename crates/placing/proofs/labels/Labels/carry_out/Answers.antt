-- `Labels::carry_out` meets its contract: by the usual way one round carries the decision out, above two do.
-- Assumes nothing.
use borrow.Author.Rules.{rules}
use Rattle.placing.specs.code.CarryTwice.{carried-usual, carried-above, may-carry-again}
use Rattle.placing.proofs.labels.Labels.carry_out.Goals as goal

pub carry_corner-requires-in-Above-2 : goal.carry_corner-requires-in-Above-2
carry_corner-requires-in-Above-2 c =
    record {
      carrying = may-carry-again c.requires.carrying c.carry_corner-in-Above.ensures c.if-not-carry_corner.false;
      corner = search rules;
    }

pub returns-in-Usual : goal.returns-in-Usual
returns-in-Usual c =
    carried-usual c.requires c.in-Usual.is c.carry_corner.ensures

pub returns-else-not-carry_corner : goal.returns-else-not-carry_corner
returns-else-not-carry_corner c =
    carried-above c.requires c.in-Above.is c.carry_corner-in-Above.ensures c.if-not-carry_corner.false
    c.carry_corner-in-Above-2.ensures
