-- The side found is one at which corners may be chosen.
use Rattle.placed_lists.specs.Ready.{found-judged}
use Rattle.placed_lists.proofs.print.found.Goals as goal

pub returns : goal.returns
returns c = found-judged c.args.way c.requires c.find_side.ensures.side
