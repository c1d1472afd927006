-- `how_far` meets its contract, by the two tests. Assumes nothing.
use Rattle.std.proofs.Common.{rules}
use Rattle.growth.specs.AskedLaws.{asked-meets}
use Rattle.growth.proofs.how_far.Goals as goal

pub returns-then-no_label-clause-told : goal.returns-then-no_label-clause-told
returns-then-no_label-clause-told c =
    (asked-meets c.args.s c.args.c c.args.t c.args.e (search rules)).1.1.0

pub returns-clause-told : goal.returns-clause-told
returns-clause-told c = (asked-meets c.args.s c.args.c c.args.t c.args.e (search rules)).1.1.0
