-- `starts_with` meets its contract: the library's test is the rule's.
-- Assumes nothing.
use Rattle.std.proofs.Common.{◌∙◌}
use Rattle.hints.specs.TestLaws.{starts-prefix}
use Rattle.hints.proofs.starts_with.Goals as goal

pub returns : goal.returns
returns c =
    c.starts_with.ensures.value ∙ starts-prefix c.args.start.now c.args.bytes.now
