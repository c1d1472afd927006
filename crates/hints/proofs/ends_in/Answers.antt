-- `ends_in` meets its contract: the library's test is the rule's.
-- Assumes nothing.
use Rattle.std.proofs.Common.{◌∙◌}
use Rattle.hints.specs.TestLaws.{ends-suffix}
use Rattle.hints.proofs.ends_in.Goals as goal

pub returns : goal.returns
returns c =
    c.ends_with.ensures.value ∙ ends-suffix c.args.last c.args.bytes.now
