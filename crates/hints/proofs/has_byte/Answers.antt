-- `has_byte` meets its contract: the library's `any` is the rule's.
-- Assumes nothing.
use Rattle.std.proofs.Common.{◌∙◌, rules}
use Rattle.std.proofs.lemmas.Iterator.{YieldsList-from_slice}
use Rattle.std.proofs.lemmas.Iterator.Search.{any_from_yields_List}
use Rattle.hints.specs.Hint.{within}
use Rattle.hints.specs.TestLaws.{has-any}
use Rattle.hints.proofs.has_byte.Goals as goal

pub returns : goal.returns
returns c =
    any_from_yields_List (λ b. within c.args.low c.args.high b) _ _ _ c.any.ensures.ran (YieldsList-from_slice c.args.bytes.now cc)
    (λ x b q k. search rules)
    ∙ has-any c.args.low c.args.high c.args.bytes.now
