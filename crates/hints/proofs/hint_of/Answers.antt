-- `hint_of` meets its contract: the first cause that the library finds is the rule's hint.
-- Assumes nothing.
use Rattle.std.proofs.Common.{◌≡◌, ◌∙◌, sym, refl, rules, Option, Some, None}
use Rattle.std.specs.Option.{option_map}
use Rattle.std.proofs.lemmas.Iterator.{YieldsList-from_slice}
use Rattle.std.proofs.lemmas.Iterator.Consumers.{YieldsList-from_copied}
use Rattle.std.proofs.lemmas.Iterator.Search.{find_from_yields_List}
use Rattle.hints.specs.declared.Hint.{Hint}
use Rattle.hints.specs.Hint.{line_of}
use Rattle.hints.specs.TestLaws.{shows, in_order, hint-shown}
use Rattle.hints.proofs.hint_of.Goals as goal

same : (found : Option Hint) → option_map (λ hint. hint) found ≡ found
same None = refl
same (Some hint) = refl

pub returns : goal.returns
returns c =
    let line = line_of c.args.bytes.now c.args.ended in
    let found =
    find_from_yields_List (shows c.args.line line) _ _ _ c.find.ensures.ran (YieldsList-from_copied (YieldsList-from_slice in_order cc))
    (λ x b q k. search rules) in
    sym (same c.find.result) ∙ found ∙ hint-shown c.args.line line
