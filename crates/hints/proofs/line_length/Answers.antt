-- `line_length` meets its contract: the first line feed ends the line.
-- Assumes nothing.
use Rattle.std.proofs.Common.{sym, ◌∙◌, List, ℕ, length, ◌≡◌, ◌≢◌, rules, tests}
use Rattle.std.proofs.lemmas.Iterator.{IsFirst-from_position, YieldsList-from_slice, index_from_first}
use Rattle.plan.specs.rules.Text.{line_feed}
use Rattle.plan.specs.deciding.Reading.{cut_line}
use Rattle.hints.specs.TestLaws.{empty-line, feed-ends, other-goes-on}
use Rattle.hints.proofs.line_length.Goals as goal

pub returns : goal.returns
returns c =
    let text = c.args.text.now in
    let first =
    IsFirst-from_position _ _ _ (λ b. b ≡ line_feed) (λ b. b ≢ line_feed) c.position.ensures.ran (YieldsList-from_slice text cc)
    (λ x q k. search (rules, tests)) (λ x q k. search (rules, tests)) in
    c.unwrap_or.ensures ∙ sym (index_from_first (λ (line : List ℕ). length (cut_line line).bytes) _ _ empty-line feed-ends other-goes-on text _ first)
