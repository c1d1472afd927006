-- `line_end` meets its contract: the first of the bytes that is a line feed. Assumes nothing.
use Rattle.std.proofs.Common.{ℕ, ◌+◌, ◌≤◌, ◌≡◌, ◌≢◌, Option, length, subst, arith, rules, tests}
use Rattle.std.specs.Option.{option_map}
use Rattle.std.proofs.lemmas.Iterator.{YieldsList-from_slice, YieldsList-from_take, IsFirst-from_position}
use Rattle.std.proofs.lemmas.Slice.{between_to_end}
use Rattle.plan.specs.rules.Text.{line_feed}
use Rattle.plan.specs.rules.List.{most_line_bytes}
use Rattle.plan.specs.code.Line.{LineEnds}
use Rattle.plan.specs.code.LineLaws.{end-found}
use Rattle.plan.proofs.list.line_end.Goals as goal
use Rattle.plan.proofs.list.line_end.Goals.{After-position}

-- How many bytes are looked at.
abbrev looked_at : ℕ
looked_at = 21

-- The line feed that is found among them is the line's end, where they are no more than a line and its feed.
ends : looked_at ≤ most_line_bytes + 1 → (c : After-position) {found : Option ℕ} → c.position.result ≡ found
    → LineEnds c.args.text.now c.args.at (option_map (λ n. c.args.at + n) found)
ends few c was =
    let text = c.args.text.now in
    subst (λ (found : Option ℕ). LineEnds text c.args.at (option_map (λ n. c.args.at + n) found)) was
    (end-found text c.args.at looked_at (omega arith) few c.requires (between_to_end text c.args.at (length text) (omega arith)) _
    (IsFirst-from_position _ _ _ (λ b. b ≡ line_feed) (λ b. b ≢ line_feed) c.position.ensures.ran
    (YieldsList-from_take looked_at (YieldsList-from_slice _ cc) (cc)) (λ x q k. search (rules, tests)) (λ x q k. search (rules, tests))))

pub returns-in_err-n : goal.returns-in_err-n
returns-in_err-n c =
    rw c.from_residual.ensures (ends (omega arith) (goal.at.returns-in_err-n c).After-position c.in_err-n.was)

pub returns : goal.returns
returns c =
    ends (omega arith) (goal.at.returns c).After-position c.in_ok-n.was
