-- `read_line` meets its contract: the parts into which a line is split are its fields. Assumes nothing.
use Rattle.std.proofs.Common.{ℕ, eqb, sym, ◌∙◌, rules, tests}
use Rattle.std.proofs.lemmas.Iterator.Splits.{YieldsList-from_slice_split}
use Rattle.plan.specs.rules.Text.{tab}
use Rattle.plan.specs.code.LineLaws.{fields-split, gave-one, gave-two, gave-three, gave-more, fields-read}
use Rattle.plan.proofs.list.read_line.Goals as goal

pub returns-in_err-x : goal.returns-in_err-x
returns-in_err-x c =
    let line = c.args.line.now in
    let road = YieldsList-from_slice_split _ (λ (b : ℕ). eqb b tab) line (cc) (cc) (cc) (λ x b q k. search (rules, tests)) in
    rw (c.from_residual-in_err-x.ensures, ← fields-split line)
    (gave-one road c.next.ensures.steps c.in_ok-name.was c.next-2.ensures.steps c.in_err-x.was)

pub returns-in_err-y : goal.returns-in_err-y
returns-in_err-y c =
    let line = c.args.line.now in
    let road = YieldsList-from_slice_split _ (λ (b : ℕ). eqb b tab) line (cc) (cc) (cc) (λ x b q k. search (rules, tests)) in
    rw (c.from_residual-in_err-y.ensures, ← fields-split line)
    (gave-two road c.next.ensures.steps c.in_ok-name.was c.next-2.ensures.steps c.in_ok-x.was c.next-3.ensures.steps c.in_err-y.was)

pub returns-then-is_some : goal.returns-then-is_some
returns-then-is_some c =
    let line = c.args.line.now in
    let road = YieldsList-from_slice_split _ (λ (b : ℕ). eqb b tab) line (cc) (cc) (cc) (λ x b q k. search (rules, tests)) in
    rw (← fields-split line)
    (gave-more road c.next.ensures.steps c.in_ok-name.was c.next-2.ensures.steps c.in_ok-x.was c.next-3.ensures.steps c.in_ok-y.was
    c.next-4.ensures.steps (sym c.is_some.ensures ∙ c.if-is_some.true))

pub returns : goal.returns
returns c =
    let line = c.args.line.now in
    let road = YieldsList-from_slice_split _ (λ (b : ℕ). eqb b tab) line (cc) (cc) (cc) (λ x b q k. search (rules, tests)) in
    let fields = gave-three road c.next.ensures.steps c.in_ok-name.was c.next-2.ensures.steps c.in_ok-x.was c.next-3.ensures.steps c.in_ok-y.was
    c.next-4.ensures.steps (sym c.is_some.ensures ∙ c.if-is_some.false) in
    rw (← fields-split line, fields)
    (fields-read _ _ _ c.name_from.ensures c.coordinate_from.ensures.coordinate c.coordinate_from-2.ensures.coordinate c.place_at.ensures)
