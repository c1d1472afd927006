-- `State::left_of` meets its contract. The loop's invariant: `left` counts the open corners up to `e`.
-- Assumes nothing.
use mathlib.Core.Path.{◌≡◌, sym, ◌∙◌}
use Prim.Native.Nat.{◌+◌, ◌-◌, ◌*◌}
use lib.ListN.{get_or}
use native.Mathlib.Omega.{arith}
use borrow.Author.Rules.{rules}
use borrow.Rule.Slice.PartMut.{mid_of}
use Rattle.std.proofs.lemmas.List.{places}
use Rattle.placing.specs.search.Rows.{row_next}
use Rattle.placing.specs.code.Steps.{left-none, left_open, left-shut, left-all}
use Rattle.placing.proofs.fresh.State.left_of.Goals as goal
use Rattle.placing.proofs.fresh.State.left_of.Goals.{then-open-eq1, else-open-eq1}

pub loop-e-init : goal.loop-e-init
loop-e-init c =
    left-none _ _

pub loop-e-preserved : goal.loop-e-preserved
loop-e-preserved c =
    let opens = c.args.self.now.opens in
    let j = c.args.j in
    let e = c.loop-e.e in
    let own : get_or (mid_of (4 * j) (4 * j + 4 - 4 * j) opens) e 0 ≡ get_or opens (4 * j + e) 0 = search (rules, places) in
    let byte = row_next opens j e (omega arith) ∙ sym own in
    elim c.if-open-eq1.branch [
      | then-open-eq1 w ↦ rw (w.left-is ∙ w.one_more-left.ensures) (left_open c.loop-e.invariant (byte ∙ w.if-open-eq1.true))
      | else-open-eq1 w ↦ rw w.left-is (left-shut c.loop-e.invariant (λ is_open. w.if-open-eq1.false (sym byte ∙ is_open)))
    ]

pub returns : goal.returns
returns c =
    let end : c.loop-e.e ≡ 4 = omega arith in
    left-all _ _ (rw end at c.loop-e.invariant)
