-- `Labels::carry_on` meets its contract. The loop's invariant: the marked decisions have been carried out since the entry.
-- The measure is how many sites have no mark.
-- Assumes nothing.
use Rattle.placing.specs.code.Marks.{mark-fewer}
use Rattle.placing.specs.code.CarryOn.{carrying-on, carrying-stuck, may-carry-out}
use Rattle.placing.proofs.labels.Labels.carry_on.Goals as goal

pub mark_and_carry-requires : goal.mark_and_carry-requires
mark_and_carry-requires c =
    let so_far = c.loop-k.invariant in
    let first = c.in-Some.ensures in
    (may-carry-out c.requires.inside so_far (rw so_far.room at first.listed) first.waiting.is_decided, so_far.room)

pub returns-then-not-mark_and_carry : goal.returns-then-not-mark_and_carry
returns-then-not-mark_and_carry c =
    let so_far = c.loop-k.invariant in
    let first = c.in-Some.ensures in
    carrying-stuck so_far (rw so_far.room at first.listed) first.waiting.is_decided c.mark_and_carry.ensures.carried c.if-not-mark_and_carry.true

pub loop-k-smaller : goal.loop-k-smaller
loop-k-smaller c =
    let first = c.in-Some.ensures in
    rw c.mark_and_carry.ensures.marked
    (mark-fewer _ _ (rw c.loop-k.invariant.room at first.listed) first.listed first.waiting.unmarked)

pub loop-k-preserved : goal.loop-k-preserved
loop-k-preserved c =
    let so_far = c.loop-k.invariant in
    let first = c.in-Some.ensures in
    rw c.mark_and_carry.ensures.marked
    (carrying-on so_far (rw so_far.room at first.listed) first.waiting.is_decided c.mark_and_carry.ensures.carried c.if-not-mark_and_carry.false)
