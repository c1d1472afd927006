-- `Labels::carry_to` meets its contract: where corner `e` of site `j` is open, `clash` decides whether it clashes; then it is closed.
-- Assumes nothing.
use Rattle.placing.specs.code.Carry.{carried-meeting, carried-apart}
use Rattle.placing.proofs.labels.Labels.carry_to.Goals as goal
use Rattle.placing.proofs.labels.Labels.carry_to.Goals.{else-state-at-eq1-via-then-state-at-eq1+else-clash, else-state-at-eq1-via-else-state-at-eq1}

pub returns-then-clash : goal.returns-then-clash
returns-then-clash c =
    let may = c.requires in
    carried-meeting may _ _ (rw c.index_of-at.ensures at c.if-state-at-eq1.true)
    ((c.clash.ensures _ _ may.label_is may.toward_is).yes_holds c.if-clash.true) c.close_corner.ensures

pub returns : goal.returns
returns c =
    let may = c.requires in
    elim c.else-state-at-eq1.branch [
      | else-state-at-eq1-via-then-state-at-eq1+else-clash w ↦
          carried-apart may (λ is_open. (w.clash.ensures _ _ may.label_is may.toward_is).no_fails w.if-clash.false)
      | else-state-at-eq1-via-else-state-at-eq1 w ↦
          carried-apart may (λ is_open. absurd (w.if-state-at-eq1.false (rw c.index_of-at.ensures is_open)))
    ]
