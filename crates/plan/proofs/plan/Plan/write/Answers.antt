-- `Plan::write` meets its contract: the sheet is made on a page of its own, and copied where there is room.
-- Assumes nothing.
use Rattle.std.proofs.Common.{◌≡◌, refl, sym, ap, subst, ◌∙◌, true}
use Rattle.plan.specs.declared.plan.Plan.{Plan}
use Rattle.plan.specs.calls.Plan.{Valid}
use Rattle.plan.proofs.Guaranteed.{write-copied}
use Rattle.plan.proofs.plan.Plan.write.Goals as goal
use Rattle.plan.proofs.plan.Plan.write.Goals.{Else-is_none}

-- The plan is placed.
placed : (c : Else-is_none) → c.args.self.now.placed ≡ true
placed c = ap (λ (p : Plan). p.placed) (sym c.self.view_is) ∙ c.if-is_none.ensures

pub compose-sheet-requires : goal.compose-sheet-requires
compose-sheet-requires c = placed (goal.at.compose-sheet-requires c).Else-is_none

pub returns-clause-sheet : goal.returns-clause-sheet
returns-clause-sheet c =
    let told = write-copied (subst Valid c.self.view_is c.self.invariant) (placed (goal.at.returns-clause-sheet c).Else-is_none)
    (c.text-text.ensures.text ∙ c.compose-sheet.ensures) refl c.if-buffer-n.false c.copy_from_slice.ensures.after in
    told.1.1.0
