-- `Plan::compose` meets its contract: a plan that can be printed is printed line by line, and the array has room for each line.
-- Assumes nothing.
use Rattle.std.specs.Prelude.{is_some}
use Rattle.std.proofs.Common.{◌≡◌, List, [], ◌++◌, ℕ, length, ap, sym, subst, ◌∙◌, arith, get_or}
use Rattle.placing.specs.rules.Corner.{Corner}
use Rattle.plan.specs.declared.plan.Plan.{Plan}
use Rattle.plan.specs.calls.Fields.{placement_held, plan_of}
use Rattle.plan.specs.calls.Answers.{sheet_for}
use Rattle.plan.specs.code.SheetParts.{side_line_ended, site_line_ended, site_held, SideSmall}
use Rattle.plan.specs.code.Composing.{Printable, printable, composed-start, composed-room, composed-more, composed-end}
use Rattle.plan.proofs.plan.Plan.compose.Goals as goal
use Rattle.plan.proofs.plan.Plan.compose.Goals.{After-unwrap-placement}

pub unwrap-placement-requires : goal.unwrap-placement-requires
unwrap-placement-requires c = ap (λ (p : Plan). p.placed) c.self.view_is ∙ c.requires

-- So the plan can be printed,
prints : (c : After-unwrap-placement) → Printable (plan_of c.self.inside)
prints c = printable c.self.invariant (ap is_some c.unwrap-placement.ensures)

-- and its side is small.
small : (c : After-unwrap-placement) → SideSmall c.unwrap-placement.result.side
small c = subst (λ at. SideSmall (placement_held at).side) c.unwrap-placement.ensures (prints c).side_small

pub put_side-requires : goal.put_side-requires
put_side-requires c = (small (goal.at.put_side-requires c).After-unwrap-placement, omega (arith, ap length c.new-page.ensures))

pub loop-i-init : goal.loop-i-init
loop-i-init c =
    composed-start (prints (goal.at.loop-i-init c).After-unwrap-placement)
    (subst (λ p. c.put_side.new.page ≡ [] ++ side_line_ended (placement_held p).side) (sym c.unwrap-placement.ensures)
    (c.put_side.ensures ∙ ap (λ (text : List ℕ). text ++ side_line_ended c.unwrap-placement.result.side) c.new-page.ensures))

pub offset_bounds-self-inside-i : goal.offset_bounds-self-inside-i
offset_bounds-self-inside-i c =
    omega (arith, (prints (goal.at.offset_bounds-self-inside-i c).After-unwrap-placement).few)

pub bounds-self-inside-i : goal.bounds-self-inside-i
bounds-self-inside-i c = omega (arith, (prints (goal.at.bounds-self-inside-i c).After-unwrap-placement).few)

pub offset_bounds-self-inside-i-in-loop-i : goal.offset_bounds-self-inside-i-in-loop-i
offset_bounds-self-inside-i-in-loop-i c =
    omega (arith, (prints (goal.at.offset_bounds-self-inside-i-in-loop-i c).After-unwrap-placement).few)

pub bounds-self-inside-i-in-loop-i : goal.bounds-self-inside-i-in-loop-i
bounds-self-inside-i-in-loop-i c =
    omega (arith, (prints (goal.at.bounds-self-inside-i-in-loop-i c).After-unwrap-placement).few)

pub bounds-placement-i : goal.bounds-placement-i
bounds-placement-i c = omega (arith, (prints (goal.at.bounds-placement-i c).After-unwrap-placement).few)

pub put_site-requires : goal.put_site-requires
put_site-requires c =
    let at = (goal.at.put_site-requires c).After-unwrap-placement in
    let more = c.loop-i-test.true in (
      (prints at).name_fits c.loop-i.i more,
      (prints at).on_plan c.loop-i.i more,
      subst (λ p. Corner (get_or (placement_held p).corners c.loop-i.i 0)) c.unwrap-placement.ensures ((prints at).corner c.loop-i.i more),
      composed-room (prints at) c.loop-i.invariant more,
    )

pub loop-i-preserved : goal.loop-i-preserved
loop-i-preserved c =
    composed-more (prints (goal.at.loop-i-preserved c).After-unwrap-placement) c.loop-i.invariant c.loop-i-test.true
    (subst
    (λ p.
    c.put_site.new.page
    ≡ c.loop-i.page ++ site_line_ended (site_held (plan_of c.self.inside) c.loop-i.i) (get_or (placement_held p).corners c.loop-i.i 0))
    (sym c.unwrap-placement.ensures) c.put_site.ensures)

pub returns : goal.returns
returns c =
    subst (λ (p : Plan). c.loop-i.page ≡ sheet_for p) c.self.view_is
    (composed-end (prints (goal.at.returns c).After-unwrap-placement) c.loop-i.invariant c.loop-i-test.false)
