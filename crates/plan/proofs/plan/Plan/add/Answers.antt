-- `Plan::add` meets its contract: its record is that of one site more. Assumes nothing.
use native.Mathlib.Omega.{arith}
use Rattle.plan.specs.code.PlanLaws.{more-room, more-valid}
use Rattle.plan.proofs.plan.Plan.add.Goals as goal

pub offset_bounds-self-inside-self-inside : goal.offset_bounds-self-inside-self-inside
offset_bounds-self-inside-self-inside c =
    omega (arith, more-room c.self.view_is c.self.invariant c.args.name c.args.place c.requires.0 c.requires.1)

pub bounds-self-inside-self-inside : goal.bounds-self-inside-self-inside
bounds-self-inside-self-inside c =
    more-room c.self.view_is c.self.invariant c.args.name c.args.place c.requires.0 c.requires.1

pub offset_bounds-self-inside-self-inside-2 : goal.offset_bounds-self-inside-self-inside-2
offset_bounds-self-inside-self-inside-2 c =
    omega (arith, more-room c.self.view_is c.self.invariant c.args.name c.args.place c.requires.0 c.requires.1)

pub bounds-self-inside-self-inside-2 : goal.bounds-self-inside-self-inside-2
bounds-self-inside-self-inside-2 c =
    more-room c.self.view_is c.self.invariant c.args.name c.args.place c.requires.0 c.requires.1

pub overflow_add-self : goal.overflow_add-self
overflow_add-self c =
    omega (arith, more-room c.self.view_is c.self.invariant c.args.name c.args.place c.requires.0 c.requires.1)

pub invariant_of-self : goal.invariant_of-self
invariant_of-self c =
    more-valid c.self.view_is c.self.invariant c.args.name c.args.place c.requires.0 c.requires.1
