-- `Plan::place_list` meets its contract: the list is refused, or its plan is placed at the side found, with a table that is enough for every
-- plan. Assumes nothing.
use Rattle.std.specs.Prelude.{Ok}
use mathlib.Core.Path.{◌≡◌, sym, ◌∙◌}
use mathlib.Core.List.{List}
use Prim.Native.Nat.{ℕ}
use lib.ListN.{length, replicate, length-replicate}
use Rattle.plan.specs.calls.Lengths.{full_table}
use Rattle.plan.specs.theorems.Output.{list-told}
use Rattle.plan.specs.code.Filling.{reading-refused, reading-unfound, reading-placed}
use borrow.Author.Rules.{rules}
use Rattle.plan.proofs.plan.Plan.place_list.Goals as goal

-- The work table that is lent, and its length.
abbrev lent : List ℕ
lent = replicate full_table 0

lent-size : length lent ≡ full_table
lent-size = length-replicate {A = ℕ} full_table 0

pub returns-then-is_err : goal.returns-then-is_err
returns-then-is_err c =
    let args = c.args in
    let refused = reading-refused args.way args.text.now c.read-plan.ensures.answer (sym c.if-is_err.ensures.value) in
    record {
      answer = refused;
      told = list-told args.way args.text.now refused;
    }

pub returns-in-Ok : goal.returns-in-Ok
returns-in-Ok c =
    let args = c.args in
    let text = args.text.now in
    let done : c.read-plan.result.1 ≡ Ok tt = search rules in
    let placed = reading-placed args.way text lent lent-size c.find.new.table (search rules)
    c.read-plan.ensures.answer done (sym c.in-Ok.is ∙ c.find.ensures.answer) c.choose_at-placed.ensures.answer in
    record {
      answer = placed;
      told = list-told args.way text placed;
    }

pub returns-in-Err : goal.returns-in-Err
returns-in-Err c =
    let args = c.args in
    let text = args.text.now in
    let done : c.read-plan.result.1 ≡ Ok tt = search rules in
    let refused = reading-unfound args.way text lent lent-size
    c.read-plan.ensures.answer done (sym c.in-Err.is ∙ c.find.ensures.answer) in
    record {
      answer = refused;
      told = list-told args.way text refused;
    }
