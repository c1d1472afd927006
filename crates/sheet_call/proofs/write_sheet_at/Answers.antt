-- The list is placed by the way and at the side given, and written. Assumes nothing.
use Rattle.std.proofs.Common.{◌≡◌, sym, ap, ◌∙◌, Some, rules}
use Rattle.placing.specs.declared.units.Side.{Side}
use Rattle.plan.specs.calls.Answers.{Planned, list_placed_at}
use Rattle.sheet_call.specs.Call.{GivenWay, called_at, side_of, way_of}
use Rattle.sheet_call.specs.CallLaws.{planned_in, write-calls, call-meets-at}
use Rattle.sheet_call.proofs.write_sheet_at.Goals as goal

pub returns : goal.returns
returns c =
    let given = c.in_ok-given.given in
    let list = c.args.list.now in
    let buffer = c.args.buffer.now in
    let side = side_of c.args.side in
    let way-is : way_of c.args.way ≡ Some given = search rules in
    sym
    (ap (λ (way : GivenWay). called_at way side list buffer) way-is
    ∙ sym (call-meets-at given side list buffer).0
    ∙ ap (λ (p : Planned). planned_in p buffer)
    (sym (c.place_list_at-plan.ensures.answer ∙ ap (λ (s : Side). list_placed_at given s list) c.side_of.ensures))
    ∙ write-calls (record { outcome = c.place_list_at-plan.result.1; plan = c.place_list_at-plan.result.0 }) buffer c.in_ok-placed.was c.write.ensures.answer c.write.ensures.buffer)
