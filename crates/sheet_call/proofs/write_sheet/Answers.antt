-- The list is placed by the way given, at the side found, and written. Assumes nothing.
use Rattle.std.proofs.Common.{◌≡◌, sym, ap, ◌∙◌, Some, rules}
use Rattle.plan.specs.calls.Answers.{Planned}
use Rattle.sheet_call.specs.Call.{GivenWay, called, way_of}
use Rattle.sheet_call.specs.CallLaws.{planned_in, write-calls, call-meets}
use Rattle.sheet_call.proofs.write_sheet.Goals as goal

pub returns : goal.returns
returns c =
    let given = c.in_ok-given.given in
    let list = c.args.list.now in
    let buffer = c.args.buffer.now in
    let way-is : way_of c.args.way ≡ Some given = search rules in
    sym
    (ap (λ (way : GivenWay). called way list buffer) way-is
    ∙ sym (call-meets given list buffer).0
    ∙ ap (λ (p : Planned). planned_in p buffer) (sym c.place_list-plan.ensures.answer)
    ∙ write-calls (record { outcome = c.place_list-plan.result.1; plan = c.place_list-plan.result.0 }) buffer c.in_ok-placed.was c.write.ensures.answer c.write.ensures.buffer)
