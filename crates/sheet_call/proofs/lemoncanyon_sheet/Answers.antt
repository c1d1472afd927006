-- What comes of writing the sheet is told. Assumes nothing.
use Rattle.std.proofs.Common.{List, ℕ, Some, None, arith}
use Rattle.sheet_call.specs.Call.{GivenWay, called, way_of, at_found, Told}
use Rattle.sheet_call.specs.CallLaws.{call-meets, no-way-told, number-told}
use Rattle.sheet_call.proofs.lemoncanyon_sheet.Goals as goal

call-told : (way : GivenWay) (list buffer : List ℕ)
    → Told (at_found way list) buffer (called way list buffer).number (called way list buffer).buffer
call-told (Some way) list buffer = (call-meets way list buffer).1
call-told None list buffer = no-way-told _ (omega arith) buffer

pub returns-clause-told : goal.returns-clause-told
returns-clause-told c =
    number-told c.write_sheet.result _ _ (call-told (way_of c.args.way) c.args.list.now c.args.buffer.now) c.number.ensures
    c.write_sheet.ensures
