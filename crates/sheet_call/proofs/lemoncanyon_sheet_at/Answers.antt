-- What comes of writing the sheet is told. Assumes nothing.
use Rattle.std.proofs.Common.{List, ℕ, Some, None, arith}
use Rattle.placing.specs.declared.units.Side.{Side}
use Rattle.sheet_call.specs.Call.{GivenWay, called_at, way_of, side_of, at_given, Told}
use Rattle.sheet_call.specs.CallLaws.{call-meets-at, no-way-told, number-told}
use Rattle.sheet_call.proofs.lemoncanyon_sheet_at.Goals as goal

call-told : (way : GivenWay) (side : Side) (list buffer : List ℕ)
    → Told (at_given way side list) buffer (called_at way side list buffer).number (called_at way side list buffer).buffer
call-told (Some way) side list buffer = (call-meets-at way side list buffer).1
call-told None side list buffer = no-way-told _ (omega arith) buffer

pub returns-clause-told : goal.returns-clause-told
returns-clause-told c =
    number-told c.write_sheet_at.result _ _
    (call-told (way_of c.args.way) (side_of c.args.side) c.args.list.now c.args.buffer.now) c.number.ensures c.write_sheet_at.ensures
