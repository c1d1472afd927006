-- What `how_far` tells of the places given, as two numbers. Assumes nothing.
use Rattle.std.proofs.Common.{refl, Ok, Err, rules}
use Rattle.plan.specs.rules.List.{place_at}
use Rattle.sheet_call.specs.GrowingLaws.{called-meets}
use Rattle.sheet_call.proofs.growing.lemoncanyon_growth.Goals as goal

pub returns-in-Ok-clause-told : goal.returns-in-Ok-clause-told
returns-in-Ok-clause-told c =
    let args = c.args in
    (called-meets (place_at args.x1 args.y1) args.corner1 (place_at args.x2 args.y2) args.corner2 args.growth.now
    {asked = Ok c.in-Ok.told} (search rules) refl c.number_for.ensures).1.1

pub returns-in-Err-clause-told : goal.returns-in-Err-clause-told
returns-in-Err-clause-told c =
    let args = c.args in
    (called-meets (place_at args.x1 args.y1) args.corner1 (place_at args.x2 args.y2) args.corner2 args.growth.now
    {asked = Err c.in-Err.why} (search rules) (search rules) refl).1.1
