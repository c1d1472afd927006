-- `Plan::enter` meets its contract: what it reads fits, and is entered as the rules say. Assumes nothing.
use Rattle.std.proofs.Math.Option.{some}
use Rattle.plan.specs.calls.Plan.{sites_in}
use Rattle.plan.specs.theorems.Calls.{enter-told}
use Rattle.plan.specs.code.Entering.{PlaceIs, place_read_lem, call-answers, entered-as-read}
use Rattle.plan.proofs.plan.Plan.enter.Goals as goal

pub returns : goal.returns
returns c =
    let place_is : PlaceIs (some c.args.x) (some c.args.y) c.place_at-place.result =
    place_read_lem _ _ c.coordinate_at.ensures c.coordinate_at-2.ensures c.place_at-place.ensures in
    let told = enter-told c.args.self.now c.args.name.now c.args.x c.args.y
    (call-answers c.args.self.now (c.enter_read.ensures.answer, c.enter_read.ensures.valid)
    (entered-as-read (sites_in c.args.self.now) c.args.name.now (some c.args.x) (some c.args.y) c.name_from.ensures place_is)) in
    record {
      answer = told.0;
      told = told.1.1;
    }
