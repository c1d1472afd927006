-- `Plan::admit` meets its contract: the plan holds its sites, so that what it finds taken is so. Assumes nothing.
use Rattle.std.specs.Option.{is_some}
use Rattle.std.proofs.Common.{◌≡◌, true, Some, Ok, Err, sym, ◌∙◌, subst, arith}
use Rattle.plan.specs.declared.refusal.Refusal.TheVariants as why
use Rattle.plan.specs.declared.plan.Plan.{Plan}
use Rattle.plan.specs.calls.Plan.{sites_in}
use Rattle.plan.specs.calls.Fields.{plan_of}
use Rattle.plan.specs.theorems.Plan.{Holding, valid-holding}
use Rattle.plan.specs.code.Entering.{admitted, found-name, found_place, full_refused, name_refused, place_refused, all_admitted}
use Rattle.plan.proofs.plan.Plan.admit.Goals as goal

pub returns-then-n-ge-SITES-clause-answer : goal.returns-then-n-ge-SITES-clause-answer
returns-then-n-ge-SITES-clause-answer c =
    let holding : Holding (plan_of c.self.inside) (sites_in (plan_of c.self.inside)) = valid-holding c.self.invariant in
    let named : is_some c.args.site.name ≡ true = grind arith in
    let there : is_some c.args.site.place ≡ true = grind arith in
    subst (λ (p : Plan). Err why.Full ≡ admitted (sites_in p) c.args.site) c.self.view_is
    (full_refused _ c.args.site named there (omega (arith, holding.count)))

pub returns-then-contains-clause-answer : goal.returns-then-contains-clause-answer
returns-then-contains-clause-answer c =
    let holding : Holding (plan_of c.self.inside) (sites_in (plan_of c.self.inside)) = valid-holding c.self.invariant in
    let named : c.args.site.name ≡ Some c.in_ok-name.name = grind arith in
    let spot : c.args.site.place ≡ Some c.in_ok-place.place = grind arith in
    let name = found-name holding c.requires.name_fits named in
    subst (λ (p : Plan). Err why.NameTaken ≡ admitted (sites_in p) c.args.site) c.self.view_is
    (name_refused _ c.args.site named spot (omega (arith, holding.count)) (sym name ∙ sym c.contains.ensures.value ∙ c.if-contains.true))

pub returns-then-contains-2-clause-answer : goal.returns-then-contains-2-clause-answer
returns-then-contains-2-clause-answer c =
    let holding : Holding (plan_of c.self.inside) (sites_in (plan_of c.self.inside)) = valid-holding c.self.invariant in
    let named : c.args.site.name ≡ Some c.in_ok-name.name = grind arith in
    let spot : c.args.site.place ≡ Some c.in_ok-place.place = grind arith in
    let name = found-name holding c.requires.name_fits named in
    let place = found_place holding c.in_ok-place.place in
    subst (λ (p : Plan). Err why.PlaceTaken ≡ admitted (sites_in p) c.args.site) c.self.view_is
    (place_refused _ c.args.site named spot (omega (arith, holding.count)) (sym name ∙ sym c.contains.ensures.value ∙ c.if-contains.false)
    (sym place ∙ sym c.contains-2.ensures.value ∙ c.if-contains-2.true))

pub returns-clause-answer : goal.returns-clause-answer
returns-clause-answer c =
    let holding : Holding (plan_of c.self.inside) (sites_in (plan_of c.self.inside)) = valid-holding c.self.invariant in
    let named : c.args.site.name ≡ Some c.in_ok-name.name = grind arith in
    let spot : c.args.site.place ≡ Some c.in_ok-place.place = grind arith in
    let name = found-name holding c.requires.name_fits named in
    let place = found_place holding c.in_ok-place.place in
    subst (λ (p : Plan). Ok (c.in_ok-name.name, c.in_ok-place.place) ≡ admitted (sites_in p) c.args.site) c.self.view_is
    (all_admitted _ c.args.site named spot (omega (arith, holding.count)) (sym name ∙ sym c.contains.ensures.value ∙ c.if-contains.false)
    (sym place ∙ sym c.contains-2.ensures.value ∙ c.if-contains-2.false))
