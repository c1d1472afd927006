-- Document 01: "A plan is what these calls hand back, kept or copied but never patched by hand; a contract may ask that of the
-- plan it gets, and every call is proved to keep it." What the type of a plan asks is exactly that.
-- Assumes nothing.
use Rattle.std.specs.Prelude.{◌≡◌, refl, List, [], ◌∷◌, ℕ, ◌+◌, ◌*◌, ◌≤◌, length, replicate, Ok}
use Rattle.std.proofs.Common.{ap, ◌∙◌, subst, arith, length-append}
use Rattle.std.proofs.Math.Option.{Option, some, none}
use Rattle.std.proofs.lemmas.Bool.{eqb-false, not-false}
use Rattle.std.proofs.lemmas.List.{length-replicate}
use Rattle.placing.specs.declared.units.Side.{Side}
use Rattle.placing.specs.declared.way.Way.{Way}
use Rattle.placing.specs.rules.Answer.{Answer, is_side}
use Rattle.placing.specs.deciding.Answer.{chosen_at}
use Rattle.placing.specs.theorems.Given.{chosen_is}
use Rattle.plan.specs.declared.refusal.Refusal.{Refusal}
use Rattle.plan.specs.declared.plan.Plan.{Plan}
use Rattle.plan.specs.rules.Refusal.{Test, first_refusal, Result, accepted, refused, unless}
use Rattle.plan.specs.rules.List.{Site, places_of, Listed, list_text, entered, wanted_at}
use Rattle.plan.specs.rules.Calls.{choosing_tests}
use Rattle.plan.specs.deciding.Output.{exists_at}
use Rattle.plan.specs.deciding.Reading.{read_list, read_within}
use Rattle.plan.specs.calls.Plan.{unplaced_plan, placed_with, sites_in, Valid, is_unplaced, is_placed}
use Rattle.plan.specs.calls.Answers.{started, handed, entered_in, read_from, chosen_in, counted, Planned}
use Rattle.plan.specs.theorems.Tables.{rows_none}
use Rattle.plan.specs.theorems.Sites.{listed-none}
use Rattle.plan.specs.theorems.Entering.{entered-passed, entered-listed}
use Rattle.plan.specs.theorems.Reading.{read-listed, list_read}
use Rattle.plan.specs.theorems.Plan.{sites-unplaced, sites-placed, Holding, holding-unplaced, valid-holding}
use Rattle.plan.specs.theorems.Choosing.{placed_by}

-- A plan that some run of the calls hands back. Find, side, corner, count and write hand none back.
pub data HandedBack : Plan → Type 0 where
  by_start : HandedBack started
  by_enter : {plan : Plan} (name : List ℕ) (x y : ℕ) → HandedBack plan → HandedBack (entered_in plan name x y).plan
  by_read : (text : List ℕ) → HandedBack (read_from text).plan
  by_choose : {plan : Plan} (way : Way) (side : Side) (table : List ℕ) → HandedBack plan → HandedBack (chosen_in plan way side table).plan

-- ---- every valid plan is handed back

-- "An empty text is a list of no sites."
pub empty-read : read_from [] ≡ record { outcome = Ok tt; plan = started }
unfolding read_list read_within
empty-read = refl

-- Reading the list of some sites gives their plan.
pub list-planned : (sites : List Site) → Listed sites → read_from (list_text sites) ≡ record { outcome = Ok tt; plan = unplaced_plan sites }
list-planned sites listed = ap (handed unplaced_plan started) (list_read sites listed)

-- So it is handed back,
unplaced-handed : (sites : List Site) → Listed sites → HandedBack (unplaced_plan sites)
unplaced-handed sites listed =
    subst HandedBack (ap (λ (p : Planned). p.plan) (list-planned sites listed)) (by_read (list_text sites))

-- and so it is once it is placed, by whatever way and at whatever side.
pub valid-handed : {plan : Plan} → Valid plan → HandedBack plan
unfolding unplaced_plan
valid-handed (is_unplaced sites listed) = unplaced-handed sites listed
valid-handed (is_placed sites way answer listed nonempty chosen) =
    let table : List ℕ = replicate (length sites * length sites) 0 in
    let room : length sites * length sites ≤ length table = omega (arith, length-replicate {A = ℕ} (length sites * length sites) 0) in
    subst HandedBack
    (ap (λ (p : Planned). p.plan) (placed_by answer table (holding-unplaced listed) (sites-unplaced sites) nonempty room chosen))
    (by_choose way answer.side table (unplaced-handed sites listed))

-- ---- every plan that is handed back is valid

-- Entering keeps a plan valid.
enter-valid : {plan : Plan} (name : List ℕ) (x y : ℕ) → Valid plan → Valid (entered_in plan name x y).plan
enter-valid {plan} name x y valid = by-sites (entered (sites_in plan) (wanted_at name x y)) refl
  where
    by-sites : (sites : Result (List Site)) → entered (sites_in plan) (wanted_at name x y) ≡ sites → Valid (handed unplaced_plan plan sites).plan
    by-sites (accepted more) is = is_unplaced more (entered-listed name x y (valid-holding valid).listed is)
    by-sites (refused why) is = valid

-- Reading gives a valid plan.
read-valid : (text : List ℕ) → Valid (read_from text).plan
read-valid text = by-sites (read_list text) refl
  where
    by-sites : (sites : Result (List Site)) → read_list text ≡ sites → Valid (handed unplaced_plan started sites).plan
    by-sites (accepted sites) is = is_unplaced sites (read-listed text sites is)
    by-sites (refused why) is = is_unplaced [] listed-none

-- Choosing keeps a plan valid.
choose-valid : {plan : Plan} (way : Way) (side : Side) (table : List ℕ) → Valid plan → Valid (chosen_in plan way side table).plan
choose-valid {plan} way side table valid = by_first (first_refusal tests) refl
  where
    holding : Holding plan (sites_in plan)
    holding = valid-holding valid

    tests : List Test
    tests = choosing_tests side plan.count (length table) (exists_at way side (sites_in plan))

    by_first : (first : Option Refusal) → first_refusal tests ≡ first
        → Valid (handed (placed_with (sites_in plan) way) plan (unless first (chosen_at way side (places_of (sites_in plan))))).plan
    by_first (some why) is = valid
    by_first none is =
        let none_holds = (rows_none tests is).none_holds in
        let some_sites = eqb-false plan.count 0 (none_holds 1 (omega arith)) in
        is_placed (sites_in plan) way (chosen_at way side (places_of (sites_in plan))) holding.listed (omega (arith, holding.count))
        (chosen_is way (places_of (sites_in plan)) side (not-false (is_side side) (none_holds 0 (omega arith)))
        (not-false (exists_at way side (sites_in plan)) (none_holds 3 (omega arith))))

-- So every run of the calls does.
pub handed-valid : {plan : Plan} → HandedBack plan → Valid plan
handed-valid by_start = is_unplaced [] listed-none
handed-valid (by_enter name x y before) = enter-valid name x y (handed-valid before)
handed-valid (by_read text) = read-valid text
handed-valid (by_choose way side table before) = choose-valid way side table (handed-valid before)

-- ---- the count is the number of sites entered

-- A start has none.
pub started-counted : counted started ≡ 0
started-counted = ap length (sites-unplaced [])

-- A list that is accepted gives as many as it has.
pub read-counted : (text : List ℕ) (sites : List Site) → read_list text ≡ accepted sites → counted (read_from text).plan ≡ length sites
read-counted text sites is =
    ap (λ (read : Result (List Site)). counted (handed unplaced_plan started read).plan) is ∙ ap length (sites-unplaced sites)

-- Choosing keeps them.
pub chosen-counted : (plan : Plan) (way : Way) (side : Side) (table : List ℕ) → counted (chosen_in plan way side table).plan ≡ counted plan
chosen-counted plan way side table =
    by_first (first_refusal (choosing_tests side plan.count (length table) (exists_at way side (sites_in plan)))) (chosen_at way side (places_of (sites_in plan)))
  where
    by_first : (first : Option Refusal) (answer : Answer)
        → counted (handed (placed_with (sites_in plan) way) plan (unless first answer)).plan ≡ counted plan
    by_first (some why) answer = refl
    by_first none answer = ap length (sites-placed (sites_in plan) way answer)

-- Sites that a site was entered into are one more.
pub entered-more : (sites : List Site) (name : List ℕ) (x y : ℕ) {more : List Site} → entered sites (wanted_at name x y) ≡ accepted more
    → length more ≡ length sites + 1
entered-more sites name x y is =
    ap length (entered-passed {sites = sites} {wanted = wanted_at name x y} is).1 ∙ length-append sites ((wanted_at name x y).site ∷ [])

-- The count after an accepted entering is one more.
pub entered-counted : (plan : Plan) (name : List ℕ) (x y : ℕ) → (entered_in plan name x y).outcome ≡ Ok tt
    → counted (entered_in plan name x y).plan ≡ counted plan + 1
entered-counted plan name x y = by-sites (entered (sites_in plan) (wanted_at name x y)) refl
  where
    by-sites : (sites : Result (List Site)) → entered (sites_in plan) (wanted_at name x y) ≡ sites → (handed unplaced_plan plan sites).outcome ≡ Ok tt
        → counted (handed unplaced_plan plan sites).plan ≡ counted plan + 1
    by-sites (refused why) is done = let z : ◌≡◌ {A = ℕ} 0 1 = cc in absurd (omega arith)
    by-sites (accepted more) is done = ap length (sites-unplaced more) ∙ entered-more (sites_in plan) name x y is
