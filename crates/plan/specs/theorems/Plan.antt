-- Laws of the plan's record: the sites that it holds, and the answer that a placed plan holds.
-- Assumes nothing.
use Rattle.std.specs.Prelude.{◌≡◌, refl, true, List, [], ◌∷◌, map, ℕ, ◌-◌, ◌<◌, length, get_or, take, replicate}
use Rattle.std.proofs.Common.{sym, ap, ap₂, ◌∙◌, subst, take_at, get_or-take}
use Rattle.std.proofs.lemmas.Bool.{false≢true}
use Rattle.std.proofs.lemmas.List.{length-map}
use Rattle.std.proofs.Math.Seq.{take-append_seam}
use Rattle.placing.specs.declared.way.Way.{Way}
use Rattle.placing.specs.rules.Units.{nowhere, most_sites}
use Rattle.placing.specs.rules.Choice.{corner_at}
use Rattle.placing.specs.rules.Answer.{Answer, IsChosen}
use Rattle.placing.specs.theorems.Given.{is-chosen-at}
use Rattle.plan.specs.declared.plan.Plan.{Plan}
use Rattle.plan.specs.rules.Text.{most_name_bytes}
use Rattle.plan.specs.rules.List.{Site, place_of, places_of, Listed}
use Rattle.plan.specs.calls.Plan.{name_of, name_record, names_held, places_held, unplaced_plan, placed_with, sites_from, sites_in, Valid, is_unplaced, is_placed}
use Rattle.plan.specs.calls.Answers.{answer_for}
use Rattle.plan.specs.theorems.Sheet.{chosen-corners}

-- ---- the sites that it holds

-- Side by side, the names and places of some sites are these sites.
sites-side-by-side : (sites : List Site) → sites_from (map name_record sites) (places_of sites) ≡ sites
unfolding sites_from
sites-side-by-side [] = refl
sites-side-by-side (site ∷ sites) =
    ap₂ (λ (name : List ℕ) (rest : List Site). record { name = name; place = site.place } ∷ rest)
    (take-append_seam site.name (replicate (most_name_bytes - length site.name) 0)) (sites-side-by-side sites)

-- So what is held of some sites, the empty slots left out, is these sites.
sites-held : (sites : List Site) → sites_from (take (length sites) (names_held sites)) (take (length sites) (places_held sites)) ≡ sites
sites-held sites =
    rw (
      take_at (map name_record sites) (replicate (most_sites - length sites) (name_of [])) (length sites) (length-map sites name_record),
      take_at (places_of sites) (replicate (most_sites - length sites) nowhere) (length sites) (length-map sites place_of),
    )
    (sites-side-by-side sites)

-- The plan of some sites holds them, while it is not placed
pub sites-unplaced : (sites : List Site) → sites_in (unplaced_plan sites) ≡ sites
unfolding unplaced_plan sites_in
sites-unplaced sites = sites-held sites

-- and once it is.
pub sites-placed : (sites : List Site) (way : Way) (answer : Answer) → sites_in (placed_with sites way answer) ≡ sites
unfolding placed_with sites_in
sites-placed sites way answer = sites-held sites

-- A plan's count, names and places are those of these sites, which are by the rules.
pub record Holding (plan : Plan) (sites : List Site) : Type 0 where
  pub listed : Listed sites
  pub count : plan.count ≡ length sites
  pub names : plan.names ≡ names_held sites
  pub places : plan.places ≡ places_held sites

-- The plan of sites by the rules does,
pub holding-unplaced : {sites : List Site} → Listed sites → Holding (unplaced_plan sites) sites
unfolding unplaced_plan
holding-unplaced listed = record { listed = listed; count = refl; names = refl; places = refl }

-- and a plan that the calls hand back holds its sites.
pub valid-holding : {plan : Plan} → Valid plan → Holding plan (sites_in plan)
unfolding unplaced_plan placed_with
valid-holding (is_unplaced sites listed) =
    rw (sites-unplaced sites) (record { listed = listed; count = refl; names = refl; places = refl })
valid-holding (is_placed sites way answer listed some_sites chosen) =
    rw (sites-placed sites way answer) (record { listed = listed; count = refl; names = refl; places = refl })

-- ---- the answer of a placed plan

-- The answer that a placed plan holds: its side, and a corner for each site.
abbrev pub answer_in : Plan → Answer
answer_in plan = record { side = plan.side; corners = take plan.count plan.corners }

-- It is the one that it was placed with.
pub placed-answer : {way : Way} (sites : List Site) (answer : Answer) → IsChosen way (places_of sites) answer
    → answer_in (placed_with sites way answer) ≡ answer
unfolding placed_with
placed-answer sites answer chosen =
    ap (λ (corners : List ℕ). record { side = answer.side; corners = corners })
    (take_at answer.corners _ (length sites) ((chosen-corners chosen).one_each ∙ length-map sites place_of))

-- A valid plan that is placed has the first good choice at its side by its way,
pub valid-chosen : {plan : Plan} → Valid plan → plan.placed ≡ true → IsChosen plan.way (places_of (sites_in plan)) (answer_in plan)
unfolding unplaced_plan placed_with
valid-chosen (is_unplaced sites listed) is-so = absurd (false≢true is-so)
valid-chosen (is_placed sites way answer listed some_sites chosen) is-so =
    rw (sites-placed sites way answer, placed-answer sites answer chosen) chosen

-- which is the one of the rules;
pub valid-answer : {plan : Plan} → Valid plan → plan.placed ≡ true → answer_in plan ≡ answer_for plan
valid-answer valid is-so = is-chosen-at (valid-chosen valid is-so)

pub valid-for : {plan : Plan} → Valid plan → plan.placed ≡ true → IsChosen plan.way (places_of (sites_in plan)) (answer_for plan)
valid-for {plan} valid is-so =
    subst (IsChosen plan.way (places_of (sites_in plan))) (valid-answer valid is-so) (valid-chosen valid is-so)

-- so is the corner of each site.
pub valid-corner : {plan : Plan} → Valid plan → plan.placed ≡ true → (i : ℕ) → i < plan.count
    → get_or plan.corners i 0 ≡ corner_at (answer_for plan).corners i
valid-corner {plan} valid is-so i below =
    sym (get_or-take plan.count plan.corners i 0 below) ∙ ap (λ (a : Answer). corner_at a.corners i) (valid-answer valid is-so)
