-- Document 02, L1 and L2: which sides a plan can be placed at by a way, and what finding and choosing lead to.
-- Assumes nothing.
use Rattle.std.specs.Prelude.{◌≡◌, refl, Bool, true, false, not, List, [], ◌∷◌, ℕ, ◌*◌, ◌≤◌, ◌<◌, eqb, ltb, length, drop, replicate, Ok, Err}
use Rattle.std.proofs.Common.{sym, ap, ◌∙◌, arith, ne_eqb, le-ltb, lt-ltb, length-append, length-drop}
use Rattle.std.proofs.lemmas.Bool.{false≢true}
use Rattle.std.proofs.lemmas.List.{length-replicate}
use Rattle.placing.specs.declared.units.Side.{Side}
use Rattle.placing.specs.declared.way.Way.{Way}
use Rattle.placing.specs.rules.Units.{Distinct}
use Rattle.placing.specs.rules.Choice.{SomeGood}
use Rattle.placing.specs.rules.Answer.{Answer, is_side, judged_at, IsChosen}
use Rattle.placing.specs.deciding.Answer.{answer_of, chosen_at}
use Rattle.placing.specs.theorems.Answer.{answer-is}
use Rattle.placing.specs.theorems.Given.{judged-range, some-found, found_some, is-chosen-at, answer-chosen, found-chosen, up-to-found, above-found}
use Rattle.plan.specs.declared.refusal.Refusal.TheVariants.{BadNumber, NoSites, ShortTable, NoGoodChoice}
use Rattle.plan.specs.declared.plan.Plan.{Plan}
use Rattle.plan.specs.rules.Refusal.{number_by, ◌gives◌, first_refusal, accepted, unless, after_tests}
use Rattle.plan.specs.rules.List.{Site, places_of}
use Rattle.plan.specs.rules.Calls.{outside, no_sites, no_good, choosing_tests, cleared}
use Rattle.plan.specs.deciding.Output.{exists_at}
use Rattle.plan.specs.calls.Plan.{unplaced_plan, placed_with, placed_plan, sites_in, Valid, is_unplaced, is_placed}
use Rattle.plan.specs.calls.Answers.{outcome_number, handed, side_answer, side_found, found_in, table_found, chosen_for, chosen_in, table_chosen, Planned}
use Rattle.plan.specs.theorems.Plan.{Holding, sites-unplaced, sites-placed}

-- The order 3, 8, 11, 12, whatever the tests behind the first that holds come to.
pub three-first : (side : Side) (n bytes : ℕ) (exists : Bool) → is_side side ≡ false → number_by (choosing_tests side n bytes exists) ≡ 3
three-first side n bytes exists given = rw given

pub eight-second : (side : Side) (bytes : ℕ) (exists : Bool) → is_side side ≡ true → number_by (choosing_tests side 0 bytes exists) ≡ 8
eight-second side bytes exists given = rw given

pub eleven-third : (side : Side) (n bytes : ℕ) (exists : Bool) → is_side side ≡ true → (n ≡ 0 → ⊥) → bytes < n * n
    → number_by (choosing_tests side n bytes exists) ≡ 11
eleven-third side n bytes exists given some_sites short = rw (given, ne_eqb n 0 some_sites, lt-ltb bytes (n * n) short)

pub twelve-last : (side : Side) (n bytes : ℕ) → is_side side ≡ true → (n ≡ 0 → ⊥) → n * n ≤ bytes
    → number_by (choosing_tests side n bytes false) ≡ 12
twelve-last side n bytes given some_sites room = rw (given, ne_eqb n 0 some_sites, le-ltb bytes (n * n) room)

-- 12 is given only where no good choice exists at the side.
pub twelve-none : (plan : Plan) (way : Way) (side : Side) (table : List ℕ) → outcome_number (chosen_in plan way side table).outcome ≡ 12
    → SomeGood way (judged_at side) (places_of (sites_in plan)) → ⊥
twelve-none plan way side table twelve some_good =
    by_tests (not (is_side side)) (eqb plan.count 0) (ltb (length table) (plan.count * plan.count)) (exists_at way side (sites_in plan))
    (some-found some_good) twelve
  where
    by_tests : (a b c e : Bool) → e ≡ true
        → outcome_number
        (handed (placed_with (sites_in plan) way) plan
        (unless (first_refusal (a gives BadNumber ∷ b gives NoSites ∷ c gives ShortTable ∷ not e gives NoGoodChoice ∷ []))
        (chosen_at way side (places_of (sites_in plan))))).outcome ≡ 12 → ⊥
    by_tests true b c e there number = omega arith
    by_tests false true c e there number = omega arith
    by_tests false false true e there number = omega arith
    by_tests false false false true there number = omega arith
    by_tests false false false false there number = false≢true there

-- Of the plan of a list, with a table that is long enough, 11 need not be tested.
pub chosen-listed : (way : Way) (side : Side) (sites : List Site) (table : List ℕ) → length sites * length sites ≤ length table
    → chosen_in (unplaced_plan sites) way side table
    ≡ handed (placed_with sites way) (unplaced_plan sites)
    (after_tests (outside side ∷ no_sites (length sites) ∷ no_good (exists_at way side sites) ∷ []) (chosen_at way side (places_of sites)))
unfolding unplaced_plan
chosen-listed way side sites table room =
    ap (λ (l : List Site).
    handed (placed_with l way) (unplaced_plan sites)
    (after_tests (choosing_tests side (length sites) (length table) (exists_at way side l)) (chosen_at way side (places_of l)))) (sites-unplaced sites)
    ∙ rw (le-ltb (length table) (length sites * length sites) room)
    (by_tests (not (is_side side)) (eqb (length sites) 0) (not (exists_at way side sites)))
  where
    by_tests : (a b d : Bool)
        → handed (placed_with sites way) (unplaced_plan sites)
        (unless (first_refusal (a gives BadNumber ∷ b gives NoSites ∷ false gives ShortTable ∷ d gives NoGoodChoice ∷ []))
        (chosen_at way side (places_of sites)))
        ≡ handed (placed_with sites way) (unplaced_plan sites)
        (unless (first_refusal (a gives BadNumber ∷ b gives NoSites ∷ d gives NoGoodChoice ∷ [])) (chosen_at way side (places_of sites)))
    by_tests true b d = refl
    by_tests false true d = refl
    by_tests false false true = refl
    by_tests false false false = refl

-- Of a plan with some sites, and a table that is long enough.
module _ (plan : Plan) (table : List ℕ) (some_sites : plan.count ≡ 0 → ⊥) (room : plan.count * plan.count ≤ length table) where
  -- The side is found,
  pub found-done : (way : Way) → side_found plan way table ≡ accepted (answer_of way (places_of (sites_in plan))).side
  found-done way = rw (ne_eqb plan.count 0 some_sites, le-ltb (length table) (plan.count * plan.count) room)

  -- and the table is cleared,
  pub table-found : table_found plan table ≡ cleared plan.count table
  table-found = rw (ne_eqb plan.count 0 some_sites, le-ltb (length table) (plan.count * plan.count) room)

  module _ (side : Side) (given : is_side side ≡ true) where
    -- as it is by choosing, with 12 too.
    pub table-chosen : table_chosen plan side table ≡ cleared plan.count table
    table-chosen = rw (given, ne_eqb plan.count 0 some_sites, le-ltb (length table) (plan.count * plan.count) room)

    -- Of a side that can be given, only 12 is left to be tested.
    chosen-tested : (way : Way) {exists : Bool} → exists_at way side (sites_in plan) ≡ exists
        → chosen_for plan way side table
        ≡ unless (first_refusal (not exists gives NoGoodChoice ∷ [])) (chosen_at way side (places_of (sites_in plan)))
    chosen-tested way is =
        rw (given, ne_eqb plan.count 0 some_sites, le-ltb (length table) (plan.count * plan.count) room, is)

    -- Where a good choice exists the plan is placed there;
    pub chosen-done : {way : Way} → SomeGood way (judged_at side) (places_of (sites_in plan))
        → chosen_in plan way side table
        ≡ record { outcome = Ok tt; plan = placed_with (sites_in plan) way (chosen_at way side (places_of (sites_in plan))) }
    chosen-done {way} some_good = ap (handed (placed_with (sites_in plan) way) plan) (chosen-tested way (some-found some_good))

    -- where none does, 12 is given.
    pub chosen_none : {way : Way} → (SomeGood way (judged_at side) (places_of (sites_in plan)) → ⊥)
        → chosen_in plan way side table ≡ record { outcome = Err NoGoodChoice; plan = plan }
    chosen_none {way} none_good =
        ap (handed (placed_with (sites_in plan) way) plan) (chosen-tested way (by-search (exists_at way side (sites_in plan)) refl))
      where
        by-search : (exists : Bool) → exists_at way side (sites_in plan) ≡ exists → exists_at way side (sites_in plan) ≡ false
        by-search true is = absurd (none_good (found_some way (judged_at side) (places_of (sites_in plan)) is))
        by-search false is = is

    module _ (way : Way) (places : Distinct (places_of (sites_in plan))) where
      -- Every side up to the one found is accepted,
      pub up-to-accepted : judged_at side ≤ judged_at (answer_of way (places_of (sites_in plan))).side
          → chosen_in plan way side table
          ≡ record { outcome = Ok tt; plan = placed_with (sites_in plan) way (chosen_at way side (places_of (sites_in plan))) }
      up-to-accepted smaller = chosen-done (up-to-found places smaller)

      -- and none above it.
      pub above-refused : judged_at (answer_of way (places_of (sites_in plan))).side < judged_at side
          → chosen_in plan way side table ≡ record { outcome = Err NoGoodChoice; plan = plan }
      above-refused above =
          chosen_none (λ some_good. above-found places above (judged-range side given).1 some_good.choice some_good.good)

-- A cleared table is as long as it was.
cleared-length : (n : ℕ) (table : List ℕ) → n * n ≤ length table → length (cleared n table) ≡ length table
cleared-length n table room =
    omega (arith, length-append (replicate (n * n) 0) (drop (n * n) table), length-replicate {A = ℕ} (n * n) 0, length-drop (n * n) table)

-- Choosing at the answer's side gives the answer.
answer-placed : (plan : Plan) (way : Way) (table : List ℕ) → Distinct (places_of (sites_in plan)) → (plan.count ≡ 0 → ⊥)
    → plan.count * plan.count ≤ length table
    → chosen_in plan way (answer_of way (places_of (sites_in plan))).side table ≡ record { outcome = Ok tt; plan = placed_plan way (sites_in plan) }
answer-placed plan way table places some_sites room =
    let chosen = answer-chosen (answer-is way (places_of (sites_in plan)) places) in
    chosen-done plan table some_sites room (answer_of way (places_of (sites_in plan))).side chosen.given
    (record { choice = _; good = chosen.first.good })
    ∙ ap {B = Planned} (λ (a : Answer). record { outcome = Ok tt; plan = placed_with (sites_in plan) way a }) (found-chosen way places)

-- So finding, and choosing at what was found with the table that finding left, gives the answer.
pub found-then-chosen : (plan : Plan) (way : Way) (table : List ℕ) {side : Side} → Distinct (places_of (sites_in plan)) → (plan.count ≡ 0 → ⊥)
    → plan.count * plan.count ≤ length table → found_in plan way table ≡ Ok side
    → chosen_in plan way side (table_found plan table) ≡ record { outcome = Ok tt; plan = placed_plan way (sites_in plan) }
found-then-chosen plan way table {side} places some_sites room found =
    let done = found-done plan table some_sites room way in
    let told : Ok side ≡ Ok (answer_of way (places_of (sites_in plan))).side = sym found ∙ ap side_answer done in
    let same : side ≡ (answer_of way (places_of (sites_in plan))).side = cc in
    let left = table-found plan table some_sites room in
    let size : length (table_found plan table) ≡ length table = ap length left ∙ cleared-length plan.count table room in
    ap (λ (s : Side). chosen_in plan way s (table_found plan table)) same
    ∙ answer-placed plan way (table_found plan table) places some_sites (omega arith)

-- The plan of some sites, placed by choosing at the side of what is chosen for them.
pub placed_by : {plan : Plan} {sites : List Site} {way : Way} (answer : Answer) (table : List ℕ) → Holding plan sites → sites_in plan ≡ sites
    → 1 ≤ length sites → plan.count * plan.count ≤ length table → IsChosen way (places_of sites) answer
    → chosen_in plan way answer.side table ≡ record { outcome = Ok tt; plan = placed_with sites way answer }
placed_by {plan} {sites} {way} answer table holding same nonempty room chosen =
    chosen-done plan table (λ zero. omega (arith, holding.count)) room answer.side chosen.given
    (rw same (record { choice = answer.corners; good = chosen.first.good }))
    ∙ ap {B = Planned} (λ (l : List Site). record { outcome = Ok tt; plan = placed_with l way (chosen_at way answer.side (places_of l)) }) same
    ∙ ap {B = Planned} (λ (a : Answer). record { outcome = Ok tt; plan = placed_with sites way a }) (sym (is-chosen-at chosen))

-- "Placing a placed plan gives the same answer again": choosing again the same way at the same side changes nothing.
pub chosen-again : {plan : Plan} (table : List ℕ) → Valid plan → plan.placed ≡ true → plan.count * plan.count ≤ length table
    → chosen_in plan plan.way plan.side table ≡ record { outcome = Ok tt; plan = plan }
unfolding unplaced_plan placed_with
chosen-again table (is_unplaced sites listed) is-so room = absurd (false≢true is-so)
chosen-again table (is_placed sites way answer listed nonempty chosen) is-so room =
    placed_by answer table (record { listed = listed; count = refl; names = refl; places = refl }) (sites-placed sites way answer) nonempty room chosen
