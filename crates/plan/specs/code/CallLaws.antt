-- The answers of the calls, test by test.
-- Assumes nothing.
use Rattle.std.specs.Prelude.{◌≡◌, refl, true, false, List, [], ◌∷◌, ℕ, ◌≤◌, ◌<◌, length, get_or, is_some, ok_or, IsErrAnd, Some, None, Ok, Err}
use Rattle.std.specs.Prelude as rattle
use Rattle.std.proofs.Common.{sym, ap, ◌∙◌, subst, arith}
use Rattle.std.proofs.Math.Option.{Option, some, none}
use borrow.Author.Tests.{le-leb, lt-leb}
use Rattle.placing.specs.declared.units.Side.{Side}
use Rattle.placing.specs.declared.way.Way.{Way}
use Rattle.placing.specs.rules.Choice.{corner_at}
use Rattle.placing.specs.rules.Answer.{is_side, side_number}
use Rattle.placing.specs.deciding.Answer.{answer_of, chosen_at}
use Rattle.placing.specs.theorems.Given.{chosen_is}
use Rattle.plan.specs.declared.refusal.Refusal.{Refusal}
use Rattle.plan.specs.declared.refusal.Refusal.TheVariants as why
use Rattle.plan.specs.declared.plan.Placement.{Placement}
use Rattle.plan.specs.declared.plan.Plan.{Plan}
use Rattle.plan.specs.rules.Refusal.{first_refusal, number_by, Result, accepted, refused, unless}
use Rattle.plan.specs.rules.List.{Site, places_of, Listed}
use Rattle.plan.specs.rules.Calls.{corner_tests, finding_tests, choosing_tests, before_choice, no_good, cleared, bytes_after}
use Rattle.plan.specs.deciding.Output.{exists_at}
use Rattle.plan.specs.calls.Plan.{unplaced_plan, placed_with, sites_in, Valid, is_unplaced, is_placed}
use Rattle.plan.specs.calls.Answers.{
  handed,
  side_answer,
  side_carried,
  carried_at,
  found_in,
  table_found,
  chosen_in,
  table_chosen,
  side_asked,
  corner_asked,
  Outcome,
  answer_for,
  corner_carried,
  AskedSide,
  AskedCorner,
  Planned,
}
use Rattle.plan.specs.Demands.{FindTold, ChooseTold, CornerTold}
use Rattle.plan.specs.theorems.Tables.{first-early, first-late}
use Rattle.plan.specs.theorems.Plan.{valid-holding, valid-corner}
use Rattle.plan.specs.theorems.Calls.{find-told, choose-told, corner-told}

-- ---- answers

-- A refusal with this plan.
abbrev pub refusal-of : Plan → Refusal → Planned
refusal-of plan why = record { outcome = Err why; plan = plan }

-- A refusal that is handed on is the same one,
pub handed-on : {A : Type 0} {why : Refusal} {r : rattle.Result A Refusal} → IsErrAnd r (λ other. other ≡ why) → r ≡ Err why
handed-on {r = Err other} same = ap Err same
handed-on {r = Ok value} never = absurd never

-- with whatever plan.
pub handed-back : {why : Refusal} {r : Outcome} (plan : Plan) → IsErrAnd r (λ other. other ≡ why)
    → ◌≡◌ {A = Planned} (record { outcome = r; plan = plan }) (refusal-of plan why)
handed-back plan same = ap {B = Planned} (λ (o : Outcome). record { outcome = o; plan = plan }) (handed-on same)

-- Refused, a call hands back the plan as it came.
pub refuses : {plan : Plan} {why : Refusal} {r : Planned} {sites : Result (List Site)} → Valid plan → r ≡ refusal-of plan why
    → sites ≡ refused why → (r ≡ handed unplaced_plan plan sites) × Valid r.plan
refuses {plan} {why} {r} {sites} valid is_refused why-refused =
    (is_refused ∙ sym (ap (handed unplaced_plan plan) why-refused), subst (λ (p : Planned). Valid p.plan) (sym is_refused) valid)

-- Accepted, it hands back the plan of the sites afterwards.
pub accepts : (plan : Plan) {after : Plan} {sites : Result (List Site)} {more : List Site} → Listed more → after ≡ unplaced_plan more
    → sites ≡ accepted more → (record { outcome = Ok tt; plan = after } ≡ handed unplaced_plan plan sites) × Valid after
accepts plan {after} {sites} {more} listed same is-accepted = (
  ap {B = Planned} (λ (p : Plan). record { outcome = Ok tt; plan = p }) same ∙ sym (ap (handed unplaced_plan plan) is-accepted),
  subst Valid (sym same) (is_unplaced more listed),
)

-- ---- finding: tests 8, 11

-- What is promised of finding.
abbrev pub FindPromised : Plan → Way → List ℕ → AskedSide → List ℕ → Type 0
FindPromised plan way table r left =
    (r ≡ found_in plan way table)
    × ((left ≡ table_found plan table)
    × (FindTold plan table r left
    × (side_carried r
    ≡ carried_at (number_by (finding_tests plan.count (length table))) (side_number (answer_of way (places_of (sites_in plan))).side))))

module _ (plan : Plan) (way : Way) (table : List ℕ) where
  -- All of it follows from the first refusal, the side and the table.
  find-promised : {r : AskedSide} {left : List ℕ} (first : Option Refusal) → first_refusal (finding_tests plan.count (length table)) ≡ first
      → r ≡ side_answer (unless first (answer_of way (places_of (sites_in plan))).side)
      → left ≡ bytes_after (unless first plan) (cleared plan.count table) table → FindPromised plan way table r left
  find-promised {r} {left} first is r-is left_is =
      let side = (answer_of way (places_of (sites_in plan))).side in
      let found : r ≡ found_in plan way table = r-is ∙ ap (λ (f : Option Refusal). side_answer (unless f side)) (sym is) in
      let left_so : left ≡ table_found plan table
      = left_is ∙ ap (λ (f : Option Refusal). bytes_after (unless f plan) (cleared plan.count table) table) (sym is) in
      (found, (left_so, find-told plan way table found left_so))

  -- Refused, finding changes nothing.
  pub find-refuses : {why : Refusal} {r : AskedSide} → first_refusal (finding_tests plan.count (length table)) ≡ some why → r ≡ Err why
      → FindPromised plan way table r table
  find-refuses {why} is r-is = find-promised (some why) is r-is refl

  -- Accepted, it tells the side and has cleared the table.
  pub find-accepts : {side : Side} {left : List ℕ} → first_refusal (finding_tests plan.count (length table)) ≡ none
      → side ≡ (answer_of way (places_of (sites_in plan))).side → left ≡ cleared plan.count table
      → FindPromised plan way table (Ok side) left
  find-accepts is side-is left_is = find-promised none is (ap Ok side-is) left_is

-- ---- choosing at a given side: tests 3, 8, 11, 12

-- What is promised of choosing.
abbrev pub ChoosePromised : Plan → Way → Side → List ℕ → Planned → List ℕ → Type 0
ChoosePromised plan way side table r left =
    (r ≡ chosen_in plan way side table) × ((left ≡ table_chosen plan side table) × ChooseTold plan way side table r left)

-- The refusal of the tests before 12: 3 where the side cannot be given, else that of finding.
pub outside-first : (side : Side) (n bytes : ℕ) → is_side side ≡ false → first_refusal (before_choice side n bytes) ≡ some why.BadNumber
outside-first side n bytes given = rw given

pub given-first : (side : Side) (n bytes : ℕ) {first : Option Refusal} → is_side side ≡ true → first_refusal (finding_tests n bytes) ≡ first
    → first_refusal (before_choice side n bytes) ≡ first
given-first side n bytes given is = rw given is

module _ (plan : Plan) (way : Way) (side : Side) (table : List ℕ) where
  -- All of it follows from the refusal of all tests, and from that of the tests before 12.
  choose-promised : {r : Planned} {left : List ℕ} (first early : Option Refusal)
      → first_refusal (choosing_tests side plan.count (length table) (exists_at way side (sites_in plan))) ≡ first
      → first_refusal (before_choice side plan.count (length table)) ≡ early
      → r ≡ handed (placed_with (sites_in plan) way) plan (unless first (chosen_at way side (places_of (sites_in plan))))
      → left ≡ bytes_after (unless early side) (cleared plan.count table) table → ChoosePromised plan way side table r left
  choose-promised {r} {left} first early first-is early-is r-is left_is =
      let answer = chosen_at way side (places_of (sites_in plan)) in
      let is : r ≡ chosen_in plan way side table
      = r-is ∙ ap (λ (f : Option Refusal). handed (placed_with (sites_in plan) way) plan (unless f answer)) (sym first-is) in
      let left_so : left ≡ table_chosen plan side table
      = left_is ∙ ap (λ (f : Option Refusal). bytes_after (unless f side) (cleared plan.count table) table) (sym early-is) in
      (is, (left_so, choose-told plan way side table is left_so))

  -- Refused before 12, choosing changes nothing.
  pub choose-refuses : {r : Planned} {why : Refusal} → first_refusal (before_choice side plan.count (length table)) ≡ some why
      → r ≡ refusal-of plan why → ChoosePromised plan way side table r table
  choose-refuses {r} {why} early is =
      choose-promised (some why) (some why) (first-early (before_choice side plan.count (length table)) (no_good (exists_at way side (sites_in plan)) ∷ []) early) early is refl

  module _ (early : first_refusal (before_choice side plan.count (length table)) ≡ none) {r : Planned} {left : List ℕ}
      (left_is : left ≡ cleared plan.count table) where
    -- Where no good choice exists, the table alone is changed.
    pub choose-none : exists_at way side (sites_in plan) ≡ false → r ≡ refusal-of plan why.NoGoodChoice
        → ChoosePromised plan way side table r left
    choose-none none_good is =
        choose-promised (some why.NoGoodChoice) none
        (first-late (before_choice side plan.count (length table)) (no_good (exists_at way side (sites_in plan)) ∷ []) early ∙ rw none_good) early is left_is

    -- Accepted, it hands back the plan placed at the side.
    pub choose-accepts : exists_at way side (sites_in plan) ≡ true
        → r ≡ record { outcome = Ok tt; plan = placed_with (sites_in plan) way (chosen_at way side (places_of (sites_in plan))) }
        → ChoosePromised plan way side table r left
    choose-accepts there is =
        choose-promised none none
        (first-late (before_choice side plan.count (length table)) (no_good (exists_at way side (sites_in plan)) ∷ []) early ∙ rw there) early is left_is

-- That is a plan that the calls hand back.
pub chosen-valid : {plan : Plan} → Valid plan → (way : Way) (side : Side) → is_side side ≡ true → exists_at way side (sites_in plan) ≡ true
    → 1 ≤ plan.count → Valid (placed_with (sites_in plan) way (chosen_at way side (places_of (sites_in plan))))
chosen-valid {plan} valid way side given there some_sites =
    let holding = valid-holding valid in
    is_placed (sites_in plan) way _ holding.listed (omega (arith, holding.count)) (chosen_is way (places_of (sites_in plan)) side given there)

-- ---- asking: tests 9, 6

-- Where a placement is asked for, it is there,
pub placement-there : (at : rattle.Option Placement) (why : Refusal) {placement : Placement} → ok_or at why ≡ Ok placement → at ≡ Some placement
placement-there (Some other) why {placement} is = let same : other ≡ placement = cc in ap Some same
placement-there None why is = let z : ◌≡◌ {A = ℕ} 0 1 = cc in absurd (omega arith)

-- or it is not.
pub placement-none : (at : rattle.Option Placement) (why : Refusal) {other : Refusal} → ok_or at why ≡ Err other → (is_some at ≡ false) × (why ≡ other)
placement-none (Some placement) why is = let z : ◌≡◌ {A = ℕ} 0 1 = cc in absurd (omega arith)
placement-none None why {other} is = let same : why ≡ other = cc in (refl, same)

-- A plan that is not placed has no side to tell;
pub side-refused : (plan : Plan) → plan.placed ≡ false → Err why.NotPlaced ≡ side_asked plan
side-refused plan is = rw is

-- one that is placed tells the side it holds.
pub side-given : (plan : Plan) → plan.placed ≡ true → Ok plan.side ≡ side_asked plan
unfolding chosen_at
side-given plan is = rw is

module _ (plan : Plan) (i : ℕ) where
  -- A plan that is not placed has no corner to tell,
  pub corner-refused : plan.placed ≡ false → Err why.NotPlaced ≡ corner_asked plan i
  corner-refused is = rw is

  -- and none for a number at or above the count;
  pub corner-outside : plan.placed ≡ true → plan.count ≤ i → Err why.NoSuchSite ≡ corner_asked plan i
  corner-outside is outside = rw (is, le-leb plan.count i outside)

  -- else it tells the corner it holds.
  pub corner-given : Valid plan → plan.placed ≡ true → i < plan.count → Ok (get_or plan.corners i 0) ≡ corner_asked plan i
  unfolding sites_in
  corner-given valid is below = rw (is, lt-leb plan.count i below) (ap Ok (valid-corner valid is i below))

-- What is promised of asking a corner of a plan, from those of its fields.
abbrev pub CornerPromised : Plan → ℕ → AskedCorner → Type 0
CornerPromised plan i r =
    (r ≡ corner_asked plan i)
    × (CornerTold plan i r
    × (corner_carried r ≡ carried_at (number_by (corner_tests plan.placed plan.count i)) (corner_at (answer_for plan).corners i)))

pub corner-promised : {plan before : Plan} (i : ℕ) {r : AskedCorner} → plan ≡ before → r ≡ corner_asked plan i → CornerPromised before i r
corner-promised {plan} i {r} same is =
    let told = corner-told plan i is in subst (λ (p : Plan). CornerPromised p i r) same (is, (told.0, told.1))
