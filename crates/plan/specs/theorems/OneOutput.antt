-- The demands name one output: whoever answers a text by them, by the same way, writes the same bytes.
-- Assumes nothing.
use Rattle.std.specs.Prelude.{◌≡◌, refl, true, List, [], ℕ, ◌≤◌, ◌<◌, length}
use Rattle.std.proofs.Common.{sym, ap, ◌∙◌, subst, true≢false, inl, inr, arith}
use Rattle.std.proofs.Math.Option.{some}
use Rattle.placing.specs.declared.units.Side.{Side}
use Rattle.placing.specs.declared.way.Way.{Way}
use Rattle.placing.specs.rules.Choice.{SomeGood}
use Rattle.placing.specs.rules.Answer.{is_side, judged_at}
use Rattle.placing.specs.theorems.Answer.{answer-unique}
use Rattle.placing.specs.theorems.Given.{is-chosen-at}
use Rattle.placing.specs.deciding.Answer.{chosen_at}
use Rattle.plan.specs.rules.Refusal.{Test, number_by, accepted}
use Rattle.plan.specs.declared.plan.Plan.{Plan}
use Rattle.plan.specs.rules.List.{Site, places_of, list_text, end, enter_tests, wanted_at}
use Rattle.plan.specs.rules.Sheet.{sheet_with, side_on, refusal_line, carried}
use Rattle.plan.specs.rules.Calls.{finding_tests, choosing_tests, side_tests, corner_tests, write_tests, cleared}
use Rattle.plan.specs.deciding.Output.{output_of, exists_at, output_at}
use Rattle.plan.specs.calls.Plan.{unplaced_plan, placed_with, placed_plan, sites_in}
use Rattle.plan.specs.calls.Answers.{outcome_number, side_asked_number, corner_asked_number, written_number, sheet_for, AskedSide, AskedCorner, Written, Planned}
use Rattle.plan.specs.Demands.{Refuses, ChooseTold, Accepts, ListRefused, at_line, of_no_sites, RightSheet, SheetFor, Answered, is_refusal_line, list_sheet}
use Rattle.plan.specs.Demands.{EnterTold, SideTold, CornerTold, WriteTold, ReadTold, read_refused, read_all}
use Rattle.plan.specs.Demands.{FindTold, ListTold, list_refused, list_is_placed, ListToldAt, is_refused_at, list_is_placed_at}
use Rattle.plan.specs.Demands.{RefusedAt, out_of_range, refused_list, none_good, PlacedSheet, SheetForAt, AnsweredAt, refusal_at, is_sheet_at}
use Rattle.plan.specs.theorems.Tables.{Tells, table-tells}
use Rattle.plan.specs.theorems.Reading.{reads-unique, reads-are}
use Rattle.plan.specs.theorems.Plan.{sites-unplaced}
use Rattle.plan.specs.theorems.FirstLine.{first-refused-one, refused-not-read, refused-list-not-accepted}

-- A list is refused with one number.
pub refused-one : {text : List ℕ} {n m : ℕ} → ListRefused text n → ListRefused text m → n ≡ m
refused-one (at_line f) (at_line g) = (first-refused-one f g).1
refused-one (at_line f) (of_no_sites empty) = absurd (refused-not-read {sites = []} f (reads-are (rw empty end)))
refused-one (of_no_sites empty) (at_line g) = absurd (refused-not-read {sites = []} g (reads-are (rw empty end)))
refused-one (of_no_sites empty) (of_no_sites other) = refl

-- Two sheets for the same sites are one.
pub right-one : {way : Way} {sites : List Site} {one other : List ℕ} → RightSheet way sites one → RightSheet way sites other → one ≡ other
right-one {sites = sites} a b = a.prints ∙ ap (sheet_with sites) (answer-unique a.is_answer b.is_answer) ∙ sym b.prints

-- A text is accepted as one list of sites.
accepted-same : {text : List ℕ} {one other : List Site} → Accepts text one → Accepts text other → one ≡ other
accepted-same {one = one} {other = other} a b =
    let same : accepted one ≡ accepted other = reads-unique a.read b.read in
    cc

-- Two outputs for the same text by the same way are one.
pub answered-one : {way : Way} {text one other : List ℕ} → Answered way text one → Answered way text other → one ≡ other
answered-one (is_refusal_line r is) (is_refusal_line s so) = is ∙ ap refusal_line (refused-one r s) ∙ sym so
answered-one (is_refusal_line r is) (list_sheet b) = absurd (refused-list-not-accepted r b.accepts)
answered-one (list_sheet a) (is_refusal_line s so) = absurd (refused-list-not-accepted s a.accepts)
answered-one {way} {one = one} (list_sheet a) (list_sheet b) =
    right-one (subst (λ (sites : List Site). RightSheet way sites one) (accepted-same a.accepts b.accepts) a.right) b.right

-- ---- at a given side

-- A list is refused with one number there, too,
refused-at-one : {way : Way} {side : Side} {text : List ℕ} {n m : ℕ} → RefusedAt way side text n → RefusedAt way side text m → n ≡ m
refused-at-one (out_of_range r) (out_of_range s) = refl
refused-at-one (out_of_range r) (refused_list given s) = absurd (true≢false (sym given ∙ r))
refused-at-one (out_of_range r) (none_good given sites accepts none) = absurd (true≢false (sym given ∙ r))
refused-at-one (refused_list given r) (out_of_range s) = absurd (true≢false (sym given ∙ s))
refused-at-one (refused_list given r) (refused_list given' s) = refused-one r s
refused-at-one (refused_list given r) (none_good given' sites accepts none) = absurd (refused-list-not-accepted r accepts)
refused-at-one (none_good given sites accepts none) (out_of_range s) = absurd (true≢false (sym given ∙ s))
refused-at-one (none_good given sites accepts none) (refused_list given' s) = absurd (refused-list-not-accepted s accepts)
refused-at-one (none_good given sites accepts none) (none_good given' others accepts' none') = refl

-- has one sheet,
pub placed_one : {way : Way} {sites : List Site} {side : Side} {one other : List ℕ} → PlacedSheet way sites side one
    → PlacedSheet way sites side other → one ≡ other
placed_one {sites = sites} a b =
    a.prints ∙ ap (sheet_with sites) (is-chosen-at a.is_chosen ∙ sym (is-chosen-at b.is_chosen)) ∙ sym b.prints

-- and not both.
refused-no-sheet : {way : Way} {side : Side} {text sheet : List ℕ} {n : ℕ} → RefusedAt way side text n → SheetForAt way side text sheet → ⊥
refused-no-sheet (out_of_range r) for = true≢false (sym for.placed.is_chosen.given ∙ r)
refused-no-sheet (refused_list given r) for = refused-list-not-accepted r for.accepts
refused-no-sheet {way} {side} (none_good given sites accepts none) for =
    none
    (subst (λ (l : List Site). SomeGood way (judged_at side) (places_of l)) (accepted-same for.accepts accepts)
    (record { choice = for.placed.corners; good = for.placed.is_chosen.first.good }))

-- Nor is it refused where its sites have a good choice at a side that can be given.
refused-not-chosen : {way : Way} {side : Side} {text : List ℕ} {sites : List Site} {n : ℕ} → RefusedAt way side text n → Accepts text sites
    → is_side side ≡ true → SomeGood way (judged_at side) (places_of sites) → ⊥
refused-not-chosen (out_of_range r) accepts given some_good = true≢false (sym given ∙ r)
refused-not-chosen (refused_list given' r) accepts given some_good = refused-list-not-accepted r accepts
refused-not-chosen {way} {side} (none_good given' others accepts' none) accepts given some_good =
    none (subst (λ (l : List Site). SomeGood way (judged_at side) (places_of l)) (accepted-same accepts accepts') some_good)

-- So two outputs for the same text by the same way at the same side are one.
pub answered-at-one : {way : Way} {side : Side} {text one other : List ℕ} → AnsweredAt way side text one → AnsweredAt way side text other
    → one ≡ other
answered-at-one (refusal_at r is) (refusal_at s so) = is ∙ ap refusal_line (refused-at-one r s) ∙ sym so
answered-at-one (refusal_at r is) (is_sheet_at b) = absurd (refused-no-sheet r b)
answered-at-one (is_sheet_at a) (refusal_at s so) = absurd (refused-no-sheet s a)
answered-at-one {way} {side} {one = one} (is_sheet_at a) (is_sheet_at b) =
    placed_one (subst (λ (sites : List Site). PlacedSheet way sites side one) (accepted-same a.accepts b.accepts) a.placed) b.placed

-- ---- the list that a sheet carries

-- It is the text, and gives the sheet again when placed the same way,
pub carried-again : {way : Way} {text sheet : List ℕ} → SheetFor way text sheet → output_of way text ≡ sheet
carried-again {way} for = ap (output_of way) (sym for.gives_back) ∙ for.right.again

-- at a given side when it is placed at the side that it prints,
pub carried-again-at : {way : Way} {side : Side} {text sheet : List ℕ} → SheetForAt way side text sheet → (printed : Side)
    → side_on sheet ≡ some printed → output_at way printed text ≡ sheet
carried-again-at {way} for printed is = ap (output_at way printed) (sym for.gives_back) ∙ for.placed.again printed is

-- which is the one that was given;
pub given-again-at : {way : Way} {side : Side} {text sheet : List ℕ} → SheetForAt way side text sheet → output_at way side text ≡ sheet
given-again-at {side = side} for = carried-again-at for side for.placed.prints_side

-- and it is that of the sites, on every right sheet too.
pub right-carries : {way : Way} {sites : List Site} {sheet : List ℕ} → RightSheet way sites sheet → carried sheet ≡ list_text sites
right-carries right = right.list

pub carried-sites : {way : Way} {side : Side} {text sheet : List ℕ} (for : SheetForAt way side text sheet) → text ≡ list_text for.sites
carried-sites for = sym for.gives_back ∙ for.placed.list

-- ---- what a call tells

-- Choosing: the number of its table, and the plan as it came where that is a refusal;
pub choose-tells : {plan : Plan} {way : Way} {side : Side} {table : List ℕ} {r : Planned} {after : List ℕ}
    → ChooseTold plan way side table r after
    → Tells (choosing_tests side plan.count (length table) (exists_at way side (sites_in plan))) (outcome_number r.outcome)
    × (1 ≤ outcome_number r.outcome → r.plan ≡ plan)
choose-tells {plan} {way} {side} {table} told = (
  subst (Tells _) (sym told.number_is)
      (table-tells (choosing_tests side plan.count (length table) (exists_at way side (sites_in plan)))),
  λ some_number. told.plan_kept (λ zero. omega arith),
)

-- Another call: the number of its table, and where that is a refusal everything as it came.
pub told-tells : {Given : Type 0} {given : ℕ} {before after : Given} (tests : List Test) → Refuses given (number_by tests) before after
    → Tells tests given × (1 ≤ given → after ≡ before)
told-tells tests told = (
  subst (Tells tests) (sym told.number_is) (table-tells tests),
  λ some_number. told.as_it_came (λ zero. omega arith),
)

-- Reading a list and placing it, at a given side too, is told in one way: one number and one plan.
pub list-told-one : {way : Way} {text : List ℕ} {r s : Planned} → ListTold way text r → ListTold way text s
    → (outcome_number r.outcome ≡ outcome_number s.outcome) × (r.plan ≡ s.plan)
list-told-one (list_refused r is) (list_refused s so) = (refused-one r s, is ∙ sym so)
list-told-one (list_refused r is) (list_is_placed sites accepts zero so) = absurd (refused-list-not-accepted r accepts)
list-told-one (list_is_placed sites accepts zero is) (list_refused s so) = absurd (refused-list-not-accepted s accepts)
list-told-one {way} (list_is_placed sites accepts zero is) (list_is_placed others accepts' zero' so) =
    (zero ∙ sym zero', is ∙ ap (placed_plan way) (accepted-same accepts accepts') ∙ sym so)

pub list-told-at-one : {way : Way} {side : Side} {text : List ℕ} {r s : Planned} → ListToldAt way side text r → ListToldAt way side text s
    → (outcome_number r.outcome ≡ outcome_number s.outcome) × (r.plan ≡ s.plan)
list-told-at-one (is_refused_at r is) (is_refused_at s so) = (refused-at-one r s, is ∙ sym so)
list-told-at-one (is_refused_at r is) (list_is_placed_at sites corners accepts chosen zero so) =
    absurd (refused-not-chosen r accepts chosen.given (record { choice = corners; good = chosen.first.good }))
list-told-at-one (list_is_placed_at sites corners accepts chosen zero is) (is_refused_at s so) =
    absurd (refused-not-chosen s accepts chosen.given (record { choice = corners; good = chosen.first.good }))
list-told-at-one {way} {side} (list_is_placed_at sites corners accepts chosen zero is) (list_is_placed_at others corners' accepts' chosen' zero' so) = (
  zero ∙ sym zero',
  is
      ∙ ap (placed_with sites way) (is-chosen-at chosen)
      ∙ ap (λ (l : List Site). placed_with l way (chosen_at way side (places_of l))) (accepted-same accepts accepts')
      ∙ ap (placed_with others way) (sym (is-chosen-at chosen'))
      ∙ sym so,
)

-- So finding, the table being as it came; entering, the plan; writing, the buffer.
pub find-tells : (plan : Plan) (table : List ℕ) (r : AskedSide) (after : List ℕ) → FindTold plan table r after
    → Tells (finding_tests plan.count (length table)) (side_asked_number r) × (1 ≤ side_asked_number r → after ≡ table)
find-tells plan table r after = told-tells (finding_tests plan.count (length table))

pub enter-tells : (plan : Plan) (name : List ℕ) (x y : ℕ) (r : Planned) → EnterTold plan name x y r
    → Tells (enter_tests (sites_in plan) (wanted_at name x y)) (outcome_number r.outcome) × (1 ≤ outcome_number r.outcome → r.plan ≡ plan)
enter-tells plan name x y r = told-tells (enter_tests (sites_in plan) (wanted_at name x y))

pub write-tells : (plan : Plan) (buffer : List ℕ) (r : Written) (after : List ℕ) → WriteTold plan buffer r after
    → Tells (write_tests plan.placed (sheet_for plan) buffer) (written_number r) × (1 ≤ written_number r → after ≡ buffer)
write-tells plan buffer r after = told-tells (write_tests plan.placed (sheet_for plan) buffer)

-- Asking the side or a corner: the number of its table.
pub side-tells : (plan : Plan) (r : AskedSide) → SideTold plan r → Tells (side_tests plan.placed) (side_asked_number r)
side-tells plan r told = subst (Tells (side_tests plan.placed)) (sym told) (table-tells (side_tests plan.placed))

pub corner-tells : (plan : Plan) (i : ℕ) (r : AskedCorner) → CornerTold plan i r
    → Tells (corner_tests plan.placed plan.count i) (corner_asked_number r)
corner-tells plan i r told =
    subst (Tells (corner_tests plan.placed plan.count i)) (sym told) (table-tells (corner_tests plan.placed plan.count i))

-- Reading is told in one way: one number and one plan;
pub read-told-one : {text : List ℕ} {r s : Planned} → ReadTold text r → ReadTold text s
    → (outcome_number r.outcome ≡ outcome_number s.outcome) × (r.plan ≡ s.plan)
read-told-one (read_refused f is) (read_refused g so) = ((first-refused-one f g).1, is ∙ sym so)
read-told-one (read_refused f is) (read_all all zero) = absurd (refused-not-read f (reads-are all.read))
read-told-one (read_all all zero) (read_refused g so) = absurd (refused-not-read g (reads-are all.read))
read-told-one (read_all all zero) (read_all also none) =
    let both : accepted all.sites ≡ accepted also.sites = reads-unique all.read also.read in
    let same : all.sites ≡ also.sites = cc in
    (zero ∙ sym none, all.plan_is ∙ ap unplaced_plan same ∙ sym also.plan_is)

-- and the sites of an accepted reading are all of the text.
pub read-told-whole : {text : List ℕ} {r : Planned} → ReadTold text r → outcome_number r.outcome ≡ 0 → text ≡ list_text (sites_in r.plan)
read-told-whole (read_refused f is) zero = absurd (omega (arith, f.some_number))
read-told-whole (read_all all none) zero =
    sym all.every_line ∙ ap list_text (sym (ap sites_in all.plan_is ∙ sites-unplaced all.sites))

-- Choosing leaves the table cleared with 12 and where it is accepted, and as it came with every other number.
pub choose-leaves : {plan : Plan} {way : Way} {side : Side} {table : List ℕ} {r : Planned} {after : List ℕ}
    → ChooseTold plan way side table r after
    → (outcome_number r.outcome ≡ 0 → after ≡ cleared plan.count table)
    × ((outcome_number r.outcome ≡ 12 → after ≡ cleared plan.count table)
    × ((number : ℕ) → outcome_number r.outcome ≡ number → 1 ≤ number → number < 12 → after ≡ table))
choose-leaves told = (
  λ zero. told.table_cleared (inl zero),
  (
    λ twelve. told.table_cleared (inr twelve),
    λ number is some_number below. told.table_kept (λ zero. omega (arith, is, zero)) (λ twelve. omega (arith, is, twelve)),
  ),
)
