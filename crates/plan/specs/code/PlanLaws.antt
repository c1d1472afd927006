-- What a plan that the calls hand back holds, and the plan with one site more.
-- Assumes nothing.
use Rattle.std.specs.Prelude.{◌≡◌, refl, true, false, List, [], ◌∷◌, ◌++◌, map, ℕ, suc, ◌+◌, ◌-◌, ◌*◌, ◌<◌, length, get_or, take, set, replicate, ok_or, Ok, Err}
use Rattle.std.specs.Prelude as rattle
use Rattle.std.proofs.Common.{sym, ap, ap₂, ◌∙◌, subst, append_assoc, arith, length-append, take_at, ltb-false}
use Rattle.std.proofs.lemmas.List.{map-append, length-map, set_at}
use Rattle.std.proofs.Math.Option.{Option, some, none}
use Rattle.std.proofs.Math.ListN.{get_or-append, get_or-map}
use Rattle.std.proofs.Math.Seq.{take-append_seam}
use Rattle.std.proofs.lemmas.Bool.{eqb-false}
use Rattle.placing.specs.declared.units.Place.{Place}
use Rattle.placing.specs.declared.units.Side.{Side}
use Rattle.placing.specs.declared.units.Side.TheVariants.{Free}
use Rattle.placing.specs.declared.way.Way.{Way}
use Rattle.placing.specs.declared.way.Way.TheVariants.{Usual}
use Rattle.placing.specs.rules.Units.{nowhere, most_sites}
use Rattle.placing.specs.rules.Answer.{judged_at}
use Rattle.placing.specs.deciding.Answer.{first_good, corners_of, is_some, chosen_at}
use Rattle.placing.specs.calls.Placing.{corners_held, choice_as, MayPlace}
use Rattle.plan.specs.declared.name.Name.{Name}
use Rattle.plan.specs.declared.plan.Plan.{Plan}
use Rattle.plan.specs.declared.refusal.Refusal.{Refusal}
use Rattle.plan.specs.rules.Refusal.{first_refusal}
use Rattle.plan.specs.rules.Calls.{finding_tests, cleared}
use Rattle.plan.specs.rules.List.{Site, Listed, no_site, place_of, places_of, name_taken, place_taken}
use Rattle.plan.specs.calls.Plan.{name_of, name_held, name_record, names_held, places_held, unplaced_plan, placed_with, sites_in, Valid, is_unplaced}
use Rattle.plan.specs.deciding.Output.{exists_at}
use Rattle.plan.specs.theorems.Tables.{rows_none}
use Rattle.plan.specs.theorems.Sites.{listed-none, listed-in-range}
use Rattle.plan.specs.theorems.Plan.{Holding, valid-holding}
use Rattle.plan.specs.code.NameRead.{Padded}
use Rattle.plan.specs.code.Taken.{site_of, PaddedNames, names_taken, places_taken, names-of-sites, places-of-sites}

-- A plan that is not placed, from its count, names and places.
abbrev pub unplaced_of : ℕ → List Name → List Place → Plan
unplaced_of count names places =
    record { count = count; names = names; places = places; placed = false; way = Usual; side = Free; corners = replicate most_sites 0 }

-- A plan with one site more. It is not placed.
abbrev pub one_more : Plan → Name → Place → Plan
one_more plan name place = unplaced_of (plan.count + 1) (set plan.names plan.count name) (set plan.places plan.count place)

-- With every slot empty it is the plan of no sites.
pub empty-started : {none : Name} → none ≡ name_of [] → unplaced_of 0 (replicate most_sites none) (replicate most_sites nowhere) ≡ unplaced_plan []
unfolding unplaced_plan
empty-started e = ap (λ (name : Name). unplaced_of 0 (replicate most_sites name) (replicate most_sites nowhere)) e

-- and so one that the calls hand back.
pub empty-valid : {none : Name} → none ≡ name_of [] → Valid (unplaced_of 0 (replicate most_sites none) (replicate most_sites nowhere))
empty-valid e = subst Valid (sym (empty-started e)) (is_unplaced [] listed-none)

-- ---- reading what a plan holds

-- The names that it holds are padded.
pub holding-padded : {plan : Plan} {sites : List Site} → Holding plan sites → PaddedNames plan.count plan.names
holding-padded {plan} {sites} holding = rw (holding.count, holding.names) (record { padded = held })
  where
    held : (i : ℕ) → i < length sites → Padded (get_or (names_held sites) i (name_of []))
    held i below =
        rw (
          get_or-append (map name_record sites) (replicate (most_sites - length sites) (name_of [])) (name_of []) i
              (omega (arith, length-map sites name_record)),
          get_or-map name_record sites i no_site,
        )
        (ap name_of (sym (take-append_seam (get_or sites i no_site).name _)))

-- Its places, the empty slots left out.
pub holding-places : {plan : Plan} {sites : List Site} → Holding plan sites → take plan.count plan.places ≡ places_of sites
holding-places {plan} {sites} holding =
    ap₂ (λ (n : ℕ) (places : List Place). take n places) holding.count holding.places
    ∙ take_at (places_of sites) _ (length sites) (length-map sites place_of)

-- Whether a name is already in it,
pub holding-name : {plan : Plan} {sites : List Site} → Holding plan sites → (bytes : List ℕ)
    → names_taken plan.count plan.names bytes ≡ name_taken sites bytes
holding-name {plan} {sites} holding bytes =
    ap₂ (λ (n : ℕ) (names : List Name). names_taken n names bytes) holding.count holding.names ∙ names-of-sites sites bytes

-- or a place.
pub holding-place : {plan : Plan} {sites : List Site} → Holding plan sites → (place : Place)
    → places_taken plan.count plan.places place ≡ place_taken sites place
holding-place {plan} {sites} holding place =
    ap₂ (λ (n : ℕ) (places : List Place). places_taken n places place) holding.count holding.places ∙ places-of-sites sites place

-- ---- one site more

-- The first empty slot takes what is to be held of one site more.
held_more : {A : Type 0} (f : Site → A) (d : A) (sites : List Site) (site : Site) → length sites < most_sites
    → set (map f sites ++ replicate (most_sites - length sites) d) (length sites) (f site)
    ≡ map f (sites ++ (site ∷ [])) ++ replicate (most_sites - length (sites ++ (site ∷ []))) d
held_more {A} f d sites site room =
    let slot : most_sites - length sites ≡ suc (most_sites - suc (length sites)) = omega arith in
    let left : most_sites - suc (length sites) ≡ most_sites - length (sites ++ (site ∷ [])) = omega (arith, length-append sites (site ∷ [])) in
    ap (λ (n : ℕ). set (map f sites ++ replicate n d) (length sites) (f site)) slot
    ∙ set_at (map f sites) d (replicate (most_sites - suc (length sites)) d) (f site) (length sites) (length-map sites f)
    ∙ sym (append_assoc (map f sites) (f site ∷ []) (replicate (most_sites - suc (length sites)) d))
    ∙ ap₂ (λ (l : List A) (n : ℕ). l ++ replicate n d) (sym (map-append f sites (site ∷ []))) left

-- The plan with a name and a place more is that of the sites with one more.
pub holding-more : {plan : Plan} {sites : List Site} → Holding plan sites → (name : Name) (place : Place) → name ≡ name_of (name_held name)
    → plan.count < most_sites
    → one_more plan name place ≡ unplaced_plan (sites ++ (site_of name place ∷ []))
unfolding unplaced_plan
holding-more {plan} {sites} holding name place named room = λ k. unplaced_of (counts k) (names k) (places k)
  where
    fits : length sites < most_sites
    fits = omega (arith, holding.count)

    counts : plan.count + 1 ≡ length (sites ++ (site_of name place ∷ []))
    counts = omega (arith, holding.count, length-append sites (site_of name place ∷ []))

    names : set plan.names plan.count name ≡ names_held (sites ++ (site_of name place ∷ []))
    names =
        (λ k. set (holding.names k) (holding.count k) (named k)) ∙ held_more name_record (name_of []) sites (site_of name place) fits

    places : set plan.places plan.count place ≡ places_held (sites ++ (site_of name place ∷ []))
    places = (λ k. set (holding.places k) (holding.count k) place) ∙ held_more place_of nowhere sites (site_of name place) fits

-- A plan that the calls hand back, with a site more by the rules, is one too.
module _ {plan before : Plan} (same : plan ≡ before) (valid : Valid plan) (name : Name) (place : Place)
    (named : Padded name) (listed : Listed (sites_in before ++ (site_of name place ∷ []))) where
  pub more-room : plan.count < most_sites
  more-room =
      omega (
        arith,
        listed.few,
        length-append (sites_in before) (site_of name place ∷ []),
        (valid-holding valid).count,
        ap (λ (p : Plan). length (sites_in p)) same,
      )

  pub more-valid : Valid (one_more plan name place)
  more-valid =
      subst Valid (sym (holding-more (valid-holding valid) name place named more-room))
      (is_unplaced (sites_in plan ++ (site_of name place ∷ []))
      (subst (λ (p : Plan). Listed (sites_in p ++ (site_of name place ∷ []))) (sym same) listed))

-- ---- placing

-- A plan with its way, side and corners.
abbrev pub placed_of : ℕ → List Name → List Place → Way → Side → List ℕ → Plan
placed_of count names places way side corners =
    record { count = count; names = names; places = places; placed = true; way = way; side = side; corners = corners }

-- A choice, and whether there is one.
abbrev Choice : Type 0
Choice = rattle.Option (List ℕ)

abbrev Chosen : Type 0
Chosen = rattle.Result (List ℕ) Refusal

-- What choosing hands back for the first good choice: its corners, then zeros; or a refusal where there is none.
some-choice : (first : Option (List ℕ)) (why : Refusal) {corners : List ℕ} → ok_or (choice_as first) why ≡ Ok corners
    → (corners_held (corners_of first) ≡ corners) × (is_some first ≡ true)
some-choice (some cs) why {corners} is = let same : corners_held cs ≡ corners = cc in (same, refl)
some-choice none why is = let z : ◌≡◌ {A = ℕ} 0 1 = cc in absurd (omega arith)

no-choice : (first : Option (List ℕ)) (why : Refusal) {other : Refusal} → ok_or (choice_as first) why ≡ Err other → (is_some first ≡ false) × (why ≡ other)
no-choice (some cs) why is = let z : ◌≡◌ {A = ℕ} 0 1 = cc in absurd (omega arith)
no-choice none why {other} is = let same : why ≡ other = cc in (refl, same)

module _ {plan : Plan} {sites : List Site} (holding : Holding plan sites) where
  -- It holds as many places as sites.
  pub holding-size : length (take plan.count plan.places) ≡ plan.count
  holding-size = ap length (holding-places holding) ∙ length-map sites place_of ∙ sym holding.count

  -- So what clears the table for its places clears it for so many sites.
  pub holding-cleared : (table : List ℕ) {left : List ℕ} → left ≡ cleared (length (take plan.count plan.places)) table
      → left ≡ cleared plan.count table
  holding-cleared table is = is ∙ ap (λ (n : ℕ). cleared n table) holding-size

  -- They may be placed, where no test of finding holds: there are some sites, and the table has room.
  pub holding-ready : (table : List ℕ) → first_refusal (finding_tests plan.count (length table)) ≡ none
      → MayPlace (take plan.count plan.places) table
  holding-ready table ready =
      let none_holds = (rows_none (finding_tests plan.count (length table)) ready).none_holds in
      let some_sites = eqb-false plan.count 0 (none_holds 0 (omega arith)) in
      record {
        some_sites = omega (arith, holding-size);
        few = omega (arith, holding-size, holding.count, holding.listed.few);
        distinct = rw (holding-places holding) holding.listed.places_distinct;
        in_range = rw (holding-places holding) (listed-in-range holding.listed);
        room = rw holding-size (ltb-false (length table) (plan.count * plan.count) (none_holds 1 (omega arith)));
      }

  module _ (way : Way) (side : Side) {choice : Choice} (first : choice ≡ choice_as (first_good way (judged_at side) (take plan.count plan.places)))
      {chosen : Chosen} (why : Refusal) (is : chosen ≡ ok_or choice why) where
    -- The choice by a way at a side for its places is that for its sites.
    chosen-held : ok_or (choice_as (first_good way (judged_at side) (places_of sites))) why ≡ chosen
    chosen-held =
        ap (λ (places : List Place). ok_or (choice_as (first_good way (judged_at side) places)) why) (sym (holding-places holding))
        ∙ ap (λ (c : Choice). ok_or c why) (sym first) ∙ sym is

    module _ {corners : List ℕ} (so : chosen ≡ Ok corners) where
      -- So where there is one, there is one by the rules,
      pub holding-exists : exists_at way side sites ≡ true
      holding-exists = (some-choice (first_good way (judged_at side) (places_of sites)) why (chosen-held ∙ so)).1

      -- and the plan with its corners is that of its sites, placed there;
      pub holding-placed : placed_of plan.count plan.names plan.places way side corners ≡ placed_with sites way (chosen_at way side (places_of sites))
      unfolding placed_with chosen_at
      holding-placed =
          let held = (some-choice (first_good way (judged_at side) (places_of sites)) why (chosen-held ∙ so)).0 in
          λ k. placed_of (holding.count k) (holding.names k) (holding.places k) way side (sym held k)

    -- else there is none.
    pub holding-none : {other : Refusal} → chosen ≡ Err other → (exists_at way side sites ≡ false) × (why ≡ other)
    holding-none so = no-choice (first_good way (judged_at side) (places_of sites)) why (chosen-held ∙ so)
