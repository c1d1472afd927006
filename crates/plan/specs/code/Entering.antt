-- Entering a name and a place as they were read.
-- Assumes nothing.
use Rattle.std.specs.Prelude.{◌≡◌, refl, Bool, true, false, ◌&&◌, List, [], ◌∷◌, ◌++◌, ℕ, ◌-◌, ◌≤◌, ◌<◌, length, take, replicate, Option, Some, None, Ok, Err, unwrap_or}
use Rattle.std.specs.Prelude as rattle
use Rattle.std.specs.Option.{is_some}
use Rattle.std.specs.List.{list_any}
use Rattle.std.proofs.Common.{sym, ap, ap₂, ◌∙◌, subst, le-leb}
use Rattle.std.proofs.lemmas.Bool.{false≢true, lt-leb}
use Rattle.std.proofs.Math.Option as maybe
use Rattle.std.proofs.Math.Option.{some, none}
use Rattle.std.proofs.Math.Seq.{take-append_seam}
use Rattle.placing.specs.declared.units.Place.{Place}
use Rattle.placing.specs.declared.units.Units.{Units}
use Rattle.placing.specs.rules.Units.{OnPlan, most_sites, nowhere}
use Rattle.plan.specs.declared.name.Name.{Name}
use Rattle.plan.specs.declared.plan.SiteRead.{SiteRead}
use Rattle.plan.specs.declared.plan.Plan.{Plan}
use Rattle.plan.specs.declared.refusal.Refusal.{Refusal}
use Rattle.plan.specs.declared.refusal.Refusal.TheVariants as why
use Rattle.plan.specs.rules.Refusal.{Test, first_refusal, Result, accepted, refused, unless, after_tests}
use Rattle.plan.specs.rules.Text.{most_name_bytes, is_name, or_zero}
use Rattle.plan.specs.rules.List.{Site, Listed, place_at, name_taken, place_taken, ByRules, Wanted, enter_tests, entered, is_coordinate, wanted_of}
use Rattle.plan.specs.calls.Plan.{unplaced_plan, name_of, name_held, Valid}
use Rattle.plan.specs.calls.Answers.{handed, Outcome, Planned}
use Rattle.plan.specs.theorems.Plan.{Holding}
use Rattle.plan.specs.theorems.Entering.{Passed, tests-passed, passed-entered, passed-listed, coordinate-fits}
use Rattle.plan.specs.code.NameRead.{Padded, no_name, name_read, name_where}
use Rattle.plan.specs.calls.Given.{coordinate_read}
use Rattle.plan.specs.code.Coordinate.{place_read}
use Rattle.plan.specs.code.NameLaws.{same_records}
use Rattle.plan.specs.code.Taken.{site_of, is_at, name-found, place-found}
use Rattle.plan.specs.code.PlanLaws.{holding-padded, holding-name, holding-place}

-- A name that was read is padded and one by the rules, and a place that was read is on the plan.
abbrev pub NameFits : Option Name → Type 0
NameFits None = Unit {0}
NameFits (Some name) = Padded name × (is_name (name_held name) ≡ true)

abbrev pub PlaceFits : Option Place → Type 0
PlaceFits None = Unit {0}
PlaceFits (Some place) = OnPlan place

pub record SiteFits (read : SiteRead) : Type 0 where
  pub name_fits : NameFits read.name
  pub place_fits : PlaceFits read.place

-- The name and the place, or else those of an empty slot, which no test sees.
abbrev pub name_of_read : SiteRead → Name
name_of_read read = unwrap_or read.name no_name

abbrev pub place_of_read : SiteRead → Place
place_of_read read = unwrap_or read.place nowhere

-- What is wanted by what was read.
abbrev pub wanted_read : SiteRead → Wanted
wanted_read read =
    record { named = is_some read.name; in_range = is_some read.place; site = site_of (name_of_read read) (place_of_read read) }

-- This value, unless a table gives a refusal.
abbrev pub result_of : {A : Type 0} → maybe.Option Refusal → A → rattle.Result A Refusal
result_of none value = Ok value
result_of (some why) value = Err why

-- The name and the place that were read, where they can be entered behind these sites.
abbrev pub admitted : List Site → SiteRead → rattle.Result (Name × Place) Refusal
admitted sites read = result_of (first_refusal (enter_tests sites (wanted_read read))) (name_of_read read, place_of_read read)

-- The refusal of a table as an outcome.
abbrev pub outcome_of : maybe.Option Refusal → Outcome
outcome_of none = Ok tt
outcome_of (some why) = Err why

-- ---- laws: the outcome that the code finds is that of the table

pub outcome-refused : (first : maybe.Option Refusal) {why : Refusal} → outcome_of first ≡ Err why → first ≡ some why
outcome-refused none is = cc
outcome-refused (some other) is = cc

pub outcome-done : (first : maybe.Option Refusal) → outcome_of first ≡ Ok tt → first ≡ none
outcome-done none is = refl
outcome-done (some other) is = cc

module _ (tests : List Test) {outcome : Outcome} (is : outcome ≡ outcome_of (first_refusal tests)) where
  -- Refused, so is what the tests decide;
  pub outcome-refuses : {A : Type 0} (value : A) {why : Refusal} → outcome ≡ Err why → after_tests tests value ≡ refused why
  outcome-refuses value so = ap (λ (first : maybe.Option Refusal). unless first value) (outcome-refused (first_refusal tests) (sym is ∙ so))

  -- done, no test holds.
  pub outcome-none : outcome ≡ Ok tt → first_refusal tests ≡ none
  outcome-none so = outcome-done (first_refusal tests) (sym is ∙ so)

-- ---- laws: what is found taken in a plan

module _ {plan : Plan} {sites : List Site} (holding : Holding plan sites) where
  -- A name among its names is the name of one of its sites, and so is a place.
  pub found-name : {read : Option Name} {name : Name} → NameFits read → read ≡ Some name
      → list_any (λ (other : Name). same_records other name) (take plan.count plan.names) ≡ name_taken sites (name_held name)
  found-name {name = name} fits named =
      name-found plan.count plan.names (holding-padded holding) name (subst NameFits named fits).0 ∙ holding-name holding (name_held name)

  pub found_place : (place : Place) → list_any (is_at place) (take plan.count plan.places) ≡ place_taken sites place
  found_place place = place-found plan.count plan.places place ∙ holding-place holding place

-- ---- laws: what is admitted, test by test

pub full_refused : (sites : List Site) (read : SiteRead) → is_some read.name ≡ true → is_some read.place ≡ true → most_sites ≤ length sites
    → Err why.Full ≡ admitted sites read
full_refused sites read named there full = rw (named, there, le-leb most_sites (length sites) full)

module _ (sites : List Site) (read : SiteRead) {name : Name} {place : Place} (named : read.name ≡ Some name) (spot : read.place ≡ Some place)
    (room : length sites < most_sites) where
  pub name_refused : name_taken sites (name_held name) ≡ true → Err why.NameTaken ≡ admitted sites read
  name_refused taken = rw (named, spot, lt-leb most_sites (length sites) room, taken)

  module _ (fresh : name_taken sites (name_held name) ≡ false) where
    pub place_refused : place_taken sites place ≡ true → Err why.PlaceTaken ≡ admitted sites read
    place_refused taken = rw (named, spot, lt-leb most_sites (length sites) room, fresh, taken)

    pub all_admitted : place_taken sites place ≡ false → Ok (name, place) ≡ admitted sites read
    all_admitted free = rw (named, spot, lt-leb most_sites (length sites) room, fresh, free)

-- ---- laws: what is admitted can be entered

result-value : {A : Type 0} (first : maybe.Option Refusal) (value : A) {other : A} → result_of first value ≡ Ok other → (first ≡ none) × (value ≡ other)
result-value none value is = (refl, cc)
result-value (some why) value is = cc

-- Admitted, no test holds, and the name and the place are those that were read.
admitted-passes : (sites : List Site) (read : SiteRead) {name : Name} {place : Place} → admitted sites read ≡ Ok (name, place)
    → Passed sites (wanted_read read) × (name_of_read read ≡ name) × (place_of_read read ≡ place)
admitted-passes sites read is =
    let told = result-value (first_refusal (enter_tests sites (wanted_read read))) _ is in
    (tests-passed told.0, ap (λ (p : Name × Place). p.0) told.1, ap (λ (p : Name × Place). p.1) told.1)

-- What was read of a name is padded, and by the rules where it is there; so is a place.
read-padded : (read : Option Name) → NameFits read → Padded (unwrap_or read no_name)
read-padded None fits = refl
read-padded (Some name) fits = fits.0

read-named : (read : Option Name) → NameFits read → is_some read ≡ true → is_name (name_held (unwrap_or read no_name)) ≡ true
read-named None fits there = absurd (false≢true there)
read-named (Some name) fits there = fits.1

read_placed : (read : Option Place) → PlaceFits read → is_some read ≡ true → OnPlan (unwrap_or read nowhere)
read_placed None fits there = absurd (false≢true there)
read_placed (Some place) fits there = fits

-- A site that was read and passes is by the rules.
site-padded : {read : SiteRead} → SiteFits read → Padded (name_of_read read)
site-padded {read} fits = read-padded read.name fits.name_fits

read-rules : {sites : List Site} {read : SiteRead} → SiteFits read → Passed sites (wanted_read read) → ByRules (wanted_read read).site
read-rules {read = read} fits passed =
    record {
      named = read-named read.name fits.name_fits passed.given_name;
      on_plan = read_placed read.place fits.place_fits passed.is_inside;
    }

-- A site that is admitted behind some sites.
pub record Admitted (sites : List Site) (read : SiteRead) (name : Name) (place : Place) : Type 0 where
  pub padded : Padded name
  pub room : length sites < most_sites
  pub listed : Listed sites → Listed (sites ++ (site_of name place ∷ []))
  pub enters : entered sites (wanted_read read) ≡ accepted (sites ++ (site_of name place ∷ []))

pub admitted-enters : (sites : List Site) (read : SiteRead) {name : Name} {place : Place} → SiteFits read
    → admitted sites read ≡ Ok (name, place) → Admitted sites read name place
admitted-enters sites read {name} fits is =
    let (passed, named, spot) = admitted-passes sites read is in
    subst (λ (place : Place). Admitted sites read name place) spot
    (subst (λ (name : Name). Admitted sites read name (place_of_read read)) named
    (record {
      padded = site-padded fits;
      room = passed.room;
      listed = λ before. passed-listed before (read-rules fits passed) passed;
      enters = passed-entered passed;
    }))

-- ---- laws: what is read fits

-- A record holds the name that it is the record of.
pub name-held : (bytes : List ℕ) → name_held (name_of bytes) ≡ bytes
name-held bytes = take-append_seam bytes (replicate (most_name_bytes - length bytes) 0)

-- A name that is read fits.
pub name_fits : (bytes : List ℕ) {read : Option Name} → read ≡ name_read bytes → NameFits read
name_fits bytes is = rw is (by-test (is_name bytes) refl)
  where
    by-test : (b : Bool) → is_name bytes ≡ b → NameFits (name_where b bytes)
    by-test true named = (ap name_of (sym (name-held bytes)), ap is_name (name-held bytes) ∙ named)
    by-test false unnamed = tt

-- What is read of two coordinates as they are written: a place on the plan, the one that they write, where both are coordinates.
pub record PlaceIs (n m : maybe.Option ℕ) (read : Option Place) : Type 0 where
  pub fits : PlaceFits read
  pub there : is_coordinate n && is_coordinate m ≡ is_some read
  pub place_is : is_some read ≡ true → place_at (or_zero n) (or_zero m) ≡ unwrap_or read nowhere

no_place : {n m : maybe.Option ℕ} → is_coordinate n && is_coordinate m ≡ false → PlaceIs n m None
no_place outside = record { fits = tt; there = outside; place_is = λ there. absurd (false≢true there) }

pub place_read_lem : (n m : maybe.Option ℕ) {x y : Option Units} {read : Option Place} → x ≡ coordinate_read n → y ≡ coordinate_read m
    → read ≡ place_read x y → PlaceIs n m read
place_read_lem n m x-is y-is is = rw (is, x-is, y-is) (by_tests (is_coordinate n) (is_coordinate m) refl refl)
  where
    by_tests : (a b : Bool) → is_coordinate n ≡ a → is_coordinate m ≡ b
        → PlaceIs n m
        (place_read
        (elim a [ true ↦ Some (record { 0 = or_zero n }) | false ↦ None ])
        (elim b [ true ↦ Some (record { 0 = or_zero m }) | false ↦ None ]))
    by_tests false b x-is y-is = no_place (ap (λ (t : Bool). t && is_coordinate m) x-is)
    by_tests true false x-is y-is = no_place (ap₂ (λ (s t : Bool). s && t) x-is y-is)
    by_tests true true x-is y-is =
        record {
          fits = record { on_x = coordinate-fits n x-is; on_y = coordinate-fits m y-is };
          there = ap₂ (λ (s t : Bool). s && t) x-is y-is;
          place_is = λ there. refl;
        }

-- ---- laws: what becomes of it

-- Where a name or a place is not by the rules, the site does not matter.
entered-same : (sites : List Site) (named in_range : Bool) (site other : Site) → (named ≡ true → in_range ≡ true → site ≡ other)
    → entered sites (record { named = named; in_range = in_range; site = site })
    ≡ entered sites (record { named = named; in_range = in_range; site = other })
entered-same sites false in_range site other same = refl
entered-same sites true false site other same = refl
entered-same sites true true site other same =
    ap (λ (s : Site). entered sites (record { named = true; in_range = true; site = s })) (same refl refl)

-- A name and two coordinates are entered as they were read.
pub entered-as-read : (sites : List Site) (name : List ℕ) (n m : maybe.Option ℕ) {read : SiteRead} → read.name ≡ name_read name
    → PlaceIs n m read.place → entered sites (wanted_of name n m) ≡ entered sites (wanted_read read)
entered-as-read sites name n m {read} read_is place_is =
    entered-same sites (is_name name) (is_coordinate n && is_coordinate m) _ _
    (λ named in_range. λ k. record { name = held named k; place = place_is.place_is (sym place_is.there ∙ in_range) k })
    ∙ (λ k. entered sites (record { named = ok k; in_range = place_is.there k; site = site_of (name_of_read read) (place_of_read read) }))
  where
    by-test : (b : Bool) → b ≡ is_some (name_where b name)
    by-test true = refl
    by-test false = refl

    ok : is_name name ≡ is_some read.name
    ok = by-test (is_name name) ∙ ap (λ (r : Option Name). is_some r) (sym read_is)

    held : is_name name ≡ true → name ≡ name_held (name_of_read read)
    held named =
        sym (name-held name) ∙ ap (λ (b : Bool). name_held (unwrap_or (name_where b name) no_name)) (sym named)
        ∙ ap (λ (r : Option Name). name_held (unwrap_or r no_name)) (sym read_is)

-- The answer of a call is one for sites that are the same.
pub call-answers : {result : Planned} {there here : Result (List Site)} (plan : Plan)
    → (result ≡ handed unplaced_plan plan there) × Valid result.plan → here ≡ there → (result ≡ handed unplaced_plan plan here) × Valid result.plan
call-answers plan answer same = (answer.0 ∙ ap (handed unplaced_plan plan) (sym same), answer.1)
