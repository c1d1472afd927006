-- Laws of entering a site: what the tests 2, 3, 7, 4, 5 tell, and that entering keeps the sites by the rules.
-- Assumes nothing.
use Rattle.std.specs.Prelude.{◌≡◌, refl, true, false, List, [], ◌∷◌, ◌++◌, ◌≢◌, ℕ, suc, ◌+◌, ◌≤◌, ◌<◌, length, get_or}
use Rattle.std.proofs.Common.{sym, arith, leb-true, leb-false, length-append}
use Rattle.std.proofs.lemmas.Bool.{false≢true, lt-leb, not-false}
use Rattle.std.proofs.lemmas.List.{map-append, length-map}
use Rattle.std.proofs.Math.Option.{Option, some, none}
use Rattle.std.proofs.Math.ListN.{get_or-append}
use Rattle.std.proofs.Math.Seq.{get_or-append_seam}
use Rattle.placing.specs.rules.Units.{most_sites, greatest_coordinate, nowhere, site_at}
use Rattle.plan.specs.rules.Refusal.{first_refusal, accepted}
use Rattle.plan.specs.rules.Text.{or_zero}
use Rattle.plan.specs.rules.List.{Site, place_of, places_of, name_taken, place_taken, no_site, ByRules, Listed, Wanted, enter_tests, with_site, entered, is_coordinate, wanted_of, wanted_at}
use Rattle.plan.specs.theorems.Text.{and_both}
use Rattle.plan.specs.theorems.Tables.{rows_none, unless-accepted}
use Rattle.plan.specs.theorems.OneMore.{each_more, each-two-more}
use Rattle.plan.specs.theorems.Sites.{place_at, name-fresh, fresh-name, place-fresh, fresh-place}

-- No test of entering holds.
pub record Passed (sites : List Site) (wanted : Wanted) : Type 0 where
  pub given_name : wanted.named ≡ true
  pub is_inside : wanted.in_range ≡ true
  pub room : length sites < most_sites
  pub name_free : name_taken sites wanted.site.name ≡ false
  pub place_free : place_taken sites wanted.site.place ≡ false

-- It is so where the table gives no refusal ..
pub tests-passed : {sites : List Site} {wanted : Wanted} → first_refusal (enter_tests sites wanted) ≡ none → Passed sites wanted
tests-passed {sites} {wanted} is =
    let rows = rows_none (enter_tests sites wanted) is in
    record {
      given_name = not-false wanted.named (rows.none_holds 0 (omega arith));
      is_inside = not-false wanted.in_range (rows.none_holds 1 (omega arith));
      room = leb-false most_sites (length sites) (rows.none_holds 2 (omega arith));
      name_free = rows.none_holds 3 (omega arith);
      place_free = rows.none_holds 4 (omega arith);
    }

-- .. and there the site is entered.
pub passed-entered : {sites : List Site} {wanted : Wanted} → Passed sites wanted → entered sites wanted ≡ accepted (with_site sites wanted)
passed-entered {sites} {wanted} passed =
    rw (passed.given_name, passed.is_inside, lt-leb most_sites (length sites) passed.room, passed.name_free, passed.place_free)

-- Adding a site by the rules keeps the sites by the rules.
pub passed-listed : {sites : List Site} {wanted : Wanted} → Listed sites → ByRules wanted.site → Passed sites wanted
    → Listed (with_site sites wanted)
passed-listed {sites} {wanted} listed rules fresh =
    record {
      few = omega (arith, length-append sites (site ∷ []), fresh.room);
      by_rules = each_more ByRules no_site sites site listed.by_rules rules;
      names_distinct =
          each-two-more (λ s t. s.name ≡ t.name) no_site sites site (λ s t same. sym same) listed.names_distinct
          (name-fresh sites site.name fresh.name_free);
      places_distinct =
          rw
          (map-append place_of sites (site ∷ []))
          (record {
            distinct =
                each-two-more (λ s t. s ≡ t) nowhere (places_of sites) site.place (λ s t same. sym same) listed.places_distinct.distinct
                new-place;
          });
    }
  where
    site : Site
    site = wanted.site

    new-place : (i : ℕ) → i < length (places_of sites) → site_at (places_of sites) i ≢ site.place
    new-place i below =
        rw (place_at sites i) (place-fresh sites site.place fresh.place_free i (omega (arith, length-map sites place_of)))

-- A site of a list by the rules passes where only those before it stand.
pub listed-passed : (before : List Site) (site : Site) (after : List Site) → Listed (before ++ (site ∷ after))
    → Passed before (record { named = true; in_range = true; site = site })
listed-passed before site after listed =
    record {
      given_name = refl;
      is_inside = refl;
      room = omega (arith, long, listed.few);
      name_free =
          fresh-name before site.name
          (λ i below same. listed.names_distinct i (length before) (omega (arith, long)) (omega (arith, long)) (omega arith) (at_name i below same));
      place_free =
          fresh-place before site.place
          (λ i below same.
          listed.places_distinct.distinct i (length before) (omega (arith, long, mapped)) (omega (arith, long, mapped)) (omega arith)
          (at_place i below same));
    }
  where
    long : length (before ++ (site ∷ after)) ≡ length before + suc (length after)
    long = length-append before (site ∷ after)

    mapped : length (places_of (before ++ (site ∷ after))) ≡ length (before ++ (site ∷ after))
    mapped = length-map (before ++ (site ∷ after)) place_of

    at_name : (i : ℕ) → i < length before → (get_or before i no_site).name ≡ site.name
        → (get_or (before ++ (site ∷ after)) i no_site).name ≡ (get_or (before ++ (site ∷ after)) (length before) no_site).name
    at_name i below same = rw (get_or-append before (site ∷ after) no_site i below, get_or-append_seam before site after no_site) same

    at_place : (i : ℕ) → i < length before → (get_or before i no_site).place ≡ site.place
        → site_at (places_of (before ++ (site ∷ after))) i ≡ site_at (places_of (before ++ (site ∷ after))) (length before)
    at_place i below same =
        rw (
          place_at (before ++ (site ∷ after)) i,
          place_at (before ++ (site ∷ after)) (length before),
          get_or-append before (site ∷ after) no_site i below,
          get_or-append_seam before site after no_site,
        )
        same

-- What entering a name and two numbers tells where it is accepted: no test holds, and the site stands last.
pub entered-passed : {sites : List Site} {wanted : Wanted} {more : List Site} → entered sites wanted ≡ accepted more
    → Passed sites wanted × (more ≡ with_site sites wanted)
entered-passed {sites} {wanted} is =
    let told = unless-accepted (first_refusal (enter_tests sites wanted)) is in (tests-passed told.0, told.1)

-- A coordinate that is given or written is in range.
pub coordinate-fits : (number : Option ℕ) → is_coordinate number ≡ true → or_zero number ≤ greatest_coordinate
coordinate-fits none writes = absurd (false≢true writes)
coordinate-fits (some n) writes = leb-true n greatest_coordinate writes

-- A name, an x and a y that pass keep the sites by the rules.
pub wanted-listed : {sites : List Site} (name : List ℕ) (x y : Option ℕ) → Listed sites → Passed sites (wanted_of name x y)
    → Listed (with_site sites (wanted_of name x y))
wanted-listed name x y listed passed =
    let both = and_both (is_coordinate x) (is_coordinate y) passed.is_inside in
    let rules : ByRules (wanted_of name x y).site = record {
      named = passed.given_name;
      on_plan = record { on_x = coordinate-fits x both.0; on_y = coordinate-fits y both.1 };
    } in
    passed-listed listed rules passed

-- Entering by the rules keeps the sites by the rules.
pub entered-listed : {sites : List Site} (name : List ℕ) (x y : ℕ) {more : List Site} → Listed sites
    → entered sites (wanted_at name x y) ≡ accepted more → Listed more
entered-listed {sites} name x y listed is =
    let told = entered-passed {wanted = wanted_at name x y} is in
    rw told.1 (wanted-listed name (some x) (some y) listed told.0)
