-- Laws of the sites of a plan: who is among them, and what holds of a list by the rules.
-- Assumes nothing.
use Rattle.std.specs.Prelude.{◌≡◌, refl, Bool, true, false, ◌||◌, List, [], ◌∷◌, ◌++◌, ℕ, zero, suc, ◌<◌, length, get_or}
use Rattle.std.proofs.Common.{sym, ◌∙◌, true≢false, arith, length-append}
use mathlib.Mathlib.Data.Bool.Basic.{or-eq-false-eq-eq-false-and-eq-false}
use Rattle.std.proofs.Math.ListN.{get_or-map}
use Rattle.std.proofs.lemmas.List.{length-map}
use Rattle.std.proofs.Math.Seq.{get_or-append_seam}
use Rattle.placing.specs.declared.units.Place.{Place}
use Rattle.placing.specs.rules.Units.{site_at, InRange}
use Rattle.placing.specs.deciding.Decides.{Decides}
use Rattle.placing.specs.deciding.Tests.{same-decides}
use Rattle.plan.specs.rules.Text.{same_bytes}
use Rattle.plan.specs.rules.List.{Site, place_of, places_of, among, name_taken, place_taken, no_site, ByRules, Listed}
use Rattle.plan.specs.theorems.Text.{same-bytes-same, same-bytes-refl}

-- Where one of two tests or the other fails, both fail.
neither : (a b : Bool) → (a || b) ≡ false → (a ≡ false) × (b ≡ false)
neither a b e = (or-eq-false-eq-eq-false-and-eq-false a b).0 e

-- A test that decides R.
module _ {test : Site → Bool} {R : Site → Type 0} (decides : (site : Site) → Decides (test site) (R site)) where
  -- Where no site passes, it holds of none ..
  none_passes : (sites : List Site) → among test sites ≡ false → (i : ℕ) → i < length sites → R (get_or sites i no_site) → ⊥
  none_passes [] none i below holds = absurd (omega arith)
  none_passes (site ∷ sites) none zero below holds = (decides site).no_fails (neither (test site) _ none).0 holds
  none_passes (site ∷ sites) none (suc i) below holds = none_passes sites (neither (test site) _ none).1 i (omega arith) holds

  -- .. and where it holds of none, no site passes.
  passes_none : (sites : List Site) → ((i : ℕ) → i < length sites → R (get_or sites i no_site) → ⊥) → among test sites ≡ false
  passes_none [] fails = refl
  passes_none (site ∷ sites) fails =
      go (test site) refl (passes_none sites (λ i below. fails (suc i) (omega arith)))
    where
      go : (b : Bool) → test site ≡ b → among test sites ≡ false → (b || among test sites) ≡ false
      go true e rest = absurd (fails 0 (omega arith) ((decides site).yes_holds e))
      go false e rest = rest

-- The same bytes are the same name.
name-decides : (name : List ℕ) (site : Site) → Decides (same_bytes site.name name) (site.name ≡ name)
name-decides name site =
    record {
      yes_holds = same-bytes-same site.name name;
      no_fails = λ e same. true≢false (sym (rw same (same-bytes-refl name)) ∙ e);
    }

-- A name that is not taken is the name of no site ..
pub name-fresh : (sites : List Site) (name : List ℕ) → name_taken sites name ≡ false
    → (i : ℕ) → i < length sites → (get_or sites i no_site).name ≡ name → ⊥
name-fresh sites name free = none_passes (name-decides name) sites free

-- .. and the name of no site is not taken.
pub fresh-name : (sites : List Site) (name : List ℕ) → ((i : ℕ) → i < length sites → (get_or sites i no_site).name ≡ name → ⊥)
    → name_taken sites name ≡ false
fresh-name sites name fresh = passes_none (name-decides name) sites fresh

-- A place that is not taken is the place of no site ..
pub place-fresh : (sites : List Site) (place : Place) → place_taken sites place ≡ false
    → (i : ℕ) → i < length sites → (get_or sites i no_site).place ≡ place → ⊥
place-fresh sites place free = none_passes (λ site. same-decides site.place place) sites free

-- .. and the place of no site is not taken.
pub fresh-place : (sites : List Site) (place : Place) → ((i : ℕ) → i < length sites → (get_or sites i no_site).place ≡ place → ⊥)
    → place_taken sites place ≡ false
fresh-place sites place fresh = passes_none (λ site. same-decides site.place place) sites fresh

-- The place of a site by its number.
pub place_at : (sites : List Site) (i : ℕ) → site_at (places_of sites) i ≡ (get_or sites i no_site).place
place_at sites i = get_or-map place_of sites i no_site

-- Every site of a list by the rules is by the rules,
pub listed-site : (before : List Site) (site : Site) (after : List Site) → Listed (before ++ (site ∷ after)) → ByRules site
listed-site before site after listed =
    rw (get_or-append_seam before site after no_site) at (listed.by_rules (length before) (omega (arith, length-append before (site ∷ after))))

-- and so the places are in range.
pub listed-in-range : {sites : List Site} → Listed sites → InRange (places_of sites)
listed-in-range {sites} listed =
    record { in_range = λ i below. rw (place_at sites i) (listed.by_rules i (omega (arith, length-map sites place_of))).on_plan }

-- No sites are by the rules.
pub listed-none : Listed []
listed-none =
    record {
      few = omega arith;
      by_rules = λ i below. absurd (omega arith);
      names_distinct = λ i j below. absurd (omega arith);
      places_distinct = record { distinct = λ i j below. absurd (omega arith) };
    }
