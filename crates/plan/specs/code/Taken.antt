-- Whether a name or a place is already in a plan, as its record holds them.
-- Assumes nothing.
use Rattle.std.specs.Prelude.{◌≡◌, refl, Bool, ◌||◌, List, [], ◌∷◌, ◌++◌, map, ℕ, zero, suc, ◌-◌, ◌<◌, length, get_or, take, replicate}
use Rattle.std.specs.List.{list_any}
use Rattle.std.proofs.Common.{ap, ap₂, arith}
use Rattle.std.proofs.Math.Seq.{take-append_seam}
use Rattle.placing.specs.declared.units.Place.{Place}
use Rattle.placing.specs.deciding.Tests.{same_place}
use Rattle.plan.specs.declared.name.Name.{Name}
use Rattle.plan.specs.rules.Text.{most_name_bytes, same_bytes}
use Rattle.plan.specs.rules.List.{Site, place_of, among, name_taken, place_taken}
use Rattle.plan.specs.calls.Plan.{name_of, name_held, name_record, names_held, places_held}
use Rattle.plan.specs.code.NameRead.{Padded}
use Rattle.plan.specs.code.NameLaws.{same_records, records-equal}

-- The site of a name's record at a place.
abbrev pub site_of : Name → Place → Site
site_of name place = record { name = name_held name; place = place }

-- The first n names are padded.
pub record PaddedNames (n : ℕ) (names : List Name) : Type 0 where
  pub padded : (i : ℕ) → i < n → Padded (get_or names i (name_of []))

-- One of the first n names is this one.
abbrev pub is_named : List ℕ → Name → Bool
is_named bytes name = same_bytes (name_held name) bytes

abbrev pub names_taken : ℕ → List Name → List ℕ → Bool
names_taken n names bytes = among (is_named bytes) (take n names)

-- One of the first n places is this one.
abbrev pub is_at : Place → Place → Bool
is_at place other = same_place other place

abbrev pub places_taken : ℕ → List Place → Place → Bool
places_taken n places place = among (is_at place) (take n places)

-- ---- laws: what looking through them says

-- Some element passes: the test that `any` and `contains` make.
any-among : {A : Type 0} (test : A → Bool) (l : List A) → list_any test l ≡ among test l
any-among test [] = refl
any-among test (a ∷ l) = ap (λ (rest : Bool). test a || rest) (any-among test l)

-- A place is found by its coordinates,
pub place-found : (n : ℕ) (places : List Place) (place : Place) → list_any (is_at place) (take n places) ≡ places_taken n places place
place-found n places place = any-among (is_at place) (take n places)

-- and a name, where the records are padded, by its bytes.
pub name-found : (n : ℕ) (names : List Name) → PaddedNames n names → (name : Name) → Padded name
    → list_any (λ (other : Name). same_records other name) (take n names) ≡ names_taken n names (name_held name)
name-found zero names held name padded = refl
name-found (suc n) [] held name padded = refl
name-found (suc n) (other ∷ names) held name padded =
    ap₂ (λ (a b : Bool). a || b) (records-equal other name (held.padded 0 (omega arith)) padded)
    (name-found n names (record { padded = λ i below. held.padded (suc i) (omega arith) }) name padded)

-- ---- laws: what a plan holds

-- What some sites were made to, with more behind it, passes where the sites do.
among-held : {A : Type 0} (f : Site → A) (test : A → Bool) (own : Site → Bool) → ((site : Site) → test (f site) ≡ own site)
    → (sites : List Site) (more : List A) → among test (take (length sites) (map f sites ++ more)) ≡ among own sites
among-held f test own same [] more = refl
among-held f test own same (site ∷ sites) more = ap₂ (λ (a b : Bool). a || b) (same site) (among-held f test own same sites more)

-- A name among the names that are held of some sites is the name of one of them; and so of a place.
pub names-of-sites : (sites : List Site) (bytes : List ℕ) → names_taken (length sites) (names_held sites) bytes ≡ name_taken sites bytes
names-of-sites sites bytes =
    among-held name_record (is_named bytes) (λ site. same_bytes site.name bytes)
    (λ site. ap (λ (name : List ℕ). same_bytes name bytes) (take-append_seam site.name (replicate (most_name_bytes - length site.name) 0)))
    sites _

pub places-of-sites : (sites : List Site) (place : Place) → places_taken (length sites) (places_held sites) place ≡ place_taken sites place
places-of-sites sites place = among-held place_of (is_at place) (λ site. same_place site.place place) (λ site. refl) sites _
