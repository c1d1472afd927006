-- Laws of `Asked`: the answer by the tests, what it tells, and that this is told in one way.
-- Assumes nothing.
use Rattle.std.specs.Prelude.{◌≡◌, refl, Bool, true, false, not, ◌||◌, List, [], ◌∷◌, ℕ, ◌≤◌, ◌<◌, leb, ltb, Ok, Err}
use Rattle.std.proofs.Common.{sym, ap, arith, le-leb, le-ltb, lt-ltb}
use Rattle.std.proofs.Math.Option.{none, some}
use Rattle.std.proofs.Math.Decide.{dec_le}
use Rattle.std.proofs.lemmas.Bool.{lt-leb}
use Rattle.placing.specs.declared.units.Growth.{Growth}
use Rattle.placing.specs.declared.units.Growth.TheVariants.{Never}
use Rattle.placing.specs.declared.units.Place.{Place}
use Rattle.placing.specs.rules.Units.{greatest_coordinate}
use Rattle.placing.specs.rules.Corner.{Corner}
use Rattle.placing.specs.rules.Label.{Meet}
use Rattle.placing.specs.rules.Growth.{growth_number, Exceeds}
use Rattle.placing.specs.deciding.Growth.{up_to, growth_of}
use Rattle.placing.specs.deciding.Decides.{Decides, decides-yes, decides-no}
use Rattle.placing.specs.deciding.Tests.{le-decides, both-decide, corner-decides}
use Rattle.placing.specs.theorems.Growth.{grows-to, grows_one, grows-turned, meet-beyond, same_place}
use Rattle.plan.specs.declared.refusal.Refusal.{Refusal}
use Rattle.plan.specs.declared.refusal.Refusal.TheVariants.{BadNumber}
use Rattle.plan.specs.rules.Refusal.{number_of, Test, ◌gives◌, number_by, after_tests}
use Rattle.plan.specs.rules.List.{place_at}
use Rattle.plan.specs.calls.Answers.{carried_at}
use Rattle.growth.specs.Asked.{
  AskedGrowth,
  no_label,
  growth_tests,
  growth_asked_number,
  growth_carried,
  growth_answer,
  growth_asked,
  HasLabel,
  GrowthTold,
  told,
  told_3,
}

-- A number is above a bound where it is not up to it.
pub above-not : (most n : ℕ) → ltb most n ≡ not (leb n most)
above-not most n = go (dec_le n most)
  where
    go : Dec (n ≤ most) → ltb most n ≡ not (leb n most)
    go (yes within) = rw (le-leb n most within, le-ltb most n within)
    go (no above) = let more : most < n = omega arith in rw (lt-leb n most more, lt-ltb most n more)

-- The tests decide whether there is a label to be asked about.
pub label-decides : (s : Place) (c : ℕ) → Decides (not (no_label s c)) (HasLabel s c)
label-decides s c =
    go (both-decide (le-decides s.x.0 greatest_coordinate) (le-decides s.y.0 greatest_coordinate)) (corner-decides c)
  where
    go : {a b : Bool} → Decides a ((s.x.0 ≤ greatest_coordinate) × (s.y.0 ≤ greatest_coordinate)) → Decides b (Corner c)
        → Decides (not (not a || not b)) (HasLabel s c)
    go {a = true} {b = true} inside corner =
        let on = inside.yes_holds refl in
        decides-yes (record { on_plan = record { on_x = on.0; on_y = on.1 }; corner = corner.yes_holds refl })
    go {a = true} {b = false} inside corner = decides-no (λ label. corner.no_fails refl label.corner)
    go {a = false} inside corner = decides-no (λ label. inside.no_fails refl (label.on_plan.on_x, label.on_plan.on_y))

pub has-label : (s : Place) (c : ℕ) → no_label s c ≡ false → HasLabel s c
has-label s c is = (label-decides s c).yes_holds (ap not is)

module _ (s : Place) (c : ℕ) (t : Place) (e : ℕ) where
  abbrev tested : (first second : Bool) → List Test
  tested first second = first gives BadNumber ∷ second gives BadNumber ∷ []

  -- The answer, by the two tests.
  pub first-refused : no_label s c ≡ true → growth_asked s c t e ≡ Err BadNumber
  first-refused is = rw is

  pub second-refused : no_label s c ≡ false → no_label t e ≡ true → growth_asked s c t e ≡ Err BadNumber
  second-refused passed is = rw (passed, is)

  pub growth-given : no_label s c ≡ false → no_label t e ≡ false → growth_asked s c t e ≡ Ok (growth_of s c t e)
  growth-given passed also = rw (passed, also)

  -- What is handed back tells what the contract says,
  pub asked-tells : GrowthTold s c t e (growth_asked s c t e)
  asked-tells = go (no_label s c) (no_label t e) (label-decides s c) (label-decides t e)
    where
      go : (first second : Bool) → Decides (not first) (HasLabel s c) → Decides (not second) (HasLabel t e)
          → GrowthTold s c t e (growth_answer (after_tests (tested first second) (growth_of s c t e)))
      go true second own other = told_3 (λ has-own has_other. own.no_fails refl has-own)
      go false true own other = told_3 (λ has-own has_other. other.no_fails refl has_other)
      go false false own other = told (own.yes_holds refl) (other.yes_holds refl) (grows-to s c t e)

  -- with its number and its value.
  asked-values : (growth_asked_number (growth_asked s c t e) ≡ number_by (growth_tests s c t e))
      × (growth_carried (growth_asked s c t e) ≡ carried_at (number_by (growth_tests s c t e)) (growth_number (growth_of s c t e)))
  asked-values = go (no_label s c) (no_label t e)
    where
      go : (first second : Bool)
          → (growth_asked_number (growth_answer (after_tests (tested first second) (growth_of s c t e))) ≡ number_by (tested first second))
          × (growth_carried (growth_answer (after_tests (tested first second) (growth_of s c t e)))
          ≡ carried_at (number_by (tested first second)) (growth_number (growth_of s c t e)))
      go true second = (refl, refl)
      go false true = (refl, refl)
      go false false = (refl, refl)

  -- So what is handed back has the whole contract.
  pub asked-meets : {r : AskedGrowth} → r ≡ growth_asked s c t e
      → (r ≡ growth_asked s c t e) × ((growth_asked_number r ≡ number_by (growth_tests s c t e)) × (GrowthTold s c t e r
      × (growth_carried r ≡ carried_at (number_by (growth_tests s c t e)) (growth_number (growth_of s c t e)))))
  asked-meets is = (is, rw is (asked-values.0, (asked-tells, asked-values.1)))

-- ---- what the contract says

-- Any label within the coordinate range, at a corner 1 to 4, can be asked about, and no other can.
pub label-range : {x y c : ℕ} → x ≤ 10000 → y ≤ 10000 → 1 ≤ c → c ≤ 4 → HasLabel (place_at x y) c
label-range x-in y-in least most = record { on_plan = record { on_x = x-in; on_y = y-in }; corner = record { least = least; most = most } }

pub range-label : {x y c : ℕ} → HasLabel (place_at x y) c → (x ≤ 10000) × ((y ≤ 10000) × ((1 ≤ c) × (c ≤ 4)))
range-label has = (has.on_plan.on_x, (has.on_plan.on_y, (has.corner.least, has.corner.most)))

-- It is told in one way.
pub told-one : {s : Place} {c : ℕ} {t : Place} {e : ℕ} {r other : AskedGrowth} → GrowthTold s c t e r → GrowthTold s c t e other → r ≡ other
told-one (told own beside grows) (told own' beside' grows') = ap Ok (grows_one grows grows')
told-one (told own beside grows) (told_3 refused) = absurd (refused own beside)
told-one (told_3 refused) (told own beside grows) = absurd (refused own beside)
told-one (told_3 refused) (told_3 refused') = refl

-- The law for fractions too: where a growth is told, the labels meet at p/q exactly when it is a number g and p > g × q.
pub told-meets : {s : Place} {c : ℕ} {t : Place} {e : ℕ} {growth : Growth} → GrowthTold s c t e (Ok growth) → (p q : ℕ)
    → (Meet p q s c t e → Exceeds p q growth) × (Exceeds p q growth → Meet p q s c t e)
told-meets (told own beside grows) = meet-beyond grows

-- A refusal is 3, and is given only where a place is outside the range or a corner is not 1 to 4.
pub told-refused : {s : Place} {c : ℕ} {t : Place} {e : ℕ} {why : Refusal} → GrowthTold s c t e (Err why)
    → (number_of why ≡ 3) × (HasLabel s c → HasLabel t e → ⊥)
told-refused (told_3 refused) = (refl, refused)

-- "One place given twice gives 0", at whatever corners.
pub twice-0 : {s : Place} {c e : ℕ} {r : AskedGrowth} → HasLabel s c → HasLabel s e → GrowthTold s c s e r → r ≡ Ok (up_to 0)
twice-0 {s} {c} {e} own beside tells = told-one tells (told own beside (rw (sym (same_place s c e)) (grows-to s c s e)))

-- Whichever label is named first.
pub asked-symmetric : (s : Place) (c : ℕ) (t : Place) (e : ℕ) → growth_asked s c t e ≡ growth_asked t e s c
asked-symmetric s c t e = told-one (asked-tells s c t e) (turned (asked-tells t e s c))
  where
    turned : {r : AskedGrowth} → GrowthTold t e s c r → GrowthTold s c t e r
    turned (told own beside grows) = told beside own (grows-turned grows)
    turned (told_3 refused) = told_3 (λ has has_other. refused has_other has)

-- An answer carries its number, or never, and a refusal nothing.
pub growth-values : ((g : ℕ) → growth_carried (Ok (up_to g)) ≡ some (some g))
    × ((growth_carried (Ok Never) ≡ some none) × ((why : Refusal) → growth_carried (Err why) ≡ none))
growth-values = (λ g. refl, (refl, λ why. refl))
