-- What the call that tells how far two labels grow gives and leaves is what its contract tells.
-- Assumes nothing.
use Rattle.std.specs.Prelude.{◌≡◌, refl, ℕ}
use Rattle.std.proofs.Common.{sym, ap, ◌∙◌, subst, arith, ne_eqb}
use Rattle.placing.specs.declared.units.Growth.{Growth}
use Rattle.placing.specs.declared.units.Growth.TheVariants.{UpTo, Never}
use Rattle.placing.specs.declared.units.Place.{Place}
use Rattle.placing.specs.rules.Label.{Meet}
use Rattle.placing.specs.rules.Growth.{Grows, Exceeds}
use Rattle.placing.specs.theorems.Growth.{growth-range, meet-beyond}
use Rattle.growth.specs.Asked.{AskedGrowth, growth_asked_number, growth_asked, HasLabel, GrowthTold, told, told_3}
use Rattle.growth.specs.AskedLaws.{asked-tells}
use Rattle.sheet_call.specs.Growing.{never_number, number_for, growth_left, growth_from, GrowthCalled, gives_0, gives_3}

-- No growth is as large as the number that stands for never, so that each is read back.
number-back : {s : Place} {c : ℕ} {t : Place} {e : ℕ} (growth : Growth) → HasLabel s c → HasLabel t e → Grows s c t e growth
    → growth_from (number_for growth) ≡ growth
number-back (UpTo g) own other grows =
    let small = growth-range own.on_plan other.on_plan grows in
    rw (ne_eqb g.0 never_number (λ is. omega arith), growth_from)
number-back Never own other grows = refl

-- So what comes of an answer is told,
called-tells : {s : Place} {c : ℕ} {t : Place} {e : ℕ} {asked : AskedGrowth} (before : ℕ) → GrowthTold s c t e asked
    → GrowthCalled s c t e before (growth_asked_number asked) (growth_left asked before)
called-tells {s} {c} {t} {e} before (told {growth} own other grows) =
    gives_0 own other (subst (Grows s c t e) (sym (number-back growth own other grows)) grows)
called-tells before (told_3 refused) = gives_3 refused

-- and meets the contract.
pub called-meets : (s : Place) (c : ℕ) (t : Place) (e : ℕ) (before : ℕ) {asked : AskedGrowth} {number after : ℕ} → asked ≡ growth_asked s c t e
    → number ≡ growth_asked_number asked → after ≡ growth_left asked before
    → (number ≡ growth_asked_number (growth_asked s c t e))
    × ((after ≡ growth_left (growth_asked s c t e) before) × GrowthCalled s c t e before number after)
called-meets s c t e before asked-is number_is after_is =
    let number-so = number_is ∙ ap growth_asked_number asked-is in
    let after-so = after_is ∙ ap (λ (a : AskedGrowth). growth_left a before) asked-is in
    (number-so, (after-so, rw (number-so, after-so) (called-tells before (asked-tells s c t e))))

-- What the contract says, read back: 0 for two labels that can be asked about, with the growth that the lent number stands for, by which
-- they meet at the sides p/q that exceed it and at no other ..
pub called-0 : {s : Place} {c : ℕ} {t : Place} {e before number after : ℕ} → GrowthCalled s c t e before number after → number ≡ 0
    → (HasLabel s c × HasLabel t e)
    × ((p q : ℕ) → (Meet p q s c t e → Exceeds p q (growth_from after)) × (Exceeds p q (growth_from after) → Meet p q s c t e))
called-0 (gives_0 own other grows) is = ((own, other), meet-beyond grows)
called-0 (gives_3 refused) is = absurd (omega (arith, is))

-- .. or 3, with the lent number as it came, only where there is no such label.
pub called-3 : {s : Place} {c : ℕ} {t : Place} {e before number after : ℕ} → GrowthCalled s c t e before number after → (number ≡ 0 → ⊥)
    → (number ≡ 3) × ((after ≡ before) × (HasLabel s c → HasLabel t e → ⊥))
called-3 (gives_0 own other grows) some = absurd (some refl)
called-3 (gives_3 refused) some = (refl, (refl, refused))

-- The greatest number of 32 bits is never, and every other is so many half units.
pub growths-told : (growth_from 4294967295 ≡ Never)
    × ((number : ℕ) → (number ≡ 4294967295 → ⊥) → growth_from number ≡ UpTo (record { 0 = number }))
growths-told = (refl, λ number is_number. rw (ne_eqb number never_number is_number, growth_from))
