-- Laws of rules/Growth: two labels meet at the sides that exceed their growth, whole or fraction, and at no other.
-- Assumes nothing.
use Rattle.std.specs.Prelude.{◌≡◌, refl, ℕ, suc, ◌-◌, ◌≤◌, ◌<◌}
use Rattle.std.proofs.Common.{ap, subst, ◌∙◌, arith, le-leb}
use Rattle.std.proofs.Math.Decide.{dec_le, dec_lt}
use Rattle.std.proofs.lemmas.Bool.{lt-leb}
use Rattle.placing.specs.declared.corner.Direction.{Direction}
use Rattle.placing.specs.declared.corner.Direction.TheVariants.{Up, Down}
use Rattle.placing.specs.declared.units.Growth.{Growth}
use Rattle.placing.specs.declared.units.Growth.TheVariants.{UpTo, Never}
use Rattle.placing.specs.declared.units.HalfUnits.{HalfUnits}
use Rattle.placing.specs.declared.units.Place.{Place}
use Rattle.placing.specs.rules.Units.{X, along, OnPlan, greatest_side, free_side, in_half_units, dist}
use Rattle.placing.specs.rules.Corner.{opposite}
use Rattle.placing.specs.rules.Label.{Onward, upward, downward, Meet}
use Rattle.placing.specs.rules.Growth.{Grows, grows_up_to, never, Exceeds, beyond}
use Rattle.placing.specs.deciding.Growth.{up_to, facing_growth, growth_along, growth_of}
use Rattle.placing.specs.deciding.Decides.{holds-yes}
use Rattle.placing.specs.deciding.Tests.{bound-exceeded, exceeds-decides, meet-decides}
use Rattle.placing.specs.theorems.Corner.{on-axis}
use Rattle.placing.specs.theorems.Label.{onward-same, overlap-near, reached-overlap, overlap-at, meet-symmetric, meet-larger-whole}

-- ---- along one axis, by the directions

-- The same direction: twice the distance,
pub along-same : {d e : Direction} (a b : ℕ) → d ≡ e → growth_along d a e b ≡ up_to (in_half_units (dist a b))
along-same {d} a b same = subst (λ (f : Direction). growth_along d a f b ≡ up_to (in_half_units (dist a b))) same (own d)
  where
    own : (d : Direction) → growth_along d a d b ≡ up_to (in_half_units (dist a b))
    own Up = refl
    own Down = refl

-- opposite directions and one ahead of the other: the distance,
facing-ordered : (up down : ℕ) → up ≤ down → facing_growth up down ≡ up_to (down - up)
facing-ordered up down ordered = rw (le-leb up down ordered, facing_growth)

pub along-facing : {d e : Direction} (a b : ℕ) → opposite d ≡ e → Onward d a b → growth_along d a e b ≡ up_to (dist a b)
along-facing {d} a b against onward = subst (λ (f : Direction). growth_along d a f b ≡ up_to (dist a b)) against (own onward)
  where
    own : {d : Direction} → Onward d a b → growth_along d a (opposite d) b ≡ up_to (dist a b)
    own (upward ordered) = facing-ordered a b ordered ∙ ap up_to (omega arith)
    own (downward ordered) = facing-ordered b a ordered ∙ ap up_to (omega arith)

-- and where they face away never.
facing-away : (up down : ℕ) → (up ≤ down → ⊥) → facing_growth up down ≡ Never
facing-away up down away = go (dec_le up down)
  where
    go : Dec (up ≤ down) → facing_growth up down ≡ Never
    go (yes ordered) = absurd (away ordered)
    go (no over) = let below : down < up = omega arith in rw (lt-leb up down below, facing_growth)

pub along-away : {d e : Direction} (a b : ℕ) → opposite d ≡ e → (Onward d a b → ⊥) → growth_along d a e b ≡ Never
along-away {d} a b against behind = subst (λ (f : Direction). growth_along d a f b ≡ Never) against (own d behind)
  where
    own : (d : Direction) → (Onward d a b → ⊥) → growth_along d a (opposite d) b ≡ Never
    own Up behind = facing-away a b (λ ordered. behind (upward ordered))
    own Down behind = facing-away b a (λ ordered. behind (downward ordered))

-- ---- the function has the rule

-- The labels meet at the sides that exceed what the function gives,
pub meet-exceeds : (p q : ℕ) (s : Place) (c : ℕ) (t : Place) (e : ℕ)
    → (Meet p q s c t e → Exceeds p q (growth_of s c t e)) × (Exceeds p q (growth_of s c t e) → Meet p q s c t e)
meet-exceeds p q s c t e =
    let meets = meet-decides p q s c t e in
    let exceeds = exceeds-decides p q (growth_of s c t e) in
    (λ meet. exceeds.yes_holds (holds-yes meets meet), λ more. meets.yes_holds (holds-yes exceeds more))

-- so that it is how far they grow;
pub grows-to : (s : Place) (c : ℕ) (t : Place) (e : ℕ) → Grows s c t e (growth_of s c t e)
grows-to s c t e = go (growth_of s c t e) (λ p q. meet-exceeds p q s c t e)
  where
    go : (growth : Growth) → ((p q : ℕ) → (Meet p q s c t e → Exceeds p q growth) × (Exceeds p q growth → Meet p q s c t e))
        → Grows s c t e growth
    go (UpTo g) exactly =
        grows_up_to (λ meet. let less = bound-exceeded ((exactly g.0 1).0 meet) in omega arith) (λ h more. (exactly h 1).1 (beyond (omega arith)))
    go Never exactly = never (λ h meet. (exceeds-decides h 1 Never).no_fails refl ((exactly h 1).0 meet))

-- and nothing else is.
pub grows_one : {s : Place} {c : ℕ} {t : Place} {e : ℕ} {growth other : Growth} → Grows s c t e growth → Grows s c t e other → growth ≡ other
grows_one (grows_up_to {g} apart meets) (grows_up_to {g = k} apart' meets') = by (dec_lt g.0 k.0) (dec_lt k.0 g.0)
  where
    by : Dec (g.0 < k.0) → Dec (k.0 < g.0) → UpTo g ≡ UpTo k
    by (yes less) more = absurd (apart' (meets k.0 less))
    by (no least) (yes more) = absurd (apart (meets' g.0 more))
    by (no least) (no most) = let same : g.0 ≡ k.0 = omega arith in λ i. up_to (same i)
grows_one (grows_up_to {g} apart meets) (never none) = absurd (none (suc g.0) (meets (suc g.0) (omega arith)))
grows_one (never none) (grows_up_to {g} apart meets) = absurd (none (suc g.0) (meets (suc g.0) (omega arith)))
grows_one (never none) (never none') = refl

-- ---- what follows

-- The law for fractions too: two labels meet at p/q exactly when the growth is a number g and p > g × q.
pub meet-beyond : {s : Place} {c : ℕ} {t : Place} {e : ℕ} {growth : Growth} → Grows s c t e growth → (p q : ℕ)
    → (Meet p q s c t e → Exceeds p q growth) × (Exceeds p q growth → Meet p q s c t e)
meet-beyond {s} {c} {t} {e} grows p q = rw (grows_one grows (grows-to s c t e)) (meet-exceeds p q s c t e)

-- "One place given twice gives 0", at whatever corners.
pub same_place : (s : Place) (c e : ℕ) → growth_of s c s e ≡ up_to 0
same_place s c e =
    grows_one (grows-to s c s e)
    (grows_up_to (λ meet. let near = overlap-near (meet X) in omega arith)
    (λ h more axis. reached-overlap (onward-same refl) (let none : dist (along axis s) (along axis s) ≡ 0 = omega arith in omega arith)))

-- Whichever label is named first.
pub grows-turned : {s : Place} {c : ℕ} {t : Place} {e : ℕ} {growth : Growth} → Grows s c t e growth → Grows t e s c growth
grows-turned (grows_up_to apart meets) = grows_up_to (λ meet. apart (meet-symmetric meet)) (λ h more. meet-symmetric (meets h more))
grows-turned (never none) = never (λ h meet. none h (meet-symmetric meet))

-- Within the coordinate range labels that meet at some side meet at 20,001,
meet-at-free : {s t : Place} {p q c e : ℕ} → OnPlan s → OnPlan t → Meet p q s c t e → Meet free_side 1 s c t e
meet-at-free s-on t-on meet axis =
    overlap-at (λ x bound below. omega (arith, on-axis s-on axis, on-axis t-on axis)) (meet axis)

-- so that a growth is a number up to 20,000,
pub growth-range : {s t : Place} {c e : ℕ} {g : HalfUnits} → OnPlan s → OnPlan t → Grows s c t e (UpTo g) → g.0 ≤ greatest_side
growth-range {g = g} s-on t-on (grows_up_to apart meets) = go (dec_le g.0 greatest_side)
  where
    go : Dec (g.0 ≤ greatest_side) → g.0 ≤ greatest_side
    go (yes inside) = inside
    go (no beyond-it) =
        let least : free_side ≤ g.0 = omega arith in
        absurd (apart (meet-larger-whole least (meet-at-free s-on t-on (meets (suc g.0) (omega arith)))))

-- or never, as where labels do not meet at 20,001, by which free is judged.
pub free-never : {s t : Place} {c e : ℕ} → OnPlan s → OnPlan t → (Meet free_side 1 s c t e → ⊥) → growth_of s c t e ≡ Never
free-never {s} {t} {c} {e} s-on t-on apart = grows_one (grows-to s c t e) (never (λ h meet. apart (meet-at-free s-on t-on meet)))
