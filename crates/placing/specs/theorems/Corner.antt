-- Laws of axes, directions and corners: what holds at each corner, and a corner as its two directions.
-- Assumes nothing.
use Rattle.std.specs.Prelude.{◌≡◌, refl, ℕ, zero, suc, ◌≤◌}
use Rattle.std.proofs.Common.{sym, ap, ◌∙◌, arith}
use Rattle.placing.specs.declared.units.Place.{Place}
use Rattle.placing.specs.declared.corner.Direction.{Direction}
use Rattle.placing.specs.declared.corner.Direction.TheVariants.{Up, Down}
use Rattle.placing.specs.rules.Units.{Axis, X, Y, along, OnPlan, greatest_coordinate}
use Rattle.placing.specs.rules.Corner.{Corner, toward, opposite}
use Rattle.placing.specs.rules.Label.{across}
use Rattle.placing.specs.deciding.Tests.{both}

-- What holds along an axis and along the one across it holds along each.
pub along-both : (P : Axis → Type 0) (axis : Axis) → P axis → P (across axis) → (other : Axis) → P other
along-both P X own over = both P own over
along-both P Y own over = both P over own

-- A place on the plan is in range along each axis.
pub on-axis : {s : Place} → OnPlan s → (axis : Axis) → along axis s ≤ greatest_coordinate
on-axis on X = on.on_x
on-axis on Y = on.on_y

-- The opposite of the opposite is the direction itself,
opposite-twice : (d : Direction) → opposite (opposite d) ≡ d
opposite-twice Up = refl
opposite-twice Down = refl

-- so that being opposite goes both ways.
pub opposite-back : {d e : Direction} → opposite d ≡ e → opposite e ≡ d
opposite-back {d} against = ap opposite (sym against) ∙ opposite-twice d

-- What holds at the four corners holds at every corner.
pub each-corner : (P : ℕ → Type 0) → P 1 → P 2 → P 3 → P 4 → {c : ℕ} → Corner c → P c
each-corner P one two three four {c} corner = go c corner.least corner.most
  where
    go : (c : ℕ) → 1 ≤ c → c ≤ 4 → P c
    go zero least most = absurd (omega arith)
    go (suc zero) least most = one
    go (suc (suc zero)) least most = two
    go (suc (suc (suc zero))) least most = three
    go (suc (suc (suc (suc zero)))) least most = four
    go (suc (suc (suc (suc (suc c))))) least most = absurd (omega arith)

-- The corner with these directions.
abbrev corner_of : Direction → Direction → ℕ
corner_of Up Up = 1
corner_of Down Up = 2
corner_of Down Down = 3
corner_of Up Down = 4

abbrev pub corner_toward : (Axis → Direction) → ℕ
corner_toward d = corner_of (d X) (d Y)

-- What there is to say of it, case by case.
corner-of : (x y : Direction) → Corner (corner_of x y) × (toward X (corner_of x y) ≡ x) × (toward Y (corner_of x y) ≡ y)
corner-of Up Up = (record { least = omega arith; most = omega arith }, refl, refl)
corner-of Down Up = (record { least = omega arith; most = omega arith }, refl, refl)
corner-of Down Down = (record { least = omega arith; most = omega arith }, refl, refl)
corner-of Up Down = (record { least = omega arith; most = omega arith }, refl, refl)

-- It is a corner,
pub corner-toward : (d : Axis → Direction) → Corner (corner_toward d)
corner-toward d = (corner-of (d X) (d Y)).0

-- and has them;
pub toward-corner : (d : Axis → Direction) (axis : Axis) → toward axis (corner_toward d) ≡ d axis
toward-corner d = both (λ axis. toward axis (corner_toward d) ≡ d axis) (corner-of (d X) (d Y)).1 (corner-of (d X) (d Y)).2

-- corners with the same directions are the same corner.
pub corner-equal : {c e : ℕ} → Corner c → Corner e → ((axis : Axis) → toward axis c ≡ toward axis e) → c ≡ e
corner-equal {c} {e} c-corner e-corner same = sym (own c-corner) ∙ (λ i. corner_of (same X i) (same Y i)) ∙ own e-corner
  where
    own : {c : ℕ} → Corner c → corner_of (toward X c) (toward Y c) ≡ c
    own = each-corner (λ c. corner_of (toward X c) (toward Y c) ≡ c) refl refl refl refl
