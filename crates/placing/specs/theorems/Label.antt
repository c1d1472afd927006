-- Laws of rules/Label: what a label covers, when labels overlap along an axis, and when they meet.
-- Assumes nothing.
use Rattle.std.specs.Prelude.{◌≡◌, ◌⊎◌, ℕ, ◌+◌, ◌*◌, ◌≤◌, ◌<◌}
use Rattle.std.proofs.Common.{sym, ap, subst, inl, inr, mul-lt-mul_of_pos_right, lt_of_mul-lt-mul_right, arith}
use Rattle.std.proofs.Math.Decide.{dec_le}
use Rattle.placing.specs.declared.units.Place.{Place}
use Rattle.placing.specs.declared.corner.Direction.{Direction}
use Rattle.placing.specs.declared.corner.Direction.TheVariants.{Up, Down}
use Rattle.placing.specs.rules.Units.{Axis, X, Y, along, in_half_units, dist}
use Rattle.placing.specs.rules.Corner.{toward, opposite}
use Rattle.placing.specs.rules.Label.{Onward, upward, downward, Point, moved, AtSite, Inside, AtFarEdge, Covers, square}
use Rattle.placing.specs.rules.Label.{edge, Overlap, same_direction, facing, Meet}
use Rattle.placing.specs.deciding.Tests.{place-equal, same-or-opposite}
use Rattle.placing.specs.theorems.Corner.{opposite-back}

-- ---- the order along an axis

-- The distance of two places is the same from either.
pub dist-symmetric : (a b : ℕ) → dist a b ≡ dist b a
dist-symmetric a b = omega arith

-- Two numbers are in order as two others are, if they are so in both directions.
pub onward-as : {d : Direction} {a b a' b' : ℕ} → (a ≤ b → a' ≤ b') → (b ≤ a → b' ≤ a') → Onward d a b → Onward d a' b'
onward-as up down (upward ordered) = upward (up ordered)
onward-as up down (downward ordered) = downward (down ordered)

-- A place lies onward of itself in both directions,
pub onward-same : {d : Direction} {a b : ℕ} → a ≡ b → Onward d a b
onward-same {d = Up} {a} {b} same = upward {a = a} {b = b} (omega arith)
onward-same {d = Down} {a} {b} same = downward {a = a} {b = b} (omega arith)

-- what lies onward in a direction is left behind in the opposite one,
pub onward-turned : {d : Direction} {a b : ℕ} → Onward d a b → Onward (opposite d) b a
onward-turned (upward ordered) = downward ordered
onward-turned (downward ordered) = upward ordered

-- and of two places one lies onward of the other.
pub onward-either : (d : Direction) (a b : ℕ) → Onward d a b ⊎ Onward d b a
onward-either d a b = go d (dec_le a b)
  where
    go : (d : Direction) → Dec (a ≤ b) → Onward d a b ⊎ Onward d b a
    go Up (yes ordered) = inl (upward ordered)
    go Up (no beyond) = inr (upward {a = b} {b = a} (omega arith))
    go Down (yes ordered) = inr (downward ordered)
    go Down (no beyond) = inl (downward {a = a} {b = b} (omega arith))

-- Offsets in one direction add up.
pub onward-through : {d : Direction} {a b c : ℕ} → Onward d a b → Onward d b c → Onward d a c × (dist a c ≡ dist a b + dist b c)
onward-through {a} {c} (upward first) (upward then) = (upward {a = a} {b = c} (omega arith), omega arith)
onward-through {a} {c} (downward first) (downward then) = (downward {a = a} {b = c} (omega arith), omega arith)

-- ---- what a label covers

-- Along each axis, a point that a label covers is inside the label or at the site.
pub covers-along : {p q : ℕ} {s : Place} {c : ℕ} {t : Point} → Covers p q s c t
    → (axis : Axis) → Inside p q (toward axis c) (along axis s) (t axis) ⊎ AtSite (along axis s) (t axis)
covers-along (square inside) axis = inl (inside axis)
covers-along (edge X inside at-site) X = inl inside
covers-along (edge X inside at-site) Y = inr at-site
covers-along (edge Y inside at-site) X = inr at-site
covers-along (edge Y inside at-site) Y = inl inside

-- Along some axis it is inside.
pub covers-inside : {p q : ℕ} {s : Place} {c : ℕ} {t : Point} → Covers p q s c t
    → (axis : Axis) × Inside p q (toward axis c) (along axis s) (t axis)
covers-inside (square inside) = (X, inside X)
covers-inside (edge axis inside at-site) = (axis, inside)

module _ {p q : ℕ} {s : Place} {c : ℕ} {t : Point} where
  -- "Not the site": a label covers no point with both of its site's coordinates.
  pub site-not-covered : ((axis : Axis) → AtSite (along axis s) (t axis)) → Covers p q s c t → ⊥
  site-not-covered at-site covers = let some = covers-inside covers in omega (arith, some.1.past, (at-site some.0).at)

  -- "Not the far edges": a label covers no point at its far edge along either axis.
  pub far-edges-not-covered : 1 ≤ p → (axis : Axis) → AtFarEdge p q (toward axis c) (along axis s) (t axis) → Covers p q s c t → ⊥
  far-edges-not-covered some-p axis far covers = go (covers-along covers axis)
    where
      go : Inside p q (toward axis c) (along axis s) (t axis) ⊎ AtSite (along axis s) (t axis) → ⊥
      go (inl inside) = omega (arith, inside.near, far.far)
      go (inr at-site) =
          let none : dist (moved (along axis s) (t axis)) (t axis).plus ≡ 0 = omega (arith, at-site.at) in
          let scaled = ap (λ x. x * q) none in
          let long : 0 * (t axis).parts < p * (t axis).parts = mul-lt-mul_of_pos_right some-p (t axis).some_parts in
          omega (arith, far.far, scaled, long)

-- ---- overlap and meeting

-- Whichever label is named first, the two overlap.
pub overlap-symmetric : {p q : ℕ} {d e : Direction} {a b : ℕ} → Overlap p q d a e b → Overlap p q e b d a
overlap-symmetric {p} {q} {a} {b} (same_direction same near) = same_direction (sym same) (subst (λ x. in_half_units x * q < p) (dist-symmetric a b) near)
overlap-symmetric {p} {q} {a} {b} (facing against onward near) =
    facing (opposite-back against) (subst (λ e. Onward e b a) against (onward-turned onward))
    (subst (λ x. x * q < p) (dist-symmetric a b) near)

-- Whichever label is named first, the two meet.
pub meet-symmetric : {p q : ℕ} {s t : Place} {c e : ℕ} → Meet p q s c t e → Meet p q t e s c
meet-symmetric meet axis = overlap-symmetric (meet axis)

-- Labels that overlap are less than their side apart.
pub overlap-near : {p q : ℕ} {d e : Direction} {a b : ℕ} → Overlap p q d a e b → dist a b * q < p
overlap-near (same_direction same near) = omega (arith, near)
overlap-near (facing against onward near) = near

-- What a label has ahead within its own length is overlapped there, whichever way the other label goes.
pub reached-overlap : {p q : ℕ} {d e : Direction} {a b : ℕ} → Onward d a b → in_half_units (dist a b) * q < p → Overlap p q d a e b
reached-overlap {p} {q} {d} {e} {a} {b} onward near = go (same-or-opposite d e)
  where
    go : (d ≡ e) ⊎ (opposite d ≡ e) → Overlap p q d a e b
    go (inl same) = same_direction same near
    go (inr against) = facing against onward (omega (arith, near))

-- Labels of side 1 at different places do not meet.
pub meet_one : {s t : Place} {c e : ℕ} → Meet 1 1 s c t e → s ≡ t
meet_one meet = place-equal (λ axis. omega (arith, overlap-near (meet axis)))

-- Labels that overlap at one side overlap at another, if the lengths up to twice their distance that are below the one are below the other.
pub overlap-at : {p q p' q' : ℕ} {d e : Direction} {a b : ℕ} → ((x : ℕ) → x ≤ in_half_units (dist a b) → x * q < p → x * q' < p')
    → Overlap p q d a e b → Overlap p' q' d a e b
overlap-at below (same_direction same near) = same_direction same (below _ (omega arith) near)
overlap-at below (facing against onward near) = facing against onward (below _ (omega arith) near)

module _ {p q p' q' : ℕ} (some_parts : 1 ≤ q') (larger : p * q' ≤ p' * q) where
  -- Labels that overlap do so at every larger side: of x × q × q' < p' × q both sides are taken less the factor q.
  pub overlap-larger : {d e : Direction} {a b : ℕ} → Overlap p q d a e b → Overlap p' q' d a e b
  overlap-larger = overlap-at (λ x bound below.
      let scaled : x * q * q' < p * q' = mul-lt-mul_of_pos_right below some_parts in
      lt_of_mul-lt-mul_right q (omega arith))

  -- Labels that meet do so at every larger side.
  pub meet-larger : {s t : Place} {c e : ℕ} → Meet p q s c t e → Meet p' q' s c t e
  meet-larger meet axis = overlap-larger (meet axis)

-- The same of whole sides.
pub meet-larger-whole : {h k : ℕ} {s t : Place} {c e : ℕ} → h ≤ k → Meet h 1 s c t e → Meet k 1 s c t e
meet-larger-whole larger = meet-larger (omega arith) (omega arith)
