-- Document 01, "What a label covers" against "Meeting": two labels of sites at different places meet exactly when some point
-- is covered by both. So the rule says what the picture says. And a label that covers another site meets that site's.
-- Assumes nothing.
use Rattle.std.specs.Prelude.{◌≡◌, ◌≢◌, ◌↔◌, ◌⊎◌, ℕ, ◌+◌, ◌*◌, ◌≤◌, ◌<◌, max}
use Rattle.std.proofs.Common.{sym, ap, subst, inl, inr, ⊎_elim, mul-le-mul_right, mul-lt-mul_of_pos_right, lt_of_mul-lt-mul_right, le_of_mul-le-mul_right, arith}
use Rattle.std.proofs.Math.Nat.{mul-sub}
use Rattle.std.proofs.Math.Decide.{ℕ_discrete}
use Rattle.placing.specs.declared.units.Place.{Place}
use Rattle.placing.specs.declared.corner.Direction.{Direction}
use Rattle.placing.specs.declared.corner.Direction.TheVariants.{Up, Down}
use Rattle.placing.specs.rules.Units.{Axis, X, Y, along, in_half_units, dist}
use Rattle.placing.specs.rules.Corner.{toward, opposite}
use Rattle.placing.specs.rules.Label.{Onward, upward, downward, Fraction, Point, moved, AtSite, Inside, Covers, square, edge, point_of}
use Rattle.placing.specs.rules.Label.{Overlap, same_direction, facing, Meet}
use Rattle.placing.specs.deciding.Tests.{both, place-equal, same-or-opposite}
use Rattle.placing.specs.theorems.Corner.{opposite-back}
use Rattle.placing.specs.theorems.Label.{onward-as, onward-same, onward-turned, onward-either, onward-through, covers-along, covers-inside, reached-overlap}

-- Distances grow with the scale.
dist-times : (a b k : ℕ) → dist (a * k) (b * k) ≡ dist a b * k
dist-times a b k = omega (arith, mul-sub k a b, mul-sub k b a)

-- ---- labels that meet cover a point in common

-- What two labels have in common along one axis: a fraction inside both, or the coordinate at which both sites stand.
data Shared (p q : ℕ) (d : Direction) (a : ℕ) (e : Direction) (b : ℕ) : Type 0 where
  inside : (t : Fraction) → Inside p q d a t → Inside p q e b t → Shared p q d a e b
  at_sites : a ≡ b → Shared p q d a e b

module _ (p q : ℕ) (some-p : 1 ≤ p) (some-q : 1 ≤ q) where
  -- Where the label of direction d at a begins, on a scale of q parts that starts p parts below zero: it is p parts long.
  abbrev raised : Direction → ℕ
  raised Up = p
  raised Down = 0

  abbrev begin : Direction → ℕ → ℕ
  begin d a = in_half_units a * q + raised d

  -- Half a part past u on that scale.
  abbrev half_past : ℕ → Fraction
  half_past u = record { plus = 2 * u + 1; minus = 2 * p; parts = 2 * q; some_parts = omega arith }

  -- It is inside a label that begins at u or before and does not end there.
  past_inside : (d : Direction) {a u : ℕ} → begin d a ≤ u → u < begin d a + p → Inside p q d a (half_past u)
  past_inside Up {a} {u} begun ends =
      let onward : moved a (half_past u) ≤ 2 * u + 1 = omega arith in
      let scaled : dist (moved a (half_past u)) (2 * u + 1) * q < 2 * p * q = mul-lt-mul_of_pos_right (omega arith) some-q in
      record { onward = upward onward; past = omega arith; near = omega arith }
  past_inside Down {a} {u} begun ends =
      let onward : 2 * u + 1 ≤ moved a (half_past u) = omega arith in
      let scaled : dist (moved a (half_past u)) (2 * u + 1) * q < 2 * p * q = mul-lt-mul_of_pos_right (omega arith) some-q in
      record { onward = downward onward; past = omega arith; near = omega arith }

  -- Labels that begin less than their length apart share a fraction.
  begin_shared : {d e : Direction} {a b : ℕ} → dist (begin d a) (begin e b) < p → Shared p q d a e b
  begin_shared {d} {e} {a} {b} near =
      let u : ℕ = max (begin d a) (begin e b) in
      inside (half_past u) (past_inside d (omega arith) (omega arith)) (past_inside e (omega arith) (omega arith))

  -- Labels that overlap along an axis have something in common there.
  overlap_shared : {d e : Direction} {a b : ℕ} → Overlap p q d a e b → Shared p q d a e b
  overlap_shared {d} {e} {a} {b} (same_direction same near) = begin_shared (omega (arith, near, ap raised same, dist-times a b q))
  overlap_shared {d} {e} {a} {b} (facing against onward near) = go (ℕ_discrete a b)
    where
      some : a ≢ b → 1 * q ≤ dist a b * q
      some differ = mul-le-mul_right q (omega arith)

      begins : {d : Direction} → opposite d ≡ e → a ≢ b → Onward d a b → dist (begin d a) (begin e b) < p
      begins is differ (upward ordered) =
          let other : 0 ≡ raised e = ap raised is in
          let scaled = mul-le-mul_right q ordered in
          omega (arith, near, some differ, dist-times a b q)
      begins is differ (downward ordered) =
          let other : p ≡ raised e = ap raised is in
          let scaled = mul-le-mul_right q ordered in
          omega (arith, near, some differ, dist-times a b q)

      go : Dec (a ≡ b) → Shared p q d a e b
      go (yes same) = at_sites same
      go (no differ) = begin_shared (begins against differ onward)

  -- Labels that meet cover a point in common.
  pub meet_common : {s t : Place} {c e : ℕ} → s ≢ t → Meet p q s c t e → (point : Point) × Covers p q s c point × Covers p q t e point
  meet_common {s} {t} {c} {e} differ meet = go (overlap_shared (meet X)) (overlap_shared (meet Y))
    where
      go : Shared p q (toward X c) (along X s) (toward X e) (along X t) → Shared p q (toward Y c) (along Y s) (toward Y e) (along Y t)
          → (point : Point) × Covers p q s c point × Covers p q t e point
      go (inside x xs xt) (inside y ys yt) = (
        both (λ axis. Fraction) x y,
        square (λ axis. elim axis as (λ k. Inside p q (toward k c) (along k s) (both (λ a. Fraction) x y k)) [ X ↦ xs | Y ↦ ys ]),
        square (λ axis. elim axis as (λ k. Inside p q (toward k e) (along k t) (both (λ a. Fraction) x y k)) [ X ↦ xt | Y ↦ yt ]),
      )
      go (inside x xs xt) (at_sites same) =
          (both (λ axis. Fraction) x (point_of s Y), edge X xs (record { at = omega arith }), edge X xt (record { at = omega arith }))
      go (at_sites same) (inside y ys yt) =
          (both (λ axis. Fraction) (point_of s X) y, edge Y ys (record { at = omega arith }), edge Y yt (record { at = omega arith }))
      go (at_sites same-x) (at_sites same-y) = absurd (differ (place-equal (λ axis. elim axis as (λ k. along k s ≡ along k t) [ X ↦ same-x | Y ↦ same-y ])))

-- ---- labels that cover a point in common meet

-- From the site's coordinate a in the label's direction, t lies at 0 or further, and less far than p/q half units: what a
-- label covers is so along both axes.
pub record Within (p q : ℕ) (d : Direction) (a : ℕ) (t : Fraction) : Type 0 where
  pub onward : Onward d (moved a t) t.plus
  pub near : dist (moved a t) t.plus * q < p * t.parts

-- On the scale of t two coordinates are further apart by its parts,
moved-dist : (a b : ℕ) (t : Fraction) → dist (moved a t) (moved b t) ≡ in_half_units (dist a b) * t.parts
moved-dist a b t = omega (arith, dist-times a b t.parts)

-- and in the same order.
onward-moved : {d : Direction} {a b : ℕ} (t : Fraction) → Onward d (moved a t) (moved b t) → Onward d a b
onward-moved {a} {b} t =
    onward-as (λ l. le_of_mul-le-mul_right {k = t.parts} (omega arith) t.some_parts)
    (λ l. le_of_mul-le-mul_right {k = t.parts} (omega arith) t.some_parts)

-- Two coordinates less than r/q half units apart on the scale of t are so on their own.
unscaled : (q r a b : ℕ) (t : Fraction) → dist (moved a t) (moved b t) * q < r * t.parts → in_half_units (dist a b) * q < r
unscaled q r a b t near =
    let scaled = subst (λ x. x * q < r * t.parts) (moved-dist a b t) near in
    lt_of_mul-lt-mul_right t.parts (omega arith)

-- Two places with a third onward of both are no further apart than the further of them from it.
span_below : (q : ℕ) {d : Direction} {a b c r : ℕ} → Onward d a c → Onward d b c → dist a c * q < r → dist b c * q < r → dist a b * q < r
span_below q {d} {a} {b} {c} {r} a_c b-c a-near b-near = go (onward-either d a b)
  where
    go : Onward d a b ⊎ Onward d b a → dist a b * q < r
    go (inl a-b) =
        let less : dist a b * q ≤ dist a c * q = mul-le-mul_right q (omega (arith, (onward-through a-b b-c).1)) in
        omega arith
    go (inr b-a) =
        let less : dist a b * q ≤ dist b c * q = mul-le-mul_right q (omega (arith, (onward-through b-a a_c).1)) in
        omega arith

module _ {p q : ℕ} (some-p : 1 ≤ p) where
  -- What a label covers lies within it along both axes.
  pub covers-within : {s : Place} {c : ℕ} {point : Point} → Covers p q s c point
      → (axis : Axis) → Within p q (toward axis c) (along axis s) (point axis)
  covers-within {s} {c} {point} covers axis = go (covers-along covers axis)
    where
      go : Inside p q (toward axis c) (along axis s) (point axis) ⊎ AtSite (along axis s) (point axis)
          → Within p q (toward axis c) (along axis s) (point axis)
      go (inl is_inside) = record { onward = is_inside.onward; near = is_inside.near }
      go (inr at-site) =
          let none : dist (moved (along axis s) (point axis)) (point axis).plus ≡ 0 = omega (arith, at-site.at) in
          let some : 0 * (point axis).parts < p * (point axis).parts = mul-lt-mul_of_pos_right some-p (point axis).some_parts in
          record { onward = onward-same (sym at-site.at); near = subst (λ x. x * q < p * (point axis).parts) (sym none) (omega arith) }

  -- Labels within which one fraction lies overlap.
  pub within-overlap : {d e : Direction} {a b : ℕ} {t : Fraction} → Within p q d a t → Within p q e b t → Overlap p q d a e b
  within-overlap {d} {e} {a} {b} {t} of_one of_other = go (same-or-opposite d e)
    where
      go : (d ≡ e) ⊎ (opposite d ≡ e) → Overlap p q d a e b
      go (inl same) =
          let alike = subst (λ d. Onward d (moved b t) t.plus) (sym same) of_other.onward in
          same_direction same (unscaled q p a b t (span_below q of_one.onward alike of_one.near of_other.near))
      go (inr against) =
          let back = subst (λ d. Onward d t.plus (moved b t)) (opposite-back against) (onward-turned of_other.onward) in
          let through = onward-through of_one.onward back in
          let sum = subst (λ x. x * q < 2 * p * t.parts) (sym through.1) (omega (arith, of_one.near, of_other.near)) in
          facing against (onward-moved t through.0) (omega (arith, unscaled q (2 * p) a b t sum))

  -- Labels that cover a point in common meet.
  pub common-meet : {s t : Place} {c e : ℕ} {point : Point} → Covers p q s c point → Covers p q t e point → Meet p q s c t e
  common-meet of_one of_other axis = within-overlap (covers-within of_one axis) (covers-within of_other axis)

-- Labels at different places meet exactly when they cover a point in common.
pub meet-exactly : (p q : ℕ) → 1 ≤ p → 1 ≤ q → {s t : Place} {c e : ℕ} → s ≢ t
    → Meet p q s c t e ↔ ((point : Point) × Covers p q s c point × Covers p q t e point)
meet-exactly p q some-p some-q differ =
    (meet_common p q some-p some-q differ, λ common. common-meet some-p common.1 common.2)

-- ---- a label that covers another site

-- A label that covers the point at which another site stands meets the label there, whichever corner that has. So labels that do not meet
-- cover no other site.
pub covered-meets : {p q : ℕ} {s : Place} {c : ℕ} (t : Place) → Covers p q s c (point_of t) → (e : ℕ) → Meet p q s c t e
covered-meets {p} {q} {s} {c} t covers e axis = ⊎_elim inside-overlap at-overlap (covers-along covers axis)
  where
    inside-overlap : Inside p q (toward axis c) (along axis s) (point_of t axis)
        → Overlap p q (toward axis c) (along axis s) (toward axis e) (along axis t)
    inside-overlap within =
        let twice : dist (moved (along axis s) (point_of t axis)) (in_half_units (along axis t)) ≡ 2 * dist (along axis s) (along axis t) =
        omega arith in
        reached-overlap (onward-as (λ l. omega arith) (λ l. omega arith) within.onward) (omega (arith, rw twice at within.near))

    at-overlap : AtSite (along axis s) (point_of t axis) → Overlap p q (toward axis c) (along axis s) (toward axis e) (along axis t)
    at-overlap at-site =
        let same : along axis s ≡ along axis t = omega (arith, at-site.at) in
        let none : dist (along axis s) (along axis t) ≡ 0 = omega arith in
        let some = (covers-inside covers).1.near in
        reached-overlap (onward-same same) (rw none (omega (arith, some)))
