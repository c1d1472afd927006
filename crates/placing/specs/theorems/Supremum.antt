-- Document 01: "The greatest side at which such labels are pairwise disjoint is the supremum that document 001 asks of closed
-- squares." Sides are fractions p/q, p and q from 1. For distinct places, such a fraction is the greatest side at which labels can be
-- placed pairwise disjoint exactly when it is the supremum of the sides at which closed squares can (`greatest-supremum`). That there
-- is such a fraction is not said here.
-- Assumes nothing.
use Rattle.std.specs.Prelude.{List, ◌≢◌, ◌↔◌, ◌⊎◌, ℕ, ◌+◌, ◌-◌, ◌*◌, ◌≤◌, ◌<◌, length}
use Rattle.std.proofs.Common.{inl, inr, mul-le-mul_right, mul-lt-mul_of_pos_right, lt_of_mul-lt-mul_right, arith}
use Rattle.std.proofs.Math.Decide.{dec_le, dec_lt}
use Rattle.placing.specs.declared.units.Place.{Place}
use Rattle.placing.specs.declared.corner.Direction.{Direction}
use Rattle.placing.specs.rules.Units.{Axis, along, dist, site_at, Distinct}
use Rattle.placing.specs.rules.Corner.{toward}
use Rattle.placing.specs.rules.Label.{Onward, Fraction, Point, moved, Covers, Meet, AtSite, Inside, AtFarEdge}
use Rattle.placing.specs.rules.Choice.{corner_at, Corners}
use Rattle.placing.specs.theorems.Label.{overlap-at}
use Rattle.placing.specs.theorems.CommonPoint.{Within, within-overlap, covers-within, meet_common, common-meet}

-- From the site's coordinate a in direction d, t lies at 0 or further, and no further than p/q half units.
pub record UpTo (p q : ℕ) (d : Direction) (a : ℕ) (t : Fraction) : Type 0 where
  pub onward : Onward d (moved a t) t.plus
  pub near : dist (moved a t) t.plus * q ≤ p * t.parts

-- The point lies in the closed square of side p/q at corner c of site s.
abbrev pub InSquare : (p q : ℕ) → Place → ℕ → Point → Type 0
InSquare p q s c t = (axis : Axis) → UpTo p q (toward axis c) (along axis s) (t axis)

-- Regions, one at the chosen corner of each site, are pairwise disjoint.
pub record Disjoint (Region : Place → ℕ → Point → Type 0) (ps : List Place) (cs : List ℕ) : Type 0 where
  pub disjoint : (i j : ℕ) → i < length ps → j < length ps → i ≢ j → (point : Point)
      → Region (site_at ps i) (corner_at cs i) point → Region (site_at ps j) (corner_at cs j) point → ⊥

-- Some choice of corners makes them so.
pub record Placeable (Region : Place → ℕ → Point → Type 0) (ps : List Place) : Type 0 where
  pub choice : List ℕ
  pub corners : Corners (length ps) choice
  pub disjoint : Disjoint Region ps choice

-- Regions can be placed where others can, if every choice that makes those disjoint makes these so.
placeable-as : {R S : Place → ℕ → Point → Type 0} {ps : List Place} → ((cs : List ℕ) → Disjoint R ps cs → Disjoint S ps cs)
    → Placeable R ps → Placeable S ps
placeable-as carry fit = record { choice = fit.choice; corners = fit.corners; disjoint = carry fit.choice fit.disjoint }

-- The sides at which labels, and at which closed squares, can be placed pairwise disjoint.
abbrev pub LabelsFit : List Place → (p q : ℕ) → Type 0
LabelsFit ps p q = Placeable (Covers p q) ps

abbrev pub SquaresFit : List Place → (p q : ℕ) → Type 0
SquaresFit ps p q = Placeable (InSquare p q) ps

-- No side with the property is greater than p/q.
pub record UpperBound (Has : (p q : ℕ) → Type 0) (p q : ℕ) : Type 0 where
  pub none_greater : (p' q' : ℕ) → 1 ≤ p' → 1 ≤ q' → Has p' q' → p' * q ≤ p * q'

-- Some side with the property is greater than p/q.
pub record Exceeded (Has : (p q : ℕ) → Type 0) (p q : ℕ) : Type 0 where
  pub over : ℕ
  pub under : ℕ
  pub some_over : 1 ≤ over
  pub some_under : 1 ≤ under
  pub has : Has over under
  pub greater : p * under < over * q

-- p/q is the greatest side with the property.
pub record Greatest (Has : (p q : ℕ) → Type 0) (p q : ℕ) : Type 0 where
  pub has : Has p q
  pub bound : UpperBound Has p q

-- p/q is the supremum of the sides with the property: an upper bound, and every smaller fraction is below a side with the property.
pub record Supremum (Has : (p q : ℕ) → Type 0) (p q : ℕ) : Type 0 where
  pub bound : UpperBound Has p q
  pub least : (p' q' : ℕ) → 1 ≤ q' → p' * q < p * q' → Exceeded Has p' q'

-- A closed square contains what the label of its side covers.
pub covers-in-square : {p q : ℕ} {s : Place} {c : ℕ} {point : Point} → 1 ≤ p → Covers p q s c point → InSquare p q s c point
covers-in-square some covers axis =
    let within = covers-within some covers axis in
    record { onward = within.onward; near = omega (arith, within.near) }

-- The side p'/q' is below p/q.
module _ (p q p' q' : ℕ) (some-p : 1 ≤ p) (some-q : 1 ≤ q) (some_parts : 1 ≤ q') (smaller : p' * q < p * q') where
  -- What lies in the smaller closed square along an axis lies within the larger label there.
  up-to-within : {d : Direction} {a : ℕ} {t : Fraction} → UpTo p' q' d a t → Within p q d a t
  up-to-within {d} {a} {t} within = record { onward = within.onward; near = less-far (dist (moved a t) t.plus) within.near }
    where
      less-far : (x : ℕ) → x * q' ≤ p' * t.parts → x * q < p * t.parts
      less-far x no-further =
          let near : x * q' * q ≤ p' * t.parts * q = mul-le-mul_right q no-further in
          let below : p' * q * t.parts < p * q' * t.parts = mul-lt-mul_of_pos_right smaller t.some_parts in
          lt_of_mul-lt-mul_right q' (omega arith)

  -- Where closed squares have a point in common, labels of a larger side meet.
  pub squares-meet : {s t : Place} {c e : ℕ} {point : Point} → InSquare p' q' s c point → InSquare p' q' t e point → Meet p q s c t e
  squares-meet one other axis = within-overlap some-p (up-to-within (one axis)) (up-to-within (other axis))

  -- So where labels can be placed, closed squares of every smaller side can.
  labels-fit-squares : {ps : List Place} → Distinct ps → LabelsFit ps p q → SquaresFit ps p' q'
  labels-fit-squares {ps} places =
      placeable-as (λ cs labels.
      record {
        disjoint = λ i j i-listed j-listed differ point one other.
            let common = meet_common p q some-p some-q (places.distinct i j i-listed j-listed differ) (squares-meet one other) in
            labels.disjoint i j i-listed j-listed differ common.0 common.1 common.2;
      })

-- Labels can be placed where closed squares of their side can.
squares-fit-labels : {ps : List Place} {p q : ℕ} → 1 ≤ p → SquaresFit ps p q → LabelsFit ps p q
squares-fit-labels some =
    placeable-as (λ cs squares.
    record {
      disjoint = λ i j i-listed j-listed differ point one other.
          squares.disjoint i j i-listed j-listed differ point (covers-in-square some one) (covers-in-square some other);
    })

module _ (p q : ℕ) (some-p : 1 ≤ p) (some-q : 1 ≤ q) where
  -- Labels that meet do so at a side that is smaller by half a part: their lengths are of whole parts.
  pub meet-less : {s t : Place} {c e : ℕ} → Meet p q s c t e → Meet (2 * p - 1) (2 * q) s c t e
  meet-less meet axis = overlap-at (λ x bound below. omega arith) (meet axis)

  -- So labels can be placed where closed squares of that side can.
  squares-less-fit-labels : {ps : List Place} → Distinct ps → SquaresFit ps (2 * p - 1) (2 * q) → LabelsFit ps p q
  squares-less-fit-labels places =
      placeable-as (λ cs squares.
      record {
        disjoint = λ i j i-listed j-listed differ point one other.
            let meet = meet-less (common-meet some-p one other) in
            let common = meet_common (2 * p - 1) (2 * q) (omega arith) (omega arith) (places.distinct i j i-listed j-listed differ) meet in
            squares.disjoint i j i-listed j-listed differ common.0
            (covers-in-square (omega arith) common.1) (covers-in-square (omega arith) common.2);
      })

  -- A side has a choice of disjoint labels exactly when every smaller side has a choice of disjoint closed squares.
  pub labels-up-to-supremum : {ps : List Place} → Distinct ps
      → LabelsFit ps p q ↔ ((p' q' : ℕ) → 1 ≤ q' → p' * q < p * q' → SquaresFit ps p' q')
  labels-up-to-supremum {ps} places =
      (to, λ squares. squares-less-fit-labels places (squares (2 * p - 1) (2 * q) (omega arith) less-by-half))
    where
      to : LabelsFit ps p q → (p' q' : ℕ) → 1 ≤ q' → p' * q < p * q' → SquaresFit ps p' q'
      to labels p' q' some_parts smaller = labels-fit-squares p q p' q' some-p some-q some_parts smaller places labels

      less-by-half : (2 * p - 1) * q < p * (2 * q)
      less-by-half = let less : (2 * p - 1) * q < 2 * p * q = mul-lt-mul_of_pos_right (omega arith) some-q in omega arith

-- Between two fractions lies (p + p')/(q + q'): the greatest side of labels is the supremum of the sides of closed squares ..
greatest-to-supremum : {ps : List Place} (p q : ℕ) → Distinct ps → 1 ≤ p → 1 ≤ q → Greatest (LabelsFit ps) p q
    → Supremum (SquaresFit ps) p q
greatest-to-supremum {ps} p q places some-p some-q greatest = record { bound = bound; least = least }
  where
    bound : UpperBound (SquaresFit ps) p q
    bound =
        record {
          none_greater = λ p' q' some-p' some-q' squares.
              greatest.bound.none_greater p' q' some-p' some-q' (squares-fit-labels some-p' squares);
        }

    least : (p' q' : ℕ) → 1 ≤ q' → p' * q < p * q' → Exceeded (SquaresFit ps) p' q'
    least p' q' some-q' smaller =
        record {
          over = p + p';
          under = q + q';
          some_over = omega arith;
          some_under = omega arith;
          has = labels-fit-squares p q (p + p') (q + q') some-p some-q (omega arith) (omega arith) places greatest.has;
          greater = omega arith;
        }

-- .. and the other way round.
supremum-to-greatest : {ps : List Place} (p q : ℕ) → Distinct ps → 1 ≤ p → 1 ≤ q → Supremum (SquaresFit ps) p q
    → Greatest (LabelsFit ps) p q
supremum-to-greatest {ps} p q places some-p some-q supremum = record { has = has; bound = record { none_greater = none_greater } }
  where
    has : LabelsFit ps p q
    has =
        (labels-up-to-supremum p q some-p some-q places).1
        (λ p' q' some-q' smaller. below p' q' some-q' (supremum.least p' q' some-q' smaller))
      where
        below : (p' q' : ℕ) → 1 ≤ q' → Exceeded (SquaresFit ps) p' q' → SquaresFit ps p' q'
        below p' q' some-q' side =
            labels-fit-squares side.over side.under p' q' side.some_over side.some_under some-q' side.greater places
            (squares-fit-labels side.some_over side.has)

    none_greater : (p' q' : ℕ) → 1 ≤ p' → 1 ≤ q' → LabelsFit ps p' q' → p' * q ≤ p * q'
    none_greater p' q' some-p' some-q' labels = go (dec_le (p' * q) (p * q'))
      where
        go : Dec (p' * q ≤ p * q') → p' * q ≤ p * q'
        go (yes within) = within
        go (no beyond) =
            let between : SquaresFit ps (p + p') (q + q') =
            labels-fit-squares p' q' (p + p') (q + q') some-p' some-q' (omega arith) (omega arith) places labels in
            let within = supremum.bound.none_greater (p + p') (q + q') (omega arith) (omega arith) between in
            omega arith

-- p/q is the greatest side at which labels can be placed pairwise disjoint exactly when it is the supremum of the sides at which closed
-- squares can.
pub greatest-supremum : {ps : List Place} (p q : ℕ) → Distinct ps → 1 ≤ p → 1 ≤ q
    → Greatest (LabelsFit ps) p q ↔ Supremum (SquaresFit ps) p q
greatest-supremum p q places some-p some-q =
    (greatest-to-supremum p q places some-p some-q, supremum-to-greatest p q places some-p some-q)

-- Along an axis a closed square has the site, what lies inside, and the far edge.
pub up-to-parts : {p q : ℕ} {d : Direction} {a : ℕ} {t : Fraction} → UpTo p q d a t → AtSite a t ⊎ (Inside p q d a t ⊎ AtFarEdge p q d a t)
up-to-parts {p} {q} {d} {a} {t} within =
    by_place (dec_lt 0 (dist (moved a t) t.plus)) (dec_lt (dist (moved a t) t.plus * q) (p * t.parts))
  where
    by_place : Dec (0 < dist (moved a t) t.plus) → Dec (dist (moved a t) t.plus * q < p * t.parts)
        → AtSite a t ⊎ (Inside p q d a t ⊎ AtFarEdge p q d a t)
    by_place (no none) near = inl (record { at = omega arith })
    by_place (yes past) (yes near) = inr (inl (record { onward = within.onward; past = omega arith; near = near }))
    by_place (yes past) (no far) = inr (inr (record { onward = within.onward; far = omega (arith, within.near, far) }))
