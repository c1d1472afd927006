-- Laws of rules/Crowd: a crowded corner at other sides, and the rule against the picture.
-- Assumes nothing.
use Rattle.std.specs.Prelude.{◌≡◌, List, ◌≢◌, ◌⊎◌, ◌↔◌, ℕ, ◌*◌, ◌≤◌, ◌<◌, length}
use Rattle.std.proofs.Common.{inl, inr, ⊎_elim, arith}
use Rattle.std.proofs.Math.Decide.{ℕ_discrete}
use Rattle.placing.specs.declared.units.Place.{Place}
use Rattle.placing.specs.declared.corner.Direction.{Direction}
use Rattle.placing.specs.rules.Units.{Axis, X, Y, along, site_at}
use Rattle.placing.specs.rules.Corner.{toward}
use Rattle.placing.specs.rules.Label.{AtSite, Inside, Covers, square, edge, point_of}
use Rattle.placing.specs.rules.Crowd.{Ahead, DoubledCovers, Crowded}
use Rattle.placing.specs.deciding.Tests.{place-equal}
use Rattle.placing.specs.theorems.Label.{onward-as, onward-same, covers-along, covers-inside}

-- What lies ahead below h lies ahead below everything larger.
pub ahead-larger : {h k : ℕ} {d : Direction} {a b : ℕ} → h ≤ k → Ahead h d a b → Ahead k d a b
ahead-larger larger ahead = record { onward = ahead.onward; near = omega (arith, ahead.near) }

-- A doubled label covers what a smaller one covers.
pub doubled-covers-larger : {h k : ℕ} {s t : Place} {c : ℕ} → h ≤ k → DoubledCovers h s c t → DoubledCovers k s c t
doubled-covers-larger larger covers axis = ahead-larger larger (covers axis)

-- A corner crowded at one side is crowded at another, if the doubled label there covers the same listed sites.
pub crowded-at : {h k : ℕ} {ps : List Place} {i c : ℕ}
    → ((j : ℕ) → j < length ps → DoubledCovers h (site_at ps i) c (site_at ps j) → DoubledCovers k (site_at ps i) c (site_at ps j))
    → Crowded h ps i c → Crowded k ps i c
crowded-at covers crowded =
    record {
      other = crowded.other;
      listed = crowded.listed;
      different = crowded.different;
      covered = covers crowded.other crowded.listed crowded.covered;
    }

-- A crowded corner is crowded at every larger side.
pub crowded-larger : {h k : ℕ} {ps : List Place} {i c : ℕ} → h ≤ k → Crowded h ps i c → Crowded k ps i c
crowded-larger larger = crowded-at (λ j listed. doubled-covers-larger larger)

-- The doubled label of side 1 covers no other place.
pub doubled-covers-one : {s t : Place} {c : ℕ} → DoubledCovers 1 s c t → s ≡ t
doubled-covers-one covers = place-equal (λ axis. omega (arith, (covers axis).near))

-- Along one axis: what lies ahead below h is inside the label of doubled side, or at the site.
ahead-inside : {h : ℕ} {d : Direction} {a : ℕ} (axis : Axis) (t : Place) → Ahead h d a (along axis t)
    → Inside (2 * h) 1 d a (point_of t axis) ⊎ AtSite a (point_of t axis)
ahead-inside {h} {d} {a} axis t ahead = go (ℕ_discrete a (along axis t))
  where
    go : Dec (a ≡ along axis t) → Inside (2 * h) 1 d a (point_of t axis) ⊎ AtSite a (point_of t axis)
    go (yes same) = inr (record { at = omega arith })
    go (no differ) =
        inl (record {
          onward = onward-as (λ l. omega arith) (λ l. omega arith) ahead.onward;
          past = omega arith;
          near = omega (arith, ahead.near);
        })

-- And back: what is inside the label of doubled side lies ahead below h.
inside-ahead : {h : ℕ} {d : Direction} {a : ℕ} (axis : Axis) (t : Place) → Inside (2 * h) 1 d a (point_of t axis)
    → Ahead h d a (along axis t)
inside-ahead axis t inside =
    record { onward = onward-as (λ l. omega arith) (λ l. omega arith) inside.onward; near = omega (arith, inside.near) }

-- The rule says what the picture says: for sites at different places, the doubled label's rule holds exactly where the label
-- of side 2 × h covers the point at which the other site stands.
pub doubled-covers : (h : ℕ) (s : Place) (c : ℕ) (t : Place) → s ≢ t → DoubledCovers h s c t ↔ Covers (2 * h) 1 s c (point_of t)
doubled-covers h s c t differ = (to, from)
  where
    to : DoubledCovers h s c t → Covers (2 * h) 1 s c (point_of t)
    to covers = go (ahead-inside X t (covers X)) (ahead-inside Y t (covers Y))
      where
        go : Inside (2 * h) 1 (toward X c) (along X s) (point_of t X) ⊎ AtSite (along X s) (point_of t X)
            → Inside (2 * h) 1 (toward Y c) (along Y s) (point_of t Y) ⊎ AtSite (along Y s) (point_of t Y)
            → Covers (2 * h) 1 s c (point_of t)
        go (inr x) (inr y) = absurd (differ (place-equal (λ axis. elim axis as (λ k. along k s ≡ along k t) [ X ↦ omega arith | Y ↦ omega arith ])))
        go (inr x) (inl y) = edge Y y x
        go (inl x) (inr y) = edge X x y
        go (inl x) (inl y) = square
            (λ axis. elim axis as (λ k. Inside (2 * h) 1 (toward k c) (along k s) (point_of t k)) [ X ↦ x | Y ↦ y ])

    from : Covers (2 * h) 1 s c (point_of t) → DoubledCovers h s c t
    from covers axis =
        let some = covers-inside covers in
        ⊎_elim (inside-ahead axis t)
        (λ at-site. record { onward = onward-same (omega arith); near = omega (arith, some.1.past, some.1.near, at-site.at) })
        (covers-along covers axis)
