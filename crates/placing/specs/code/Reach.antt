-- How far a corner reaches before it is crowded, for sides up to a top: over some of the other sites, and over all.
-- Assumes nothing.
use Rattle.std.specs.Prelude.{◌≡◌, List, ◌≢◌, ◌⊎◌, ℕ, ◌*◌, ◌≤◌, ◌<◌, max, length}
use Rattle.std.proofs.Common.{ap₂, subst, inl, inr, arith}
use Rattle.placing.specs.declared.units.Place.{Place}
use Rattle.placing.specs.rules.Units.{Axis, X, Y, along, in_half_units, dist, site_at}
use Rattle.placing.specs.rules.Corner.{toward}
use Rattle.placing.specs.rules.Label.{Onward}
use Rattle.placing.specs.rules.Crowd.{DoubledCovers, Crowded}
use Rattle.placing.specs.theorems.Label.{dist-symmetric}

-- The distance between two places, in half units: the larger of their distances along the axes.
abbrev pub distance_between : Place → Place → ℕ
distance_between s t = max (in_half_units (dist (along X s) (along X t))) (in_half_units (dist (along Y s) (along Y t)))

-- It is the same from both.
pub distance-symmetric : (s t : Place) → distance_between s t ≡ distance_between t s
distance-symmetric s t =
    ap₂ (λ (x y : ℕ). max (in_half_units x) (in_half_units y)) (dist-symmetric (along X s) (along X t))
    (dist-symmetric (along Y s) (along Y t))

-- The place t lies at 0 or more in both directions of corner c of s.
abbrev pub LiesToward : Place → ℕ → Place → Type 0
LiesToward s c t = (axis : Axis) → Onward (toward axis c) (along axis s) (along axis t)

-- A place that a doubled label covers is nearer than the doubled side ..
covers-near : {h : ℕ} {s t : Place} {c : ℕ} → DoubledCovers h s c t → distance_between s t < 2 * h
covers-near covers = omega (arith, (covers X).near, (covers Y).near)

-- .. and one that lies in the label's two directions is covered at every side whose double it is nearer than.
near-covers : {h : ℕ} {s t : Place} {c : ℕ} → LiesToward s c t → distance_between s t < 2 * h → DoubledCovers h s c t
near-covers {h} {s} {t} lies near axis = record { onward = lies axis; near = near-along axis }
  where
    near-along : (axis : Axis) → dist (along axis s) (along axis t) < h
    near-along X = omega arith
    near-along Y = omega arith

-- For sides up to the top, the reach of corner c of site i is r half units: at those whose double is above r, and at no others, the
-- corner is crowded.
pub record ReachIs (ps : List Place) (top i c r : ℕ) : Type 0 where
  pub crowds : (h : ℕ) → h ≤ top → r < 2 * h → Crowded h ps i c
  pub below : (h : ℕ) → h ≤ top → Crowded h ps i c → r < 2 * h

-- With t as one other place more, the reach of corner c of s falls from `before` to `after`: to where the doubled label covers t.
pub record Lowered (s : Place) (c : ℕ) (t : Place) (before after : ℕ) : Type 0 where
  pub falls : after ≤ before
  pub covers : (h : ℕ) → after < 2 * h → (before < 2 * h) ⊎ DoubledCovers h s c t
  pub below : (h : ℕ) → DoubledCovers h s c t → after < 2 * h

-- A place as far away as the reach, or farther, leaves it as it is ..
pub lowered-far : {s t : Place} {c reach : ℕ} → reach ≤ distance_between s t → Lowered s c t reach reach
lowered-far far =
    record {
      falls = omega arith;
      covers = λ h above. inl above;
      below = λ h covers. let near = covers-near covers in omega arith;
    }

-- .. so does one that does not lie in the label's two directions ..
pub lowered-elsewhere : {s t : Place} {c reach : ℕ} → (LiesToward s c t → ⊥) → Lowered s c t reach reach
lowered-elsewhere elsewhere =
    record {
      falls = omega arith;
      covers = λ h above. inl above;
      below = λ h covers. absurd (elsewhere (λ axis. (covers axis).onward));
    }

-- .. and to any other the reach falls.
pub lowered-there : {s t : Place} {c reach : ℕ} → distance_between s t ≤ reach → LiesToward s c t
    → Lowered s c t reach (distance_between s t)
lowered-there near lies =
    record {
      falls = near;
      covers = λ h above. inr (near-covers lies above);
      below = λ h covers. covers-near covers;
    }

-- For sides up to the top, the reach of corner c of site i over some of the other sites: at sides whose double is above r the corner is
-- crowded, and at those at which it covers one of these sites r is passed.
pub record ReachOver (ps : List Place) (top i c : ℕ) (Over : ℕ → Type 0) (r : ℕ) : Type 0 where
  pub crowds : (h : ℕ) → h ≤ top → r < 2 * h → Crowded h ps i c
  pub below : (h j : ℕ) → h ≤ top → j < length ps → j ≢ i → Over j → DoubledCovers h (site_at ps i) c (site_at ps j) → r < 2 * h

module _ {ps : List Place} {top i c r : ℕ} {Over : ℕ → Type 0} (over : ReachOver ps top i c Over r) where
  -- So over fewer sites.
  pub over_fewer : {Fewer : ℕ → Type 0} → ((j : ℕ) → j < length ps → j ≢ i → Fewer j → Over j) → ReachOver ps top i c Fewer r
  over_fewer fewer =
      record {
        crowds = over.crowds;
        below = λ h j inside listed different passed. over.below h j inside listed different (fewer j listed different passed);
      }

  -- With one site more it is the reach that falls by that site ..
  pub over_lowered : {k q : ℕ} → k < length ps → k ≢ i → Lowered (site_at ps i) c (site_at ps k) r q
      → ReachOver ps top i c (λ j. Over j ⊎ (j ≡ k)) q
  over_lowered {k} {q} k-listed k-differs lowered =
      record {
        crowds = λ h inside above. one-above h inside (lowered.covers h above);
        below = λ h j inside listed different passed covers. is-passed h j inside listed different covers passed;
      }
    where
      one-above : (h : ℕ) → h ≤ top → (r < 2 * h) ⊎ DoubledCovers h (site_at ps i) c (site_at ps k) → Crowded h ps i c
      one-above h inside (inl so_far) = over.crowds h inside so_far
      one-above h inside (inr covers) = record { other = k; listed = k-listed; different = k-differs; covered = covers }

      is-passed : (h j : ℕ) → h ≤ top → j < length ps → j ≢ i → DoubledCovers h (site_at ps i) c (site_at ps j) → Over j ⊎ (j ≡ k) → q < 2 * h
      is-passed h j inside listed different covers (inl earlier) =
          let so_far : r < 2 * h = over.below h j inside listed different earlier covers in
          omega (arith, lowered.falls)
      is-passed h j inside listed different covers (inr last) =
          lowered.below h (subst (λ m. DoubledCovers h (site_at ps i) c (site_at ps m)) last covers)

  -- .. and stays as it is where that site is not nearer than the doubled top.
  pub over_far : {k : ℕ} → 2 * top ≤ distance_between (site_at ps i) (site_at ps k) → ReachOver ps top i c (λ j. Over j ⊎ (j ≡ k)) r
  over_far {k} far =
      record {
        crowds = over.crowds;
        below = λ h j inside listed different passed covers. is-passed h j inside listed different covers passed;
      }
    where
      is-passed : (h j : ℕ) → h ≤ top → j < length ps → j ≢ i → DoubledCovers h (site_at ps i) c (site_at ps j) → Over j ⊎ (j ≡ k) → r < 2 * h
      is-passed h j inside listed different covers (inl earlier) = over.below h j inside listed different earlier covers
      is-passed h j inside listed different covers (inr last) =
          let near = covers-near (subst (λ m. DoubledCovers h (site_at ps i) c (site_at ps m)) last covers) in
          absurd (omega arith)

-- Over all other sites it is the reach.
pub over-all : {ps : List Place} {top i c r : ℕ} {Over : ℕ → Type 0} → ((j : ℕ) → j < length ps → Over j) → ReachOver ps top i c Over r
    → ReachIs ps top i c r
over-all all over =
    record {
      crowds = over.crowds;
      below = λ h inside crowded.
          over.below h crowded.other inside crowded.listed crowded.different (all crowded.other crowded.listed)
          crowded.covered;
    }
