-- Document 01, "Crowded".
-- Assumes nothing.
use Rattle.std.specs.Prelude.{List, ◌≢◌, ℕ, ◌<◌, length}
use Rattle.placing.specs.declared.units.Place.{Place}
use Rattle.placing.specs.declared.corner.Direction.{Direction}
use Rattle.placing.specs.rules.Units.{Axis, along, dist, site_at}
use Rattle.placing.specs.rules.Corner.{toward}
use Rattle.placing.specs.rules.Label.{Onward}

-- Measured from one coordinate in direction d, the other lies at 0 or more units, and below h.
pub record Ahead (h : ℕ) (d : Direction) (from to : ℕ) : Type 0 where
  pub onward : Onward d from to
  pub near : dist from to < h

-- The label of doubled side at corner c of site s covers the place t: "measured in the label's own two directions, the other site lies
-- at a ≥ 0 and b ≥ 0 with the larger of a and b below h". A doubled side of 2 × h half units is h units.
abbrev pub DoubledCovers : ℕ → Place → ℕ → Place → Type 0
DoubledCovers h s c t = (axis : Axis) → Ahead h (toward axis c) (along axis s) (along axis t)

-- "A corner of a site is crowded at h when the label of doubled side there covers another site": corner c of site number i.
pub record Crowded (h : ℕ) (ps : List Place) (i c : ℕ) : Type 0 where
  pub other : ℕ
  pub listed : other < length ps
  pub different : other ≢ i
  pub covered : DoubledCovers h (site_at ps i) c (site_at ps other)
