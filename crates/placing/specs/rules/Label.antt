-- Document 01, "What a label covers" and "Meeting". "Where a side may be a fraction .. it is p/q half units, p and q whole numbers from 1,
-- with no upper limit"; a whole side h is p = h, q = 1.
-- Assumes nothing.
use Rattle.std.specs.Prelude.{◌≡◌, ℕ, ◌+◌, ◌*◌, ◌≤◌, ◌<◌}
use Rattle.std.proofs.Common.{arith}
use Rattle.placing.specs.declared.units.Place.{Place}
use Rattle.placing.specs.declared.corner.Direction.{Direction}
use Rattle.placing.specs.declared.corner.Direction.TheVariants.{Up, Down}
use Rattle.placing.specs.rules.Units.{Axis, X, Y, along, in_half_units, dist}
use Rattle.placing.specs.rules.Corner.{toward, opposite}

-- Measured from a in direction d, b lies at 0 or more: its offset, which is then the distance of the two. What a label covers, its far
-- edge, overlap and crowding are bounds on this offset.
pub data Onward : Direction → (a b : ℕ) → Type 0 where
  upward : {a b : ℕ} → a ≤ b → Onward Up a b
  downward : {a b : ℕ} → b ≤ a → Onward Down a b

-- ---- what a label covers

-- The number (plus - minus) / parts of half units along an axis: points have fractional coordinates, which may be below zero, since
-- labels may run past the edge of the plan.
pub record Fraction : Type 0 where
  pub plus : ℕ
  pub minus : ℕ
  pub parts : ℕ
  pub some_parts : 1 ≤ parts

-- A point of the plan or beside it.
abbrev pub Point : Type 0
Point = Axis → Fraction

-- Where a site's coordinate of a units stands on the scale of t, moved up by what t has below zero.
abbrev pub moved : ℕ → Fraction → ℕ
moved a t = t.minus + in_half_units a * t.parts

-- The offset of t from a site's coordinate a is 0.
pub record AtSite (a : ℕ) (t : Fraction) : Type 0 where
  pub at : t.plus ≡ moved a t

-- The offset of t from a in direction d is above 0 and below p/q half units.
pub record Inside (p q : ℕ) (d : Direction) (a : ℕ) (t : Fraction) : Type 0 where
  pub onward : Onward d (moved a t) t.plus
  pub past : 1 ≤ dist (moved a t) t.plus
  pub near : dist (moved a t) t.plus * q < p * t.parts

-- The offset of t from a in direction d is p/q half units: the far edge.
pub record AtFarEdge (p q : ℕ) (d : Direction) (a : ℕ) (t : Fraction) : Type 0 where
  pub onward : Onward d (moved a t) t.plus
  pub far : dist (moved a t) t.plus * q ≡ p * t.parts

-- The axis across another.
abbrev pub across : Axis → Axis
across X = Y
across Y = X

-- What the label of side p/q at corner c of a site covers. "The open square and the two open edges that end in the site. Not the site,
-- not the far edges." An edge runs along one axis, and along the other it is at the site.
pub data Covers (p q : ℕ) (s : Place) (c : ℕ) (t : Point) : Type 0 where
  square : ((axis : Axis) → Inside p q (toward axis c) (along axis s) (t axis)) → Covers p q s c t
  edge : (axis : Axis) → Inside p q (toward axis c) (along axis s) (t axis) → AtSite (along (across axis) s) (t (across axis))
      → Covers p q s c t

-- The point where a site stands.
abbrev pub point_of : Place → Point
point_of s axis = record { plus = in_half_units (along axis s); minus = 0; parts = 1; some_parts = omega arith }

-- ---- meeting

-- Along one axis, the label that goes direction d from a and the label that goes direction e from b overlap. The d of the document is
-- `dist a b` here. Two labels of h half units that face each other reach h units together, so that h is compared with units there.
-- "same direction: overlap exactly when h > 2 × |d|", "p > 2 × |d| × q";
-- "opposite directions: let d be the place of the label that goes down the axis minus the place of the one that goes up it. Overlap
-- exactly when d ≥ 0 and h > d", "d ≥ 0 and p > d × q".
pub data Overlap (p q : ℕ) (d : Direction) (a : ℕ) (e : Direction) (b : ℕ) : Type 0 where
  same_direction : d ≡ e → in_half_units (dist a b) * q < p → Overlap p q d a e b
  facing : opposite d ≡ e → Onward d a b → dist a b * q < p → Overlap p q d a e b

-- "Two labels of side h on different sites meet exactly when they overlap along x and along y": the label at corner c of site s and the
-- label at corner e of site t. `MeetingPair` asks it of different sites.
abbrev pub Meet : (p q : ℕ) → Place → ℕ → Place → ℕ → Type 0
Meet p q s c t e = (axis : Axis) → Overlap p q (toward axis c) (along axis s) (toward axis e) (along axis t)
