-- Document 01, "Units and limits": coordinates are whole units, sides are whole half units.
-- Assumes nothing.
use Rattle.std.specs.Prelude.{List, ◌≢◌, ℕ, ◌+◌, ◌-◌, ◌*◌, ◌≤◌, ◌<◌, length, get_or}
use Rattle.placing.specs.declared.units.Place.{Place}

-- "A plan holds at most 240 sites."
abbrev pub most_sites : ℕ
most_sites = 240

-- "Coordinates are whole units from 0 to 10,000."
abbrev pub greatest_coordinate : ℕ
greatest_coordinate = 10000

-- "x grows to the right, y grows upwards": the two axes.
pub data Axis : Type 0 where
  X : Axis
  Y : Axis

-- A site's coordinate along an axis, in units. In these pages a site is its place: names are none of their business.
abbrev pub along : Axis → Place → ℕ
along X s = s.x.0
along Y s = s.y.0

-- A place on the plan: its coordinates are in range.
pub record OnPlan (s : Place) : Type 0 where
  pub on_x : along X s ≤ greatest_coordinate
  pub on_y : along Y s ≤ greatest_coordinate

-- "A side is a whole number h of half units, from 1 to 20,000": the greatest; `IsAnswer` and `is_side` have the least.
abbrev pub greatest_side : ℕ
greatest_side = 20000

-- The side at which free is judged.
abbrev pub free_side : ℕ
free_side = 20001

-- "The label is h/2 units wide": d units are this many half units, the one conversion.
abbrev pub in_half_units : ℕ → ℕ
in_half_units d = 2 * d

-- The distance |a - b| of two places of an axis: of the two differences the one that would be below 0 is 0.
abbrev pub dist : ℕ → ℕ → ℕ
dist a b = (a - b) + (b - a)

-- The place 0, 0. No rule speaks of the site of a number past a list's end, which stands there; the plan's record holds it in its
-- empty slots.
abbrev pub nowhere : Place
nowhere = record { x = record { 0 = 0 }; y = record { 0 = 0 } }

-- The place of site number i of a list, from 0.
abbrev pub site_at : List Place → ℕ → Place
site_at ps i = get_or ps i nowhere

-- All sites of a list stand on the plan.
pub record InRange (ps : List Place) : Type 0 where
  pub in_range : (i : ℕ) → i < length ps → OnPlan (site_at ps i)

-- "So are places": distinct.
pub record Distinct (ps : List Place) : Type 0 where
  pub distinct : (i j : ℕ) → i < length ps → j < length ps → i ≢ j → site_at ps i ≢ site_at ps j
