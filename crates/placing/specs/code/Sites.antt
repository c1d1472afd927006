-- What placing labels of a side may rely on: a list of sites, and the side.
-- Assumes nothing.
use Rattle.std.specs.Prelude.{List, ◌≤◌, length}
use Rattle.placing.specs.declared.units.HalfUnits.{HalfUnits}
use Rattle.placing.specs.declared.units.Place.{Place}
use Rattle.placing.specs.rules.Units.{most_sites, free_side, InRange}

-- A side that is judged: no greater than the one at which free is.
pub record Judged (h : HalfUnits) : Type 0 where
  pub judged : h.0 ≤ free_side

-- No more sites than a plan holds, all on the plan, and a side that is judged.
pub record Held (sites : List Place) (side : HalfUnits) : Type 0 where
  pub few : length sites ≤ most_sites
  pub in_range : InRange sites
  pub judged : side.0 ≤ free_side

-- The same at another side.
pub held_at : {sites : List Place} {side : HalfUnits} (other : HalfUnits) → other.0 ≤ free_side → Held sites side → Held sites other
held_at other judged held = record { few = held.few; in_range = held.in_range; judged = judged }
