-- Document 01, "Calls on a plan": what a plan's record holds. "A plan is what these calls hand back, kept or copied but never
-- patched by hand."
-- Assumes nothing.
use Rattle.std.specs.Prelude.{Bool, true, false, List, [], ◌∷◌, ◌++◌, map, ℕ, ◌-◌, ◌≤◌, length, take, replicate}
use Rattle.placing.specs.declared.units.Place.{Place}
use Rattle.placing.specs.declared.units.Side.{Side}
use Rattle.placing.specs.declared.units.Side.TheVariants.{Free}
use Rattle.placing.specs.declared.way.Way.{Way}
use Rattle.placing.specs.declared.way.Way.TheVariants.{Usual}
use Rattle.placing.specs.rules.Units.{nowhere, most_sites}
use Rattle.placing.specs.rules.Answer.{Answer, IsChosen}
use Rattle.placing.specs.deciding.Answer.{answer_of}
use Rattle.placing.specs.calls.Placing.{corners_held}
use Rattle.plan.specs.declared.name.Name.{Name}
use Rattle.plan.specs.rules.Text.{most_name_bytes}
use Rattle.plan.specs.rules.List.{Site, places_of, Listed}

-- What a plan is: its sites, as names and places side by side in arrays with empty slots past the count; and how it is placed, if it is.
pub record PlanRecord : Type 0 where
  pub count : ℕ
  pub names : List Name
  pub places : List Place
  pub placed : Bool
  pub way : Way
  pub side : Side
  pub corners : List ℕ

-- The record of a name: its bytes, then zeros.
abbrev pub name_of : List ℕ → Name
name_of bytes = record { bytes = bytes ++ replicate (most_name_bytes - length bytes) 0; len = length bytes }

-- The name that a record holds.
abbrev pub name_held : Name → List ℕ
name_held name = take name.len name.bytes

-- The record of the name of a site.
abbrev pub name_record : Site → Name
name_record site = name_of site.name

-- The names of some sites, then empty slots; and their places.
abbrev pub names_held : List Site → List Name
names_held sites = map name_record sites ++ replicate (most_sites - length sites) (name_of [])

abbrev pub places_held : List Site → List Place
places_held sites = places_of sites ++ replicate (most_sites - length sites) nowhere

-- The plan of some sites while it is not placed. Its way, side and corners are as the constructor leaves them.
unfoldable pub unplaced_plan : List Site → PlanRecord
unplaced_plan sites =
    record {
      count = length sites;
      names = names_held sites;
      places = places_held sites;
      placed = false;
      way = Usual;
      side = Free;
      corners = replicate most_sites 0;
    }

-- The plan of some sites once it is placed by a way at a side with these corners. L1: "The plan remembers the side it was placed at";
-- and the way, since by L2 a sheet's list gives it again "when placed the same way at the same side".
unfoldable pub placed_with : List Site → Way → Answer → PlanRecord
placed_with sites way answer =
    record {
      count = length sites;
      names = names_held sites;
      places = places_held sites;
      placed = true;
      way = way;
      side = answer.side;
      corners = corners_held answer.corners;
    }

-- With the answer for their places.
abbrev pub placed_plan : Way → List Site → PlanRecord
placed_plan way sites = placed_with sites way (answer_of way (places_of sites))

-- Names and places side by side.
unfoldable pub sites_from : List Name → List Place → List Site
sites_from [] places = []
sites_from (name ∷ names) [] = []
sites_from (name ∷ names) (place ∷ places) = record { name = name_held name; place = place } ∷ sites_from names places

-- The sites that a plan holds.
unfoldable pub sites_in : PlanRecord → List Site
sites_in plan = sites_from (take plan.count plan.names) (take plan.count plan.places)

-- A plan that the calls hand back: placed by a way at a side, it has the first good choice there.
pub data Valid : PlanRecord → Type 0 where
  is_unplaced : (sites : List Site) → Listed sites → Valid (unplaced_plan sites)
  is_placed : (sites : List Site) (way : Way) (answer : Answer) → Listed sites → 1 ≤ length sites → IsChosen way (places_of sites) answer
      → Valid (placed_with sites way answer)
