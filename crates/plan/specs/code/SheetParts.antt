-- The lines of a sheet as they are written, one by one.
-- Assumes nothing.
use Rattle.std.specs.Prelude.{List, [], ◌∷◌, ◌++◌, ℕ, ◌≤◌, get_or}
use Rattle.placing.specs.declared.units.Side.{Side}
use Rattle.placing.specs.declared.units.Side.TheVariants.{Number, Free}
use Rattle.placing.specs.rules.Units.{greatest_side, nowhere}
use Rattle.plan.specs.declared.name.Name.{Name}
use Rattle.plan.specs.declared.plan.Plan.{Plan}
use Rattle.plan.specs.rules.Text.{line_feed}
use Rattle.plan.specs.rules.List.{Site}
use Rattle.plan.specs.rules.Sheet.{side_line, site_line}
use Rattle.plan.specs.code.Taken.{site_of}

-- The first line, ended by its line feed.
abbrev pub side_line_ended : Side → List ℕ
side_line_ended side = side_line side ++ (line_feed ∷ [])

-- The line of a site with its corner, ended by its line feed.
abbrev pub site_line_ended : Site → ℕ → List ℕ
site_line_ended site corner = site_line site corner ++ (line_feed ∷ [])

-- The name that stands past the last of an array: nothing depends on it.
abbrev pub past_names : Name
past_names = record { bytes = []; len = 0 }

-- The site that a plan's arrays hold at a number.
abbrev pub site_held : Plan → ℕ → Site
site_held plan i = site_of (get_or plan.names i past_names) (get_or plan.places i nowhere)

-- The line of that site.
abbrev pub line_held : Plan → ℕ → List ℕ
line_held plan i = site_line_ended (site_held plan i) (get_or plan.corners i 0)

-- A side that a sheet can print.
abbrev pub SideSmall : Side → Type 0
SideSmall (Number side) = side.0 ≤ greatest_side
SideSmall Free = Unit {0}
