-- What reading two coordinates hands back.
-- Assumes nothing.
use Rattle.std.specs.Prelude.{Option, Some, None}
use Rattle.placing.specs.declared.units.Units.{Units}
use Rattle.placing.specs.declared.units.Place.{Place}

-- The place of two coordinates, where both are there.
abbrev pub place_read : Option Units → Option Units → Option Place
place_read None y = None
place_read (Some x) None = None
place_read (Some x) (Some y) = Some (record { x = x; y = y })
