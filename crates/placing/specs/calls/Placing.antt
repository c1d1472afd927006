-- Finding a side and choosing at a side, for a list of places: what they ask of their caller, and what choosing hands back.
-- Assumes nothing.
use Rattle.std.specs.Prelude.{Option, Some, None, List, ◌++◌, ℕ, ◌-◌, ◌*◌, ◌≤◌, length, replicate}
use Rattle.std.proofs.Math.Option.{Option as Found, some, none}
use Rattle.placing.specs.declared.units.Place.{Place}
use Rattle.placing.specs.rules.Units.{most_sites, Distinct, InRange}

-- Finding or choosing for these sites with a lent table. "Placing borrows a work table of at least n × n bytes for n sites."
pub record MayPlace (sites : List Place) (table : List ℕ) : Type 0 where
  pub some_sites : 1 ≤ length sites
  pub few : length sites ≤ most_sites
  pub distinct : Distinct sites
  pub in_range : InRange sites
  pub room : length sites * length sites ≤ length table

-- A choice of corners as the code's arrays hold it: the corners, then zeros.
abbrev pub corners_held : List ℕ → List ℕ
corners_held cs = cs ++ replicate (most_sites - length cs) 0

-- What choosing hands back for the first good choice, or none.
abbrev pub choice_as : Found (List ℕ) → Option (List ℕ)
choice_as (some cs) = Some (corners_held cs)
choice_as none = None
