-- Document 01, "Corners, meeting, crowding": corners are numbered as quadrants, each with a direction along each axis.
-- Assumes nothing.
use Rattle.std.specs.Prelude.{Bool, true, false, ◌||◌, ℕ, ◌≤◌, eqb}
use Rattle.placing.specs.declared.corner.Direction.{Direction}
use Rattle.placing.specs.declared.corner.Directions.{Directions}
use Rattle.placing.specs.declared.corner.Direction.TheVariants.{Up, Down}
use Rattle.placing.specs.rules.Units.{Axis, X, Y}

-- A corner's number: 1 to 4.
pub record Corner (c : ℕ) : Type 0 where
  pub least : 1 ≤ c
  pub most : c ≤ 4

-- Up the axis where a test says so, else down it.
abbrev pub up_where : Bool → Direction
up_where true = Up
up_where false = Down

-- The direction of the label at a corner along an axis. "1 puts the label right and up of its site, 2 left and up, 3 left and down, 4
-- right and down." What is asked of a choice is asked beside `Corners`.
abbrev pub toward : Axis → ℕ → Direction
toward X c = up_where (eqb c 1 || eqb c 4)
toward Y c = up_where (eqb c 1 || eqb c 2)

-- The other direction.
abbrev pub opposite : Direction → Direction
opposite Up = Down
opposite Down = Up

-- "each corner's two directions".
abbrev pub directions_of : ℕ → Directions
directions_of c = record { x = toward X c; y = toward Y c }
