-- The known answers of L3, and of what it refuses, as rows of one table with a theorem over the rows.
-- Assumes nothing.
use Rattle.std.specs.Prelude.{◌≡◌, refl, List, [], ◌∷◌, ℕ, length, Ok, Err}
use Rattle.placing.specs.declared.units.Growth.TheVariants.{Never}
use Rattle.placing.specs.declared.units.Place.{Place}
use Rattle.placing.specs.deciding.Growth.{up_to}
use Rattle.plan.specs.declared.refusal.Refusal.TheVariants.{BadNumber}
use Rattle.plan.specs.rules.List.{place_at}
use Rattle.growth.specs.Asked.{AskedGrowth, growth_asked}

-- Two labels, each with its place and its corner, and what is told of them.
pub record LabelAt : Type 0 where
  pub place : Place
  pub corner : ℕ

pub record Row : Type 0 where
  pub own : LabelAt
  pub other : LabelAt
  pub growth : AskedGrowth

abbrev label : (x y corner : ℕ) → LabelAt
label x y corner = record { place = place_at x y; corner = corner }

infix 68 ◌with◌tells◌
abbrev ◌with◌tells◌ : LabelAt → LabelAt → AskedGrowth → Row
◌with◌tells◌ own other growth = record { own = own; other = other; growth = growth }

abbrev up_to_side : ℕ → AskedGrowth
up_to_side g = Ok (up_to g)

abbrev never : AskedGrowth
never = Ok Never

abbrev refused_with3 : AskedGrowth
refused_with3 = Err BadNumber

abbrev pub rows : List Row
rows =
    label 10 10 3 with label 10 14 1 tells never
    ∷ label 10 14 1 with label 10 20 1 tells up_to_side 12
    -- an odd side
    ∷ label 0 0 1 with label 3 0 2 tells up_to_side 3
    ∷ label 0 0 1 with label 3 0 1 tells up_to_side 6
    -- one place given twice
    ∷ label 5 5 1 with label 5 5 3 tells up_to_side 0
    ∷ label 0 0 1 with label 10000 10000 1 tells up_to_side 20000
    -- the larger of the two axes; facing along both, and touching along one
    ∷ label 2 3 1 with label 9 5 3 tells up_to_side 7
    ∷ label 4 0 1 with label 4 9 3 tells up_to_side 9
    -- facing away along one axis
    ∷ label 3 0 1 with label 0 8 2 tells never
    -- down along y: the same direction, then facing each other along x
    ∷ label 7 9 4 with label 8 2 4 tells up_to_side 14
    ∷ label 40 3 4 with label 40 3000 2 tells never
    ∷ label 3000 40 3 with label 2 40 4 tells up_to_side 2998
    -- outside the range, and no corner
    ∷ label 10001 0 1 with label 0 0 1 tells refused_with3
    ∷ label 0 0 1 with label 0 10001 1 tells refused_with3
    ∷ label 0 0 0 with label 1 1 1 tells refused_with3
    ∷ label 0 0 1 with label 1 1 5 tells refused_with3
    ∷ []

-- A row tells what the call hands back.
abbrev pub Right : Row → Type 0
Right row = growth_asked row.own.place row.own.corner row.other.place row.other.corner ≡ row.growth

abbrev pub AllRight : List Row → Type 0
AllRight [] = Unit {0}
AllRight (row ∷ more) = Right row × AllRight more

pub known : AllRight rows
known =
    (refl, (refl, (refl, (refl, (refl, (refl, (refl, (refl, (refl, (refl, (refl, (refl, (refl, (refl, (refl, (refl, tt))))))))))))))))

pub rows-count : length rows ≡ 16
rows-count = refl
