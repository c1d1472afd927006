-- Document 02, L3, asked with any numbers: what is refused, and what the call hands back.
-- Assumes nothing.
use Rattle.std.specs.Prelude.{Bool, not, ◌&&◌, ◌||◌, List, [], ◌∷◌, ℕ, leb, Ok, Err}
use Rattle.std.specs.Prelude as rattle
use Rattle.std.proofs.Math.Option.{Option, none, some}
use Rattle.placing.specs.declared.units.Growth.{Growth}
use Rattle.placing.specs.declared.units.Place.{Place}
use Rattle.placing.specs.rules.Units.{greatest_coordinate, OnPlan}
use Rattle.placing.specs.rules.Corner.{Corner}
use Rattle.placing.specs.rules.Growth.{Grows, growth_number}
use Rattle.placing.specs.deciding.Growth.{growth_of}
use Rattle.placing.specs.deciding.Tests.{corner_test}
use Rattle.plan.specs.declared.refusal.Refusal.{Refusal}
use Rattle.plan.specs.declared.refusal.Refusal.TheVariants.{BadNumber}
use Rattle.plan.specs.rules.Refusal.{number_of, Test, ◌gives◌, Result, accepted, refused, after_tests}

-- ---- what is refused

-- "A place outside the range": one of its coordinates is.
abbrev pub outside_range : Place → Bool
outside_range s = not (leb s.x.0 greatest_coordinate && leb s.y.0 greatest_coordinate)

-- "A place outside the range or a corner not 1 to 4": there is no label at corner c of s to be asked about.
abbrev pub no_label : Place → ℕ → Bool
no_label s c = outside_range s || not (corner_test c)

-- It "gives 3".
abbrev pub growth_tests : Place → ℕ → Place → ℕ → List Test
growth_tests s c t e = no_label s c gives BadNumber ∷ no_label t e gives BadNumber ∷ []

-- ---- the answer: how far the labels grow, or why the call is refused

abbrev pub AskedGrowth : Type 0
AskedGrowth = rattle.Result Growth Refusal

-- ---- for each case its number, 0 where the call is accepted, and the value that it carries

abbrev pub growth_asked_number : AskedGrowth → ℕ
growth_asked_number (Ok growth) = 0
growth_asked_number (Err why) = number_of why

-- A number of half units, or never.
abbrev pub growth_carried : AskedGrowth → Option (Option ℕ)
growth_carried (Ok growth) = some (growth_number growth)
growth_carried (Err why) = none

-- ---- what the call hands back

abbrev pub growth_answer : Result Growth → AskedGrowth
growth_answer (accepted growth) = Ok growth
growth_answer (refused why) = Err why

abbrev pub growth_asked : Place → ℕ → Place → ℕ → AskedGrowth
growth_asked s c t e = growth_answer (after_tests (growth_tests s c t e) (growth_of s c t e))

-- ---- what it tells

-- A label that can be asked about: its place is in range, and its corner is 1 to 4.
pub record HasLabel (s : Place) (c : ℕ) : Type 0 where
  pub on_plan : OnPlan s
  pub corner : Corner c

-- How far the two labels grow, as the rule has it; or the refusal, where one of them cannot be asked about.
pub data GrowthTold (s : Place) (c : ℕ) (t : Place) (e : ℕ) : AskedGrowth → Type 0 where
  told : {growth : Growth} → HasLabel s c → HasLabel t e → Grows s c t e growth → GrowthTold s c t e (Ok growth)
  told_3 : (HasLabel s c → HasLabel t e → ⊥) → GrowthTold s c t e (Err BadNumber)
