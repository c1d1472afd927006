-- What the program writes, and then a line feed: the number, the word never, or the refusal.
-- Assumes nothing.
use Rattle.std.specs.Prelude.{◌≡◌, List, [], ◌∷◌, ◌++◌, ℕ, Ok, Err, take}
use Rattle.desk.specs.Words.{IsPrefixLen}
use Rattle.placing.specs.declared.units.Growth.{Growth}
use Rattle.placing.specs.declared.units.Growth.TheVariants.{UpTo, Never}
use Rattle.plan.specs.rules.Refusal.{number_of}
use Rattle.plan.specs.rules.Text.{tab, decimal}
use Rattle.plan.specs.rules.Sheet.{refused_word}
use Rattle.growth.specs.Asked.{AskedGrowth}

-- A growth: its number, or the word never.
abbrev pub growth_text : Growth → List ℕ
growth_text (UpTo g) = decimal g.0
growth_text Never = 110 ∷ 101 ∷ 118 ∷ 101 ∷ 114 ∷ []

-- A refusal: the word refused, a tab, the number.
abbrev pub refusal_text : ℕ → List ℕ
refusal_text number = refused_word ++ (tab ∷ decimal number)

abbrev pub asked_text : AskedGrowth → List ℕ
asked_text (Ok growth) = growth_text growth
asked_text (Err why) = refusal_text (number_of why)

-- A text in an array: its first `len` bytes.
pub record Text : Type 0 where
  pub bytes : List ℕ
  pub len : ℕ

-- The array holds these bytes.
pub record Holds (text : Text) (bytes : List ℕ) : Type 0 where
  pub counted : IsPrefixLen text.len text.bytes
  pub held : take text.len text.bytes ≡ bytes
