-- Laws of rules/Answer, for a given side: choosing gives its first good choice, and every side up to the one found has a good choice.
-- Assumes nothing.
use Rattle.std.specs.Prelude.{◌≡◌, Bool, false, ◌&&◌, List, ℕ, ◌≤◌, ◌<◌, leb}
use Rattle.std.proofs.Math.Path.{refl, ap}
use Rattle.std.proofs.Common.{sym, ◌∙◌, true≢false, arith, leb-true, le-leb}
use Rattle.std.proofs.Math.Bool.{true}
use Rattle.std.proofs.Math.Option.{Option, none, some}
use Rattle.placing.specs.declared.units.Place.{Place}
use Rattle.placing.specs.declared.units.Side.{Side}
use Rattle.placing.specs.declared.units.Side.TheVariants.{Number, Free}
use Rattle.placing.specs.declared.way.Way.{Way}
use Rattle.placing.specs.rules.Units.{Distinct, greatest_side, free_side}
use Rattle.placing.specs.rules.Choice.{SomeGood}
use Rattle.placing.specs.rules.Answer.{Answer, is_side, judged_at, IsAnswer, is_free, is_number, IsChosen}
use Rattle.placing.specs.deciding.Answer.{first_good, answer_of, is_some, corners_of, chosen_at}
use Rattle.placing.specs.theorems.Choice.{good-smaller}
use Rattle.placing.specs.theorems.Answer.{NoneGood, first_good-some, first_good-none, first_found, answer-is}

-- ---- the range

-- A given number is from 1 to 20,000.
pub number-range : (h : ℕ) → is_side (Number (record { 0 = h })) ≡ true → (1 ≤ h) × (h ≤ greatest_side)
number-range h is = by-least (leb 1 h) refl (leb h greatest_side) refl is
  where
    by-least : (b : Bool) → leb 1 h ≡ b → (t : Bool) → leb h greatest_side ≡ t → (b && t) ≡ true
        → (1 ≤ h) × (h ≤ greatest_side)
    by-least true least true most both = (leb-true 1 h least, leb-true h greatest_side most)
    by-least true least false most both = absurd (true≢false (sym both))
    by-least false least t most both = absurd (true≢false (sym both))

pub in_range : {h : ℕ} → 1 ≤ h → h ≤ greatest_side → is_side (Number (record { 0 = h })) ≡ true
in_range {h} least most = rw (le-leb 1 h least, le-leb h greatest_side most)

-- So every given side is judged at one from 1 to 20,001.
pub judged-range : (side : Side) → is_side side ≡ true → (1 ≤ judged_at side) × (judged_at side ≤ free_side)
judged-range (Number side) is = let both = number-range side.0 is in (both.0, omega (arith, both.1))
judged-range Free is = (omega arith, omega arith)

-- ---- choosing

module _ (way : Way) (ps : List Place) where
  -- Where the search finds a good choice, that side with it is what choosing gives;
  pub chosen_is : (side : Side) → is_side side ≡ true → is_some (first_good way (judged_at side) ps) ≡ true
      → IsChosen way ps (chosen_at way side ps)
  unfolding chosen_at
  chosen_is side given = by-search (first_good way (judged_at side) ps) refl
    where
      by-search : (o : Option (List ℕ)) → first_good way (judged_at side) ps ≡ o → is_some o ≡ true
          → IsChosen way ps (record { side = side; corners = corners_of o })
      by-search (some cs) is there = record { given = given; first = first_good-some is }
      by-search none is there = absurd (true≢false (sym there))

-- and nothing else is.
module _ {way : Way} {ps : List Place} where
  pub chosen-found : {answer : Answer} → IsChosen way ps answer → first_good way (judged_at answer.side) ps ≡ some answer.corners
  chosen-found chosen = first_found chosen.first

  pub is-chosen-at : {answer : Answer} → IsChosen way ps answer → answer ≡ chosen_at way answer.side ps
  unfolding chosen_at
  is-chosen-at {answer} chosen =
      ap (λ (o : Option (List ℕ)). record { side = answer.side; corners = corners_of o }) (sym (chosen-found chosen))

  -- A good choice exists exactly where the search finds one.
  pub some-found : {h : ℕ} → SomeGood way h ps → is_some (first_good way h ps) ≡ true
  some-found {h} some_good = by-search (first_good way h ps) refl
    where
      by-search : (o : Option (List ℕ)) → first_good way h ps ≡ o → is_some o ≡ true
      by-search (some cs) is = refl
      by-search none is = absurd (first_good-none is some_good.choice some_good.good)

pub found_some : (way : Way) (h : ℕ) (ps : List Place) → is_some (first_good way h ps) ≡ true → SomeGood way h ps
found_some way h ps = by-search (first_good way h ps) refl
  where
    by-search : (o : Option (List ℕ)) → first_good way h ps ≡ o → is_some o ≡ true → SomeGood way h ps
    by-search (some cs) is there = record { choice = cs; good = (first_good-some is).good }
    by-search none is there = absurd (true≢false (sym there))

-- ---- the side found

-- The answer is what choosing at its side gives.
pub answer-chosen : {way : Way} {ps : List Place} {answer : Answer} → IsAnswer way ps answer → IsChosen way ps answer
answer-chosen (is_free first) = record { given = refl; first = first }
answer-chosen (is_number not-free least most first above) = record { given = in_range least most; first = first }

-- What is chosen at the side of the answer is the answer.
pub chosen-answer : {way : Way} {ps : List Place} {chosen answer : Answer} → IsAnswer way ps answer → IsChosen way ps chosen
    → chosen.side ≡ answer.side
    → chosen ≡ answer
chosen-answer {way} {ps} {chosen} {answer} is is_chosen same =
    is-chosen-at is_chosen ∙ ap (λ (side : Side). chosen_at way side ps) same ∙ sym (is-chosen-at (answer-chosen is))

-- "Finding the greatest side, and choosing the first good choice at" it gives the answer.
pub found-chosen : (way : Way) {ps : List Place} → Distinct ps → chosen_at way (answer_of way ps).side ps ≡ answer_of way ps
found-chosen way {ps} places = sym (is-chosen-at (answer-chosen (answer-is way ps places)))

module _ {way : Way} {ps : List Place} (places : Distinct ps) where
  -- Every side up to the one found has a good choice,
  pub up-to-found : {h : ℕ} → h ≤ judged_at (answer_of way ps).side → SomeGood way h ps
  up-to-found smaller =
      record {
        choice = (answer_of way ps).corners;
        good = good-smaller smaller (answer-chosen (answer-is way ps places)).first.good;
      }

  -- and none above it, up to the one at which free is judged.
  pub above-found : {h : ℕ} → judged_at (answer_of way ps).side < h → h ≤ free_side → NoneGood way h ps
  above-found {h} = by_answer (answer-is way ps places)
    where
      by_answer : {answer : Answer} → IsAnswer way ps answer → judged_at answer.side < h → h ≤ free_side → NoneGood way h ps
      by_answer (is_free first) above judged = absurd (omega arith)
      by_answer (is_number not-free least most first none_above) above judged = none_above h above
