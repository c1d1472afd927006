-- Document 02, L2: the side found above the spot is "the greatest that anybody can have under those two corners", whole or fraction. What a
-- side is compared with is whole, so that labels apart at a fraction greater than h are apart at h + 1.
-- Assumes nothing.
use Rattle.std.specs.Prelude.{List, ℕ, suc, ◌*◌, ◌≤◌, ◌<◌, length}
use Rattle.std.proofs.Common.{mul-le-mul_right, arith}
use Rattle.placing.specs.declared.units.Place.{Place}
use Rattle.placing.specs.declared.way.Way.TheVariants.{Above}
use Rattle.placing.specs.rules.Choice.{UpperCorners, upper, Good, MeetingPair}
use Rattle.placing.specs.rules.Answer.{numbered, IsAnswer, is_number}
use Rattle.placing.specs.deciding.Decides.{decided}
use Rattle.placing.specs.deciding.Tests.{meeting-decides}
use Rattle.placing.specs.theorems.Label.{overlap-at}
use Rattle.placing.specs.theorems.Choice.{meeting-at}
use Rattle.placing.specs.theorems.Answer.{NoneGood}

module _ (h p q : ℕ) (greater : h * q < p) where
  -- Two labels that meet at h + 1 meet at every side greater than h.
  meets-greater : {ps : List Place} {cs : List ℕ} → MeetingPair (suc h) 1 ps cs → MeetingPair p q ps cs
  meets-greater pair =
      meeting-at pair (λ axis.
      overlap-at (λ x bound below.
      let whole : x * q ≤ h * q = mul-le-mul_right q (omega arith) in
      omega arith) (pair.meet axis))

  -- So a choice of corners 1 and 2 without two labels that meet at p/q is good at h + 1.
  apart-good : {ps : List Place} {cs : List ℕ} → UpperCorners (length ps) cs → (MeetingPair p q ps cs → ⊥) → Good Above (suc h) ps cs
  apart-good uppers none_meet =
      record {
        corners = uppers.corners;
        allowed = λ i listed. upper (uppers.each_upper i listed);
        apart = λ pair. none_meet (meets-greater pair);
      }

-- If h + 1 has no good choice above the spot, then at every side greater than h every choice of corners 1 and 2 has two labels that meet.
pub exact-side : (h : ℕ) (ps : List Place) → NoneGood Above (suc h) ps
    → (p q : ℕ) → h * q < p → (cs : List ℕ) → UpperCorners (length ps) cs → MeetingPair p q ps cs
exact-side h ps none_good p q greater cs uppers = go (decided (meeting-decides p q ps cs))
  where
    go : Dec (MeetingPair p q ps cs) → MeetingPair p q ps cs
    go (yes pair) = pair
    go (no none_meet) = absurd (none_good cs (apart-good h p q greater uppers none_meet))

-- The same for an answer whose side is a number.
pub answer-exact : {ps : List Place} {h : ℕ} {cs : List ℕ} → IsAnswer Above ps (numbered h cs)
    → (p q : ℕ) → h * q < p → (es : List ℕ) → UpperCorners (length ps) es → MeetingPair p q ps es
answer-exact {ps} {h} (is_number not-free least most first none_greater) = exact-side h ps (none_greater (suc h) (omega arith))
