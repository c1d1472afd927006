-- Document 01, "What demand 3 counts": at sides greater than twice that of the answer by the usual way, whole or fraction, every choice of
-- corners has two labels that meet.
-- Assumes nothing.
use Rattle.std.specs.Prelude.{List, ℕ, suc, ◌*◌, ◌≤◌, ◌<◌, length}
use Rattle.std.proofs.Math.Logic.{Ne-symm}
use Rattle.std.proofs.Common.{arith, mul-le-mul_right}
use Rattle.placing.specs.declared.units.Place.{Place}
use Rattle.placing.specs.declared.way.Way.TheVariants.{Usual}
use Rattle.placing.specs.declared.corner.Direction.{Direction}
use Rattle.placing.specs.rules.Units.{dist}
use Rattle.placing.specs.rules.Label.{Overlap}
use Rattle.placing.specs.rules.Crowd.{Ahead}
use Rattle.placing.specs.rules.Choice.{Corners, uncrowded, Good, MeetingPair}
use Rattle.placing.specs.rules.Answer.{numbered, IsAnswer, is_number}
use Rattle.placing.specs.deciding.Decides.{decided}
use Rattle.placing.specs.deciding.Tests.{meeting-decides}
use Rattle.placing.specs.theorems.Label.{meet-larger, reached-overlap}
use Rattle.placing.specs.theorems.Choice.{meeting-of, meeting-at}
use Rattle.placing.specs.theorems.Answer.{NoneGood}

-- What meets at one side meets at every larger one.
pub meeting-larger : {p q p' q' : ℕ} {ps : List Place} {cs : List ℕ} → 1 ≤ q' → p * q' ≤ p' * q
    → MeetingPair p q ps cs → MeetingPair p' q' ps cs
meeting-larger some_parts larger pair = meeting-at pair (meet-larger some_parts larger pair.meet)

module _ (h p q : ℕ) (twice : 2 * h * q < p) where
  -- At most h units ahead in one label's direction: at more than twice the side the two overlap, whichever way the other goes.
  near-overlap : {d e : Direction} {a b : ℕ} → Ahead (suc h) d a b → Overlap p q d a e b
  near-overlap {a = a} {b = b} ahead =
      let near : 2 * dist a b * q ≤ 2 * h * q = mul-le-mul_right q (omega (arith, ahead.near)) in
      reached-overlap ahead.onward (omega (arith, near))

  -- A choice without two labels that meet at p/q is good at h + 1: a site in the doubled label of h + 1 would have a label that meets this
  -- one, at whichever corner.
  apart-good : {ps : List Place} {cs : List ℕ} → 1 ≤ h → 1 ≤ q → Corners (length ps) cs → (MeetingPair p q ps cs → ⊥)
      → Good Usual (suc h) ps cs
  apart-good some-h some-q corners none_meet =
      let wider : suc h * q ≤ 2 * h * q = mul-le-mul_right q (omega arith) in
      let wide : suc h * q ≤ p * 1 = omega arith in
      record {
        corners = corners;
        allowed = λ i listed. uncrowded (λ crowded.
            none_meet
            (meeting-of i crowded.other listed crowded.listed (Ne-symm crowded.different)
            (λ axis. near-overlap (crowded.covered axis))));
        apart = λ pair. none_meet (meeting-larger some-q wide pair);
      }

-- If h + 1 has no good choice by the usual way, then at every side greater than twice h every choice has two labels that meet.
pub twice-the-side : (h : ℕ) (ps : List Place) → 1 ≤ h → NoneGood Usual (suc h) ps
    → (p q : ℕ) → 1 ≤ q → 2 * h * q < p → (cs : List ℕ) → Corners (length ps) cs → MeetingPair p q ps cs
twice-the-side h ps some-h none_good p q some-q twice cs corners = go (decided (meeting-decides p q ps cs))
  where
    go : Dec (MeetingPair p q ps cs) → MeetingPair p q ps cs
    go (yes pair) = pair
    go (no none_meet) = absurd (none_good cs (apart-good h p q twice some-h some-q corners none_meet))

-- The same for an answer whose side is a number.
pub answer-twice : {ps : List Place} {h : ℕ} {cs : List ℕ} → IsAnswer Usual ps (numbered h cs)
    → (p q : ℕ) → 1 ≤ q → 2 * h * q < p → (es : List ℕ) → Corners (length ps) es → MeetingPair p q ps es
answer-twice {ps} {h} (is_number not-free least most first above) = twice-the-side h ps least (above (suc h) (omega arith))
