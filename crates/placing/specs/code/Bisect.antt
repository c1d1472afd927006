-- The greatest side, between one that has a good choice and one from which on no judged side has.
-- Assumes nothing.
use Rattle.std.specs.Prelude.{◌≡◌, List, ℕ, suc, ◌+◌, ◌-◌, ◌≤◌, ◌<◌, length, replicate}
use Rattle.std.proofs.Common.{sym, subst, ◌∙◌, arith}
use Rattle.std.proofs.Math.Decide.{ℕ_discrete, dec_le}
use Rattle.placing.specs.declared.crowding.Crowding.{Crowding}
use Rattle.placing.specs.declared.labels.Labels.{Labels}
use Rattle.placing.specs.declared.side.Between.{Between}
use Rattle.placing.specs.declared.units.HalfUnits.{HalfUnits}
use Rattle.placing.specs.declared.units.Place.{Place}
use Rattle.placing.specs.declared.units.Side.{Side}
use Rattle.placing.specs.declared.units.Side.TheVariants.{Number, Free}
use Rattle.placing.specs.declared.way.Way.{Way}
use Rattle.placing.specs.rules.Units.{Distinct, free_side}
use Rattle.placing.specs.rules.Choice.{Good, SomeGood}
use Rattle.placing.specs.deciding.Answer.{answer_of}
use Rattle.placing.specs.theorems.Choice.{good-smaller, good-one-exists}
use Rattle.placing.specs.theorems.Answer.{NoneGood, side-found, side-free}
use Rattle.placing.specs.code.Crowding.{NoneFrom, CrowdingIs}
use Rattle.placing.specs.code.Labels.{count_of}

-- The side to try next between two: below the upper one, and above the lower one unless they are one apart.
pub record NextIs (low high next : ℕ) : Type 0 where
  pub below : next < high
  pub end : next ≤ low → high ≤ low + 1

-- The lower side has a good choice; no judged side from the upper one on has one.
pub record BetweenIs (way : Way) (ps : List Place) (top : ℕ) (between : Between) : Type 0 where
  pub least : 1 ≤ between.low.0
  pub below : between.low.0 < between.high.0
  pub most : between.high.0 ≤ top + 1
  pub some_good : SomeGood way between.low.0 ps
  pub none_good_from_high : NoneFrom way free_side ps between.high.0
  pub next_is : NextIs between.low.0 between.high.0 between.next.0

-- Narrowing what lies between two sides where one is left to try.
pub record MayNarrow (labels : Labels) (crowding : Crowding) (between : Between) (marks : List ℕ) : Type 0 where
  pub room : length marks ≡ count_of labels
  pub crowding_is : CrowdingIs labels.way free_side labels.sites.now crowding
  pub between_is : BetweenIs labels.way labels.sites.now crowding.top.0 between
  pub left : between.low.0 < between.next.0

-- What lies between is less than before.
pub record Narrowed (way : Way) (ps : List Place) (top : ℕ) (before after : Between) : Type 0 where
  pub between_is : BetweenIs way ps top after
  pub less : after.high.0 - after.low.0 < before.high.0 - before.low.0

-- A good choice exists at 1, so that a side above which there is none is at least 1.
top_least : {way : Way} {ps : List Place} {top : ℕ} → Distinct ps → NoneFrom way free_side ps (top + 1) → 1 ≤ top
top_least {top = top} distinct none = go (dec_le 1 top)
  where
    go : Dec (1 ≤ top) → 1 ≤ top
    go (yes least) = least
    go (no below) = absurd (none.none_good 1 (omega arith) (omega arith) _ (good-one-exists distinct))

-- The search starts with side 1 and the side after the top, which is to be tried next.
pub between-starts : {way : Way} {ps : List Place} (top : HalfUnits) → Distinct ps → NoneFrom way free_side ps (top.0 + 1)
    → BetweenIs way ps top.0 (record { low = record { 0 = 1 }; high = record { 0 = top.0 + 1 }; next = top })
between-starts {ps = ps} top distinct none =
    record {
      least = omega arith;
      below = let least = top_least distinct none in omega arith;
      most = omega arith;
      some_good = record { choice = replicate (length ps) 1; good = good-one-exists distinct };
      none_good_from_high = none;
      next_is = record { below = omega arith; end = λ last. omega arith };
    }

module _ {way : Way} {ps : List Place} {top : ℕ} {between : Between} (is-between : BetweenIs way ps top between)
    (left : between.low.0 < between.next.0) (next : HalfUnits) where
  -- The side tried has a good choice: it is the next lower end.
  pub narrowed-up : SomeGood way between.next.0 ps → NextIs between.next.0 between.high.0 next.0
      → Narrowed way ps top between (record { low = between.next; high = between.high; next = next })
  narrowed-up some next_is =
      record {
        between_is = record {
          least = omega (arith, is-between.least);
          below = is-between.next_is.below;
          most = is-between.most;
          some_good = some;
          none_good_from_high = is-between.none_good_from_high;
          next_is = next_is;
        };
        less = omega (arith, is-between.next_is.below);
      }

  -- It has none: it is the next upper end.
  pub narrowed-down : NoneGood way between.next.0 ps → NextIs between.low.0 between.next.0 next.0
      → Narrowed way ps top between (record { low = between.low; high = between.next; next = next })
  narrowed-down none next_is =
      record {
        between_is = record {
          least = is-between.least;
          below = left;
          most = omega (arith, is-between.next_is.below, is-between.most);
          some_good = is-between.some_good;
          none_good_from_high = record { none_good = λ h judged above es good. none es (good-smaller above good) };
          next_is = next_is;
        };
        less = omega (arith, is-between.next_is.below);
      }

-- The side of an answer, by the greatest judged side that has a good choice: free at the side at which free is judged.
pub record SideIs (greatest : HalfUnits) (side : Side) : Type 0 where
  pub free : free_side ≤ greatest.0 → side ≡ Free
  pub number : greatest.0 < free_side → side ≡ Number greatest

-- Where nothing is left to try, the lower side is the answer's.
pub between_ends : {way : Way} {ps : List Place} {top : ℕ} {between : Between} {side : Side} → top ≤ free_side → Distinct ps
    → BetweenIs way ps top between
    → between.next.0 ≤ between.low.0 → SideIs between.low side → side ≡ (answer_of way ps).side
between_ends {way} {ps} {top} {between} {side} judged distinct is-between last is-side = go (ℕ_discrete low free_side)
  where
    low : ℕ
    low = between.low.0

    next : low < free_side → (es : List ℕ) → Good way (suc low) ps es → ⊥
    next under =
        is-between.none_good_from_high.none_good (suc low) (omega (arith, is-between.below, is-between.most))
        (omega (arith, is-between.next_is.end last))

    go : Dec (low ≡ free_side) → side ≡ (answer_of way ps).side
    go (yes at-free) =
        is-side.free (omega arith)
        ∙ sym (side-free distinct (subst (λ h. SomeGood way h ps) at-free is-between.some_good))
    go (no different) =
        let under : low < free_side = omega (arith, is-between.below, is-between.most) in
        is-side.number under ∙ sym (side-found distinct is-between.least (omega arith) is-between.some_good (next under))
