-- A list that may be placed: document 01, "Units and limits". Sites are looked at one after another, each against those before it.
-- Assumes nothing.
use Rattle.std.specs.Prelude.{◌≡◌, ◌≢◌, List, ℕ, ◌*◌, ◌≤◌, ◌<◌, length}
use Rattle.std.proofs.Common.{ap, mul-le-mul_right, arith}
use Rattle.std.proofs.Math.Logic.{Ne-symm}
use Rattle.std.proofs.Math.Decide.{dec_lt}
use Rattle.placing.specs.declared.units.Place.{Place}
use Rattle.placing.specs.declared.units.Side.{Side}
use Rattle.placing.specs.declared.way.Way.{Way}
use Rattle.placing.specs.rules.Units.{Axis, along, Distinct, InRange, OnPlan, site_at, free_side}
use Rattle.placing.specs.rules.Answer.{judged_at}
use Rattle.placing.specs.calls.Placing.{MayPlace}
use Rattle.placing.specs.deciding.Answer.{answer_of}
use Rattle.placing.specs.theorems.Answer.{answer-is}
use Rattle.placing.specs.theorems.Given.{judged-range, answer-chosen}

-- Site number i is in range and apart from those before it.
pub record Fresh (sites : List Place) (i : ℕ) : Type 0 where
  pub on_plan : OnPlan (site_at sites i)
  pub earlier : (j : ℕ) → j < i → site_at sites j ≢ site_at sites i

-- These sites may be placed.
pub record Ready (sites : List Place) : Type 0 where
  pub some_sites : 1 ≤ length sites
  pub few : length sites ≤ 240
  pub distinct : Distinct sites
  pub in_range : InRange sites

-- Places that differ along an axis differ.
pub apart-along : {s t : Place} (axis : Axis) → along axis s ≢ along axis t → s ≢ t
apart-along axis differ same = differ (ap (along axis) same)

module _ {sites : List Place} (fresh : (i : ℕ) → i < length sites → Fresh sites i) where
  -- Of two sites that are all fresh the later is apart from the earlier,
  later-apart : (i j : ℕ) → i < j → j < length sites → site_at sites i ≢ site_at sites j
  later-apart i j before below = (fresh j below).earlier i before

  -- so are any two.
  either-apart : (i j : ℕ) → i < length sites → j < length sites → i ≢ j → Dec (i < j) → site_at sites i ≢ site_at sites j
  either-apart i j below other differ (yes before) = later-apart i j before other
  either-apart i j below other differ (no after) = Ne-symm (later-apart j i (omega arith) below)

  -- Such sites may be placed.
  pub fresh-ready : 1 ≤ length sites → length sites ≤ 240 → Ready sites
  fresh-ready some_sites few =
      record {
        some_sites = some_sites;
        few = few;
        distinct = record { distinct = λ i j listed other differ. either-apart i j listed other differ (dec_lt i j) };
        in_range = record { in_range = λ i listed. (fresh i listed).on_plan };
      }

-- A list that may be placed, and a table for 240 sites.
pub ready-places : {sites : List Place} {table : List ℕ} → Ready sites → 57600 ≤ length table → MayPlace sites table
ready-places {sites} ready room =
    record {
      some_sites = ready.some_sites;
      few = ready.few;
      distinct = ready.distinct;
      in_range = ready.in_range;
      room =
          let wide : length sites * length sites ≤ 240 * length sites = mul-le-mul_right (length sites) ready.few in
          omega (arith, ready.few);
    }

-- The side found by a way is one at which corners may be chosen.
pub found-judged : (way : Way) {sites : List Place} {side : Side} → Ready sites → side ≡ (answer_of way sites).side
    → judged_at side ≤ free_side
found-judged way {sites} ready is =
    rw is (judged-range (answer_of way sites).side (answer-chosen (answer-is way sites ready.distinct)).given).1
