-- Demand 3 in the picture: two labels that meet are two labels that cover a common point. That every rival draws such labels stands in
-- proofs/Rivals; here, that a sheet's own labels do not, where it prints free.
-- Assumes nothing.
use Rattle.std.specs.Prelude.{◌≡◌, List, ◌≢◌, ℕ, ◌+◌, ◌*◌, ◌≤◌, ◌<◌, length, replicate}
use Rattle.std.proofs.Common.{sym, subst, arith}
use Rattle.std.proofs.Math.Option.{some}
use Rattle.std.proofs.lemmas.List.{length-replicate, get_or-replicate}
use Rattle.placing.specs.declared.units.Place.{Place}
use Rattle.placing.specs.declared.units.Side.{Side}
use Rattle.placing.specs.declared.units.Side.TheVariants.{Free}
use Rattle.placing.specs.declared.way.Way.{Way}
use Rattle.placing.specs.declared.way.Way.TheVariants.{Usual, Above}
use Rattle.placing.specs.rules.Units.{site_at, Distinct}
use Rattle.placing.specs.rules.Corner.{Corner}
use Rattle.placing.specs.rules.Label.{Point, Covers, point_of}
use Rattle.placing.specs.rules.Choice.{corner_at, Corners, Upper, UpperCorners, MeetingPair}
use Rattle.placing.specs.rules.Answer.{Answer, judged_at, IsAnswer, IsChosen}
use Rattle.placing.specs.theorems.Choice.{meeting-of}
use Rattle.placing.specs.theorems.CommonPoint.{meet-exactly, covered-meets}
use Rattle.plan.specs.rules.List.{Site, Listed}
use Rattle.plan.specs.rules.Sheet.{side_on, number_on, spots_on}
use Rattle.plan.specs.Demands.{Guarantee, FreeApart, RightSheet, PlacedSheet}

-- The labels of some two of these places, at these corners and the side p/q, cover a common point.
pub record CommonPoint (p q : ℕ) (ps : List Place) (cs : List ℕ) : Type 0 where
  pub first : ℕ
  pub second : ℕ
  pub first_listed : first < length ps
  pub second_listed : second < length ps
  pub different : first ≢ second
  pub point : Point
  pub by_first : Covers p q (site_at ps first) (corner_at cs first) point
  pub by_second : Covers p q (site_at ps second) (corner_at cs second) point

-- Two labels that meet do,
pub meeting-common : {p q : ℕ} {ps : List Place} {cs : List ℕ} → 1 ≤ p → 1 ≤ q → Distinct ps → MeetingPair p q ps cs → CommonPoint p q ps cs
meeting-common {p} {q} some-p some-q places pair =
    let differ = places.distinct pair.first pair.second pair.first_listed pair.second_listed pair.different in
    let common = (meet-exactly p q some-p some-q differ).0 pair.meet in
    record {
      first = pair.first;
      second = pair.second;
      first_listed = pair.first_listed;
      second_listed = pair.second_listed;
      different = pair.different;
      point = common.0;
      by_first = common.1;
      by_second = common.2;
    }

-- and two that cover a common point meet.
common-meeting : {p q : ℕ} {ps : List Place} {cs : List ℕ} → 1 ≤ p → 1 ≤ q → Distinct ps → CommonPoint p q ps cs → MeetingPair p q ps cs
common-meeting {p} {q} some-p some-q places common =
    let differ = places.distinct common.first common.second common.first_listed common.second_listed common.different in
    record {
      first = common.first;
      second = common.second;
      first_listed = common.first_listed;
      second_listed = common.second_listed;
      different = common.different;
      meet = (meet-exactly p q some-p some-q differ).1 (common.point, common.by_first, common.by_second);
    }

-- Corner 1 everywhere is a choice of upper corners.
ones-upper : (n : ℕ) → UpperCorners n (replicate n 1)
ones-upper n =
    record {
      corners = record { one_each = length-replicate n 1; corner = λ i listed. is_one Corner i listed (record { least = omega arith; most = omega arith }) };
      each_upper = λ i listed. is_one Upper i listed (omega arith);
    }
  where
    is_one : (Holds : ℕ → Type 0) (i : ℕ) → i < n → Holds 1 → Holds (corner_at (replicate n 1) i)
    is_one Holds i listed holds = subst Holds (sym (get_or-replicate {A = ℕ} n i 1 0 listed)) holds

-- A sheet that prints a number has two lines or more, since two of them meet at corner 1, at a side that is great enough. What is guaranteed
-- asks nothing of the spots: with a premise on them this would not follow.
pub two-lines : (way : Way) (sheet : List ℕ) (number : ℕ) → Guarantee way sheet → number_on sheet ≡ some number → 2 ≤ length (spots_on sheet)
two-lines way sheet number guarantee printed = two (meeting way guarantee)
  where
    two : {p q : ℕ} {ps : List Place} {cs : List ℕ} → MeetingPair p q ps cs → 2 ≤ length ps
    two pair = omega (arith, pair.first_listed, pair.second_listed, pair.different)

    meeting : (w : Way) → Guarantee w sheet → MeetingPair (2 * number + 1) 1 (spots_on sheet) (replicate (length (spots_on sheet)) 1)
    meeting Usual no_rival =
        no_rival.rivals_meet number (2 * number + 1) 1 printed (omega arith) (omega arith) _ (ones-upper (length (spots_on sheet))).corners
    meeting Above no_rival =
        no_rival.rivals_meet number (2 * number + 1) 1 printed (omega arith) (omega arith) _ (ones-upper (length (spots_on sheet)))

-- A rival of n lines by each way, said a second time so that a guarantee with a premise more is not enough: its side p/q is greater than
-- what the way guarantees of a number h, and these are its corners.
abbrev pub Rival : Way → (h p q n : ℕ) → List ℕ → Type 0
Rival Usual h p q n corners = (2 * h * q < p) × Corners n corners
Rival Above h p q n corners = (h * q < p) × UpperCorners n corners

-- Where a sheet prints free, no two of its own labels cover a common point, at whatever side: so over a right sheet,
free-common : {sheet corners : List ℕ} → FreeApart sheet corners → Distinct (spots_on sheet) → side_on sheet ≡ some Free → (p q : ℕ)
    → 1 ≤ p → 1 ≤ q → CommonPoint p q (spots_on sheet) corners → ⊥
free-common apart spots printed p q some-p some-q common = apart.none_meet printed p q (common-meeting some-p some-q spots common)

pub right-free-common : {way : Way} {sites : List Site} {sheet : List ℕ} → Listed sites → (right : RightSheet way sites sheet)
    → side_on sheet ≡ some Free → (p q : ℕ) → 1 ≤ p → 1 ≤ q → CommonPoint p q (spots_on sheet) right.answer.corners → ⊥
right-free-common listed right = free-common right.free_apart (rw right.spots listed.places_distinct)

-- and over one that was placed at free.
pub placed-free-common : {way : Way} {sites : List Site} {side : Side} {sheet : List ℕ} → Listed sites
    → (placed : PlacedSheet way sites side sheet) → side_on sheet ≡ some Free → (p q : ℕ) → 1 ≤ p → 1 ≤ q
    → CommonPoint p q (spots_on sheet) placed.corners → ⊥
placed-free-common listed placed = free-common placed.free_apart (rw placed.spots listed.places_distinct)

-- Nor does one of its labels cover the spot of another line, at whatever side.
pub free-covers-no-spot : {sheet corners : List ℕ} → FreeApart sheet corners → side_on sheet ≡ some Free → (p q i j : ℕ)
    → i < length (spots_on sheet) → j < length (spots_on sheet) → i ≢ j
    → Covers p q (site_at (spots_on sheet) i) (corner_at corners i) (point_of (site_at (spots_on sheet) j)) → ⊥
free-covers-no-spot apart printed p q i j listed other differ covers =
    apart.none_meet printed p q (meeting-of i j listed other differ (covered-meets _ covers _))

-- The condition is that the side on the first line is the one found for the spots below it, and nothing more: with a field more in
-- `PrintsFound` this would not be enough.
pub placed-right : {way : Way} {sites : List Site} {side : Side} {sheet : List ℕ} → PlacedSheet way sites side sheet → {found : Answer}
    → IsAnswer way (spots_on sheet) found → side_on sheet ≡ some found.side → RightSheet way sites sheet
placed-right placed {found} is printed = placed.right_at_found (record { found = found; is_answer = is; printed = printed })

-- The corners on a sheet are the first good choice for the spots that are read off it.
pub placed-on-spots : {way : Way} {sites : List Site} {side : Side} {sheet : List ℕ} (placed : PlacedSheet way sites side sheet)
    → IsChosen way (spots_on sheet) (record { side = side; corners = placed.corners })
placed-on-spots placed = rw placed.spots placed.is_chosen

-- So no label on it covers the spot of another line, at the side that it was placed at.
pub covers-no-spot : {way : Way} {sites : List Site} {side : Side} {sheet : List ℕ} (placed : PlacedSheet way sites side sheet) (i j : ℕ)
    → i < length (spots_on sheet) → j < length (spots_on sheet) → i ≢ j
    → Covers (judged_at side) 1 (site_at (spots_on sheet) i) (corner_at placed.corners i) (point_of (site_at (spots_on sheet) j)) → ⊥
covers-no-spot placed i j listed other differ covers =
    (placed-on-spots placed).first.good.apart (meeting-of i j listed other differ (covered-meets _ covers _))
