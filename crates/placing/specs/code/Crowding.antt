-- The reaches of all sites, in one array, and the top: no judged side above it leaves every site a corner.
-- Assumes nothing.
use Rattle.std.specs.Prelude.{◌≡◌, List, ℕ, ◌+◌, ◌-◌, ◌*◌, ◌/◌, ◌%◌, ◌≤◌, ◌<◌, max, length, get_or, replicate}
use Rattle.std.proofs.Common.{le_trans, arith, below_more}
use Rattle.std.proofs.Math.Decide.{dec_le}
use Rattle.placing.specs.declared.crowding.Crowding.{Crowding}
use Rattle.placing.specs.declared.units.HalfUnits.{HalfUnits}
use Rattle.placing.specs.declared.units.Place.{Place}
use Rattle.placing.specs.declared.way.Way.{Way}
use Rattle.placing.specs.declared.way.Way.TheVariants.{Usual, Above}
use Rattle.placing.specs.rules.Units.{most_sites, free_side}
use Rattle.placing.specs.rules.Corner.{Corner}
use Rattle.placing.specs.rules.Choice.{corner_at, Allowed, uncrowded, upper, Good}
use Rattle.placing.specs.deciding.Tests.{not-crowded, is-upper}
use Rattle.placing.specs.search.Rows.{index_of}
use Rattle.placing.specs.code.Filled.{Filled, filled_front}
use Rattle.placing.specs.code.Reach.{ReachIs}
use Rattle.placing.specs.code.Pairs.{reach_at, RowsBelow, ReachesOver, over-lower, over_none, over-rows}

-- The side at which free is judged, as the code has it.
abbrev pub judged_free : HalfUnits
judged_free = record { 0 = free_side }

-- No side from this one up to `most` has a good choice.
pub record NoneFrom (way : Way) (most : ℕ) (ps : List Place) (side : ℕ) : Type 0 where
  pub none_good : (h : ℕ) → h ≤ most → side ≤ h → (es : List ℕ) → Good way h ps es → ⊥

-- For sides up to the top, corner c of site i is allowed exactly where the doubled side is within the reach r.
pub record AllowedWithin (way : Way) (ps : List Place) (top i c r : ℕ) : Type 0 where
  pub allows : (h : ℕ) → 1 ≤ h → h ≤ top → 2 * h ≤ r → Allowed way h ps i c
  pub shuts : (h : ℕ) → h ≤ top → r < 2 * h → Allowed way h ps i c → ⊥

-- By the usual way that is how far it reaches before it is crowded.
reach-allows : {ps : List Place} {top i c r : ℕ} → ReachIs ps top i c r → AllowedWithin Usual ps top i c r
reach-allows reach =
    record {
      allows = λ h least inside within. uncrowded (λ crowded. let passed = reach.below h inside crowded in omega arith);
      shuts = λ h inside passed allowed. not-crowded allowed (reach.crowds h inside passed);
    }

-- The array has the reaches of the sites for sides up to the top.
pub record ReachesAre (way : Way) (ps : List Place) (crowding : Crowding) : Type 0 where
  pub at_corner : (i c : ℕ) → i < length ps → Corner c → AllowedWithin way ps crowding.top.0 i c (reach_at crowding.reaches i c)

-- It has, and above the top no side up to `most` has a good choice.
pub record CrowdingIs (way : Way) (most : ℕ) (ps : List Place) (crowding : Crowding) : Type 0 where
  pub judged : crowding.top.0 ≤ most
  pub reaches : ReachesAre way ps crowding
  pub none_above : NoneFrom way most ps (crowding.top.0 + 1)

-- None of the first e reaches of site i is further than this.
pub record FurthestOf (reaches : List ℕ) (i e furthest : ℕ) : Type 0 where
  pub reached : (k : ℕ) → k < e → get_or reaches (4 * i + k) 0 ≤ furthest

-- Of none it is 0,
pub furthest-none : {reaches : List ℕ} {i : ℕ} → FurthestOf reaches i 0 0
furthest-none = record { reached = λ k none. absurd (omega arith) }

-- and of one more the larger.
pub furthest-more : {reaches : List ℕ} {i e furthest : ℕ} → FurthestOf reaches i e furthest
    → FurthestOf reaches i (e + 1) (max furthest (get_or reaches (4 * i + e) 0))
furthest-more {reaches} {i} {e} {furthest} so_far =
    record { reached = below_more _ e (λ k below. let reach = so_far.reached k below in omega arith) (omega arith) }

-- The top that site i leaves: no side above it up to the former one leaves the site a corner.
pub record TopLeft (reaches : List ℕ) (i top left : ℕ) : Type 0 where
  pub falls : left ≤ top
  pub beyond : (h : ℕ) → left < h → h ≤ top → (c : ℕ) → Corner c → reach_at reaches i c < 2 * h

-- It is half the furthest of the four reaches,
pub top-half : {reaches : List ℕ} {i top furthest left : ℕ} → FurthestOf reaches i 4 furthest → left ≡ furthest / 2 → left ≤ top
    → TopLeft reaches i top left
top-half of-all half falls =
    record {
      falls = falls;
      beyond = λ h above inside c corner. let reach = of-all.reached (c - 1) (omega arith) in omega arith;
    }

-- or the former one.
pub top-same : {reaches : List ℕ} {i top : ℕ} → TopLeft reaches i top top
top-same = record { falls = omega arith; beyond = λ h above inside. absurd (omega arith) }

-- Above what a site leaves there is no good choice.
none-beyond : {ps : List Place} {most top left i : ℕ} {Over : ℕ → ℕ → Type 0} {reaches : List ℕ} → i < length ps
    → ReachesOver ps top Over reaches → TopLeft reaches i top left → NoneFrom Usual most ps (top + 1) → NoneFrom Usual most ps (left + 1)
none-beyond {ps} {most} {top} {left} {i} listed over leaves none =
    record { none_good = λ h judged above es good. go h judged above es good (dec_le h top) }
  where
    go : (h : ℕ) → h ≤ most → left + 1 ≤ h → (es : List ℕ) → Good Usual h ps es → Dec (h ≤ top) → ⊥
    go h judged above es good (yes inside) =
        let c = corner_at es i in
        let corner = good.corners.corner i listed in
        not-crowded (good.allowed i listed)
        ((over.at_corner i c listed corner).crowds h inside (leaves.beyond h (omega arith) inside c corner))
    go h judged above es good (no outside) = none.none_good h judged (omega arith) es good

-- The reaches over the rows below i, with the top that these sites leave.
pub record CrowdingOver (most : ℕ) (ps : List Place) (i : ℕ) (reaches : List ℕ) (top : ℕ) : Type 0 where
  pub judged : top ≤ most
  pub over : ReachesOver ps top (RowsBelow i) reaches
  pub none_above : NoneFrom Usual most ps (top + 1)

-- Over no rows they are twice `most`, which is the top ..
pub crowding-none : {most : ℕ} {ps : List Place} (furthest : ℕ) → furthest ≡ 2 * most → length ps ≤ most_sites
    → CrowdingOver most ps 0 (replicate (4 * most_sites) furthest) most
crowding-none furthest double few =
    record {
      judged = omega arith;
      over = over_none furthest double few;
      none_above = record { none_good = λ h judged above. absurd (omega arith) };
    }

-- .. and over one row more the top falls.
pub crowding-more : {most : ℕ} {ps : List Place} {i top left : ℕ} {before after : List ℕ} → i < length ps
    → CrowdingOver most ps i before top → ReachesOver ps top (RowsBelow (i + 1)) after → TopLeft after i top left
    → CrowdingOver most ps (i + 1) after left
crowding-more listed so_far over leaves =
    record {
      judged = le_trans leaves.falls so_far.judged;
      over = over-lower leaves.falls over;
      none_above = none-beyond listed over leaves so_far.none_above;
    }

-- Over all rows they are the list's.
pub crowding-all : {most : ℕ} {ps : List Place} {k : ℕ} {reaches : List ℕ} (top : HalfUnits) → length ps ≤ k
    → CrowdingOver most ps k reaches top.0 → CrowdingIs Usual most ps (record { reaches = reaches; top = top })
crowding-all top all so_far =
    record {
      judged = so_far.judged;
      reaches = record { at_corner = λ i c listed corner. reach-allows (over-rows all so_far.over i c listed corner) };
      none_above = so_far.none_above;
    }

-- ---- above the spot

-- The reach of the corner at a place of the array: as far as can be for corners 1 and 2, nothing for 3 and 4.
pub record UpperReach (furthest at reach : ℕ) : Type 0 where
  pub at_upper : at % 4 < 2 → reach ≡ furthest
  pub at_lower : 2 ≤ at % 4 → reach ≡ 0

-- The first k reaches are written, over a list of zeros.
abbrev pub UpperBelow : (furthest k : ℕ) → List ℕ → Type 0
UpperBelow furthest k reaches = Filled 0 (UpperReach furthest) 0 k (replicate (4 * most_sites) 0) reaches

-- With all of them written, corners 1 and 2 are allowed at every side up to `most`, which is the top.
pub crowding-above : {n furthest k : ℕ} {reaches : List ℕ} (most : HalfUnits) → furthest ≡ 2 * most.0 → 4 * n ≤ k
    → UpperBelow furthest k reaches → (ps : List Place) → length ps ≡ n → CrowdingIs Above most.0 ps (record { reaches = reaches; top = most })
crowding-above {n} {furthest} {k} {reaches} most double all filled ps count =
    record {
      judged = omega arith;
      reaches = record { at_corner = λ i c listed corner. within i c corner (filled_front filled (index_of i c) (omega arith)) (dec_le c 2) };
      none_above = record { none_good = λ h judged above. absurd (omega arith) };
    }
  where
    within : (i c : ℕ) → Corner c → UpperReach furthest (index_of i c) (reach_at reaches i c) → Dec (c ≤ 2)
        → AllowedWithin Above ps most.0 i c (reach_at reaches i c)
    within i c corner reach (yes low) =
        let far : reach_at reaches i c ≡ furthest = reach.at_upper (omega arith) in
        record { allows = λ h least inside reached. upper low; shuts = λ h inside passed. absurd (omega arith) }
    within i c corner reach (no high) =
        let none : reach_at reaches i c ≡ 0 = reach.at_lower (omega arith) in
        record { allows = λ h least inside reached. absurd (omega arith); shuts = λ h inside passed allowed. high (is-upper allowed) }
