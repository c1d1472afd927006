-- What finding the side of a list of places asks, and choosing at one.
-- Assumes nothing.
use Rattle.std.specs.Prelude.{◌≡◌, List, ℕ, ◌*◌, ◌≤◌, length, take}
use Rattle.std.proofs.Common.{mul-le-mul_right, arith, length-take}
use Rattle.placing.specs.declared.crowding.Crowding.{Crowding}
use Rattle.placing.specs.declared.labels.Labels.{Labels}
use Rattle.placing.specs.declared.units.HalfUnits.{HalfUnits}
use Rattle.placing.specs.declared.units.Place.{Place}
use Rattle.placing.specs.rules.Units.{free_side, Distinct}
use Rattle.placing.specs.calls.Placing.{MayPlace}
use Rattle.placing.specs.code.Asks.{MayChooseAt}
use Rattle.placing.specs.code.Sites.{Held}
use Rattle.placing.specs.code.Crowding.{judged_free, CrowdingIs}
use Rattle.placing.specs.code.Labels.{count_of}

-- Finding the side of these sites.
pub record MayFind (sites : List Place) (marks : List ℕ) : Type 0 where
  pub held : Held sites judged_free
  pub distinct : Distinct sites
  pub room : length marks ≡ length sites

-- Bisecting, with the reaches and the top known.
pub record MayBisect (labels : Labels) (crowding : Crowding) (marks : List ℕ) : Type 0 where
  pub distinct : Distinct labels.sites.now
  pub room : length marks ≡ count_of labels
  pub crowding_is : CrowdingIs labels.way free_side labels.sites.now crowding

-- Finding asks all that choosing does, which is at a judged side by its labels' type.
pub may-choose : {labels : Labels} {marks : List ℕ} → MayFind labels.sites.now marks → MayChooseAt labels marks
may-choose may = record { distinct = may.distinct; room = may.room }

-- A list that may be placed is held, at every judged side,
pub held-place : {sites : List Place} {table : List ℕ} → MayPlace sites table → (side : HalfUnits) → side.0 ≤ free_side → Held sites side
held-place may side judged = record { few = may.few; in_range = may.in_range; judged = judged }

-- and the front of its lent table has a mark for each site.
pub marks-room : {sites : List Place} {table : List ℕ} → MayPlace sites table → length (take (length sites) table) ≡ length sites
marks-room {sites} {table} may =
    let wide : 1 * length sites ≤ length sites * length sites = mul-le-mul_right (length sites) may.some_sites in
    omega (arith, may.room, length-take {A = ℕ})

-- So finding is asked no more than placing.
pub may-find : {sites : List Place} {table : List ℕ} → MayPlace sites table → MayFind sites (take (length sites) table)
may-find may = record { held = held-place may judged_free (omega arith); distinct = may.distinct; room = marks-room may }
