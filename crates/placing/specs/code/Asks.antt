-- What the functions of a trial ask of their callers, each as one record. That the labels are held, their labels type says.
-- Assumes nothing.
use Rattle.std.specs.Prelude.{◌≡◌, List, ◌≢◌, ℕ, ◌≤◌, ◌<◌, length}
use Rattle.placing.specs.declared.corner.Directions.{Directions}
use Rattle.placing.specs.declared.crowding.Crowding.{Crowding}
use Rattle.placing.specs.declared.fresh.State.{State}
use Rattle.placing.specs.declared.geometry.Label.{Label}
use Rattle.placing.specs.declared.labels.Labels.{Labels}
use Rattle.placing.specs.rules.Units.{most_sites, Distinct, site_at}
use Rattle.placing.specs.rules.Corner.{Corner, directions_of}
use Rattle.placing.specs.rules.Choice.{corner_at}
use Rattle.placing.specs.code.Crowding.{ReachesAre}
use Rattle.placing.specs.search.Rows.{row_of}
use Rattle.placing.specs.search.State.{Underway, Closed, Walked}
use Rattle.placing.specs.code.Labels.{LookedAt, count_of, problem_of, MeetIn}
use Rattle.placing.specs.code.Steps.{Done, label_at, Settled, AllSettled, Waits}

-- The open corners of site j whose labels meet the one at corner c of site k are looked at.
pub record MetLooked (labels : Labels) (opens : List ℕ) (k c j : ℕ) : Type 0 where
  pub looked : (e : ℕ) → row_of opens j e ≡ 1 → MeetIn labels k c j e → LookedAt labels.way c e

-- Of the open corners of site j none has a label that meets the one at corner c of site k.
pub record NoneMeets (labels : Labels) (opens : List ℕ) (k c j : ℕ) : Type 0 where
  pub apart : (e : ℕ) → row_of opens j e ≡ 1 → MeetIn labels k c j e → ⊥

-- Carrying the decision of site k, whose label is `label`, to corner e of site j.
pub record MayCarryTo (labels : Labels) (state : State) (k : ℕ) (label : Label) (j e : ℕ) (toward : Directions) : Type 0 where
  pub from : k < count_of labels
  pub to : j < count_of labels
  pub corner : Corner e
  pub label_is : label ≡ label_at (site_at labels.sites.now k) (corner_at state.decided k)
  pub toward_is : toward ≡ directions_of e
  pub settled : Settled state j

-- Carrying the decision of site k to the others. It closes no corner of a site below `from`.
pub record MayCarry (labels : Labels) (state : State) (k from : ℕ) : Type 0 where
  pub listed : k < count_of labels
  pub corner : Corner (corner_at state.decided k)
  pub settled : AllSettled (count_of labels) state
  pub inside : from ≤ count_of labels
  pub apart_below : (j : ℕ) → j < from → j ≢ k → NoneMeets labels state.opens k (corner_at state.decided k) j

-- Carrying it to corner e of the others.
pub record MayCarryCorner (labels : Labels) (state : State) (k e from : ℕ) : Type 0 where
  pub carrying : MayCarry labels state k from
  pub corner : Corner e

-- Carrying it out, by the way.
pub record MayCarryOut (labels : Labels) (state : State) (k from : ℕ) : Type 0 where
  pub carrying : MayCarry labels state k from
  pub met_looked : (j : ℕ) → j < count_of labels → j ≢ k → MetLooked labels state.opens k (corner_at state.decided k) j

-- Looking for the first site that waits. Below `from` none does.
pub record MayLook (state : State) (marks : List ℕ) (from : ℕ) : Type 0 where
  pub few : length marks ≤ most_sites
  pub inside : from ≤ length marks
  pub none_below : (j : ℕ) → j < from → Waits state marks j → ⊥

-- Carrying out all decisions that are not marked. Those of the sites below `from` are.
pub record MayCarryOn (labels : Labels) (state : State) (marks : List ℕ) (from : ℕ) : Type 0 where
  pub room : length marks ≡ count_of labels
  pub underway : Underway (problem_of labels) state.opens state.decided (Done marks)
  pub inside : from ≤ count_of labels
  pub marked_below : (j : ℕ) → j < from → Done marks j

-- Trying corner c of site i, with all sites below it decided.
pub record MayTry (labels : Labels) (state : State) (marks : List ℕ) (i c : ℕ) : Type 0 where
  pub room : length marks ≡ count_of labels
  pub listed : i < count_of labels
  pub corner : Corner c
  pub closed : Closed (problem_of labels) state.opens state.decided
  pub decided_below : (j : ℕ) → j < i → corner_at state.decided j ≢ 0
  pub undecided : corner_at state.decided i ≡ 0
  pub is_open : row_of state.opens i c ≡ 1

-- Walking on from site i.
pub record MayWalk (labels : Labels) (state : State) (marks : List ℕ) (i : ℕ) : Type 0 where
  pub room : length marks ≡ count_of labels
  pub walked : Walked (problem_of labels) i state.opens state.decided

-- Deciding site i, to which the walk has come.
pub record MayDecide (labels : Labels) (state : State) (marks : List ℕ) (i : ℕ) : Type 0 where
  pub walking : MayWalk labels state marks i
  pub listed : i < count_of labels
  pub undecided : corner_at state.decided i ≡ 0

-- Choosing at a side up to the top.
pub record MayChoose (labels : Labels) (crowding : Crowding) (marks : List ℕ) : Type 0 where
  pub room : length marks ≡ count_of labels
  pub reaches : ReachesAre labels.way labels.sites.now crowding
  pub least : 1 ≤ labels.side.0
  pub inside : labels.side.0 ≤ crowding.top.0

-- Choosing at a side, with nothing prepared.
pub record MayChooseAt (labels : Labels) (marks : List ℕ) : Type 0 where
  pub distinct : Distinct labels.sites.now
  pub room : length marks ≡ count_of labels
