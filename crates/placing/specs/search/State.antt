-- The state of a search for a solution, as two lists: `opens` has four bytes for each site, 1 where the corner is open, and
-- `decided` has the decided corner of each site, 0 for none.
-- Assumes nothing.
use Rattle.std.specs.Prelude.{◌≡◌, List, ◌≢◌, ◌⊎◌, ℕ, ◌<◌}
use Rattle.placing.specs.rules.Choice.{corner_at}
use Rattle.placing.specs.search.Problem.{Problem, Solution}
use Rattle.placing.specs.search.Rows.{row_of}

-- Two different corners are open, by the bytes of a row.
pub record SomeOpen (row : ℕ → ℕ) : Type 0 where
  pub one : ℕ
  pub two : ℕ
  pub differ : one ≢ two
  pub one_open : row one ≡ 1
  pub two_open : row two ≡ 1

-- Two different corners of site i are open.
abbrev pub TwoOpen : List ℕ → ℕ → Type 0
TwoOpen opens i = SomeOpen (row_of opens i)

-- Corner c of site i conflicts with the decided corner of some other site.
pub record ClosedBy (P : Problem) (decided : List ℕ) (i c : ℕ) : Type 0 where
  pub by : ℕ
  pub listed : by < P.n
  pub different : by ≢ i
  pub is_decided : corner_at decided by ≢ 0
  pub conflict : P.Conflict by (corner_at decided by) i c

-- A search under way. Open corners are candidates, and of a decided site the decided corner alone is open. A closed candidate of an
-- undecided site is closed by a decision, and then two others are open. The decisions of the sites that are done have been carried
-- out: every corner that they conflict with is closed.
pub record Underway (P : Problem) (opens decided : List ℕ) (Done : ℕ → Type 0) : Type 0 where
  pub candidate : (i c : ℕ) → i < P.n → row_of opens i c ≡ 1 → P.Candidate i c
  pub decided_open : (i : ℕ) → i < P.n → corner_at decided i ≢ 0 → row_of opens i (corner_at decided i) ≡ 1
  pub decided_alone : (i c : ℕ) → i < P.n → corner_at decided i ≢ 0 → row_of opens i c ≡ 1 → c ≡ corner_at decided i
  pub closed_by : (i c : ℕ) → i < P.n → corner_at decided i ≡ 0 → P.Candidate i c → row_of opens i c ≢ 1 → ClosedBy P decided i c
  pub two_left : (i c : ℕ) → i < P.n → corner_at decided i ≡ 0 → P.Candidate i c → row_of opens i c ≢ 1 → TwoOpen opens i
  pub done_decided : (i : ℕ) → i < P.n → Done i → corner_at decided i ≢ 0
  pub apart : (i j e : ℕ) → i < P.n → j < P.n → i ≢ j → Done i → row_of opens j e ≡ 1 → P.Conflict i (corner_at decided i) j e → ⊥

-- Every decision has been carried out.
abbrev pub Closed : (P : Problem) (opens decided : List ℕ) → Type 0
Closed P opens decided = Underway P opens decided (λ i. corner_at decided i ≢ 0)

-- Every corner of cs is open.
pub record Follows (P : Problem) (opens cs : List ℕ) : Type 0 where
  pub follows : (j : ℕ) → j < P.n → row_of opens j (corner_at cs j) ≡ 1

-- No solution whose corners are all open has corner c at site i.
pub record Refused (P : Problem) (opens : List ℕ) (i c : ℕ) : Type 0 where
  pub refused : (cs : List ℕ) → Solution P cs → Follows P opens cs → corner_at cs i ≡ c → ⊥

-- How a trial starts: corner c of site i is decided, which closes the site's other corners.
pub record Took (P : Problem) (opens decided : List ℕ) (i c : ℕ) (opens' decided' : List ℕ) : Type 0 where
  pub takes : corner_at decided' i ≡ c
  pub is_open : row_of opens' i c ≡ 1
  pub alone : (e : ℕ) → row_of opens' i e ≡ 1 → e ≡ c
  pub others_open : (j e : ℕ) → j < P.n → j ≢ i → row_of opens' j e ≡ row_of opens j e
  pub others_decided : (j : ℕ) → j < P.n → j ≢ i → corner_at decided' j ≡ corner_at decided j

-- The corners that are looked at when a decision is carried out: one corner, or every one.
abbrev pub Only : ℕ → ℕ → Type 0
Only c e = e ≡ c

abbrev pub Every : ℕ → Type 0
Every e = Unit {0}

-- What carrying out the decision of site k does to another site j, over the corners looked at: those in conflict close, a site left with
-- one corner is decided, and a site left with none does not occur.
pub record CarriedTo (P : Problem) (Looked : ℕ → Type 0) (opens decided : List ℕ) (k j : ℕ) (opens' decided' : List ℕ) : Type 0 where
  pub closes : (e : ℕ) → row_of opens' j e ≡ 1 → row_of opens j e ≡ 1
  pub apart : (e : ℕ) → Looked e → row_of opens' j e ≡ 1 → P.Conflict k (corner_at decided k) j e → ⊥
  pub keeps : (e : ℕ) → row_of opens j e ≡ 1 → (row_of opens' j e ≡ 1) ⊎ P.Conflict k (corner_at decided k) j e
  pub stays_decided : corner_at decided j ≢ 0 → corner_at decided' j ≡ corner_at decided j
  pub stays_open : corner_at decided j ≢ 0 → row_of opens' j (corner_at decided j) ≡ 1
  pub decides_open : corner_at decided j ≡ 0 → corner_at decided' j ≢ 0 → row_of opens' j (corner_at decided' j) ≡ 1
  pub decides_alone : (e : ℕ) → corner_at decided j ≡ 0 → corner_at decided' j ≢ 0 → row_of opens' j e ≡ 1 → e ≡ corner_at decided' j
  pub two_left : (e : ℕ) → corner_at decided' j ≡ 0 → row_of opens j e ≡ 1 → row_of opens' j e ≢ 1 → TwoOpen opens' j

-- What carrying out the decision of site k does to all sites.
pub record Carried (P : Problem) (Looked : ℕ → Type 0) (opens decided : List ℕ) (k : ℕ) (opens' decided' : List ℕ) : Type 0 where
  pub others : (j : ℕ) → j < P.n → j ≢ k → CarriedTo P Looked opens decided k j opens' decided'
  pub own_open : (e : ℕ) → row_of opens' k e ≡ row_of opens k e
  pub own_decided : corner_at decided' k ≡ corner_at decided k

-- Site j is left with no open corner when the decision of site k is carried out.
pub record Stuck (P : Problem) (opens decided : List ℕ) (k : ℕ) : Type 0 where
  pub site : ℕ
  pub listed : site < P.n
  pub different : site ≢ k
  pub all_conflict : (e : ℕ) → row_of opens site e ≡ 1 → P.Conflict k (corner_at decided k) site e

-- A later state of a search: decisions stay, and a solution that follows the earlier state and has corner c at site i
-- follows the later one.
pub record Later (P : Problem) (opens decided : List ℕ) (i c : ℕ) (opens' decided' : List ℕ) : Type 0 where
  pub takes : corner_at decided' i ≡ c
  pub stays : (j : ℕ) → j < P.n → corner_at decided j ≢ 0 → corner_at decided' j ≡ corner_at decided j
  pub follows : (cs : List ℕ) → Solution P cs → Follows P opens cs → corner_at cs i ≡ c → Follows P opens' cs

-- The solution cs has, at the first site where it differs from the decisions, the greater corner, and that site is below i.
pub record Greater (decided : List ℕ) (i : ℕ) (cs : List ℕ) : Type 0 where
  pub at : ℕ
  pub below : at < i
  pub same : (m : ℕ) → m < at → corner_at cs m ≡ corner_at decided m
  pub greater : corner_at decided at < corner_at cs at

-- The walk in list order has come to site i: all sites below it are decided, and every solution either follows the state or
-- comes later in list order.
pub record Walked (P : Problem) (i : ℕ) (opens decided : List ℕ) : Type 0 where
  pub closed : Closed P opens decided
  pub all_decided : (j : ℕ) → j < i → j < P.n → corner_at decided j ≢ 0
  pub first : (cs : List ℕ) → Solution P cs → Follows P opens cs ⊎ Greater decided i cs

-- How the walk starts: exactly the candidates are open, nothing is decided.
pub record Fresh (P : Problem) (opens decided : List ℕ) : Type 0 where
  pub candidate : (i c : ℕ) → i < P.n → row_of opens i c ≡ 1 → P.Candidate i c
  pub all_open : (i c : ℕ) → i < P.n → P.Candidate i c → row_of opens i c ≡ 1
  pub undecided : (i : ℕ) → i < P.n → corner_at decided i ≡ 0
