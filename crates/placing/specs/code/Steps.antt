-- The state of a search as a trial holds it: 960 bytes, four for each site, 1 where the corner is open, and 240 bytes with the
-- decided corners, 0 for none. What one step of the code does to them, for the laws of specs/search/Trial and specs/search/Walk to use.
-- Assumes nothing.
use Rattle.std.specs.Prelude.{◌≡◌, refl, Bool, true, false, Option, Some, None, List, ◌≢◌, ◌⊎◌, ℕ, zero, suc, ◌+◌, ◌≤◌, ◌<◌, get_or}
use Rattle.std.proofs.Math.Decide.{dec_le}
use Rattle.std.proofs.Common.{arith}
use Rattle.placing.specs.declared.fresh.State.{State}
use Rattle.placing.specs.declared.geometry.Label.{Label}
use Rattle.placing.specs.declared.labels.Labels.{Labels}
use Rattle.placing.specs.declared.trial.Left.{Left}
use Rattle.placing.specs.declared.trial.Left.TheVariants.{Nothing, One, More}
use Rattle.placing.specs.declared.units.Place.{Place}
use Rattle.placing.specs.rules.Units.{site_at}
use Rattle.placing.specs.rules.Corner.{directions_of}
use Rattle.placing.specs.rules.Label.{Meet}
use Rattle.placing.specs.rules.Choice.{corner_at}
use Rattle.placing.specs.search.Problem.{Problem, Solution}
use Rattle.placing.specs.search.Rows.{row_of, row_zero, open-corner}
use Rattle.placing.specs.search.State.{SomeOpen, CarriedTo, Carried, Stuck, Closed, Later, Refused, Walked}

-- Corner c alone is open, by the bytes of a row.
pub record Lone (row : ℕ → ℕ) (c : ℕ) : Type 0 where
  pub is_open : row c ≡ 1
  pub alone : (e : ℕ) → row e ≡ 1 → e ≡ c

-- No corner is open.
pub record NoneOpen (row : ℕ → ℕ) : Type 0 where
  pub none_open : (e : ℕ) → row e ≡ 1 → ⊥

-- What the count of a site's open corners says.
abbrev pub LeftIs : Left → (ℕ → ℕ) → Type 0
LeftIs Nothing row = NoneOpen row
LeftIs (One c) row = Lone row c
LeftIs More row = SomeOpen row

-- The count with one open corner more.
abbrev pub one_more : Left → ℕ → Left
one_more Nothing c = One c
one_more (One e) c = More
one_more More c = More

-- The count of the open corners up to e.
pub data LeftUpTo (row : ℕ → ℕ) (e : ℕ) : Left → Type 0 where
  nothing : ((k : ℕ) → k ≤ e → row k ≡ 1 → ⊥) → LeftUpTo row e Nothing
  one : {c : ℕ} → c ≤ e → row c ≡ 1 → ((k : ℕ) → k ≤ e → row k ≡ 1 → k ≡ c) → LeftUpTo row e (One c)
  more : SomeOpen row → LeftUpTo row e More

-- What holds of every number up to e, and of e + 1, holds of every number up to e + 1.
pub up-to-more : (Q : ℕ → Type 0) (e : ℕ) → ((k : ℕ) → k ≤ e → Q k) → Q (e + 1) → (k : ℕ) → k ≤ e + 1 → Q k
up-to-more Q e before next k inside = from (dec_le k e)
  where
    from : Dec (k ≤ e) → Q k
    from (yes below) = before k below
    from (no above) = let last : k ≡ e + 1 = omega arith in rw last next

-- It starts with nothing: there is no corner 0.
pub left-none : (opens : List ℕ) (j : ℕ) → LeftUpTo (row_of opens j) 0 Nothing
left-none opens j =
    nothing (λ k none is_open. let zeroth : k ≡ 0 = omega arith in omega (arith, row_zero opens j, rw zeroth at is_open))

-- An open corner makes one more,
pub left_open : {row : ℕ → ℕ} {e : ℕ} {left : Left} → LeftUpTo row e left → row (e + 1) ≡ 1 → LeftUpTo row (e + 1) (one_more left (e + 1))
left_open {row} {e} (nothing none) is_open =
    one {c = e + 1} (omega arith) is_open (up-to-more (λ k. row k ≡ 1 → k ≡ e + 1) e (λ k below o. absurd (none k below o)) (λ o. refl))
left_open {row} {e} (one {c} inside was-open alone) is_open =
    more (record { one = c; two = e + 1; differ = omega arith; one_open = was-open; two_open = is_open })
left_open (more some) is_open = more some

-- and any other leaves the count.
pub left-shut : {row : ℕ → ℕ} {e : ℕ} {left : Left} → LeftUpTo row e left → row (e + 1) ≢ 1 → LeftUpTo row (e + 1) left
left-shut {row} {e} (nothing none) shut = nothing (up-to-more (λ k. row k ≡ 1 → ⊥) e none shut)
left-shut {row} {e} (one {c} inside was-open alone) shut =
    one {c = c} (omega arith) was-open (up-to-more (λ k. row k ≡ 1 → k ≡ c) e alone (λ o. absurd (shut o)))
left-shut (more some) shut = more some

-- Up to 4 all corners are counted.
pub left-all : (opens : List ℕ) (j : ℕ) {left : Left} → LeftUpTo (row_of opens j) 4 left → LeftIs left (row_of opens j)
left-all opens j (nothing none) = record { none_open = λ e o. none e (open-corner opens j e o).most o }
left-all opens j (one inside is_open alone) = record { is_open = is_open; alone = λ e o. alone e (open-corner opens j e o).most o }
left-all opens j (more some) = some

-- Corner c of site i was taken: it alone is open, and decided.
pub record TakenCorner (state : State) (i c : ℕ) (state' : State) : Type 0 where
  pub lone : Lone (row_of state'.opens i) c
  pub takes : corner_at state'.decided i ≡ c
  pub elsewhere : (j : ℕ) → j ≢ i → row_of state'.opens j ≡ row_of state.opens j
  pub decided_elsewhere : (j : ℕ) → j ≢ i → corner_at state'.decided j ≡ corner_at state.decided j

-- Corner c of site j was closed, and the site decided if one corner is left.
pub record ClosedCorner (state : State) (j c : ℕ) (ok : Bool) (state' : State) : Type 0 where
  pub shut : row_of state'.opens j c ≢ 1
  pub kept : (e : ℕ) → e ≢ c → row_of state'.opens j e ≡ row_of state.opens j e
  pub elsewhere : (i : ℕ) → i ≢ j → row_of state'.opens i ≡ row_of state.opens i
  pub decided_elsewhere : (i : ℕ) → i ≢ j → corner_at state'.decided i ≡ corner_at state.decided i
  pub none_left : ok ≡ false → NoneOpen (row_of state'.opens j)
  pub some_left : ok ≡ true
      → Lone (row_of state'.opens j) (corner_at state'.decided j) ⊎ (SomeOpen (row_of state'.opens j) × (corner_at state'.decided j ≡ corner_at state.decided j))

-- Where site j is decided, its decided corner alone is open.
pub record Settled (state : State) (j : ℕ) : Type 0 where
  pub settled : corner_at state.decided j ≢ 0 → Lone (row_of state.opens j) (corner_at state.decided j)

-- The same of every site.
pub record AllSettled (n : ℕ) (state : State) : Type 0 where
  pub all_settled : (j : ℕ) → j < n → Settled state j

-- The label at corner c of a site, as the code has it.
abbrev pub label_at : Place → ℕ → Label
label_at s c = record { site = s; toward = directions_of c }

-- The labels of two sites at corners c and e meet.
pub record Clash (labels : Labels) (k c j e : ℕ) : Type 0 where
  pub different : j ≢ k
  pub meets : Meet labels.side.0 1 (site_at labels.sites.now k) c (site_at labels.sites.now j) e

-- The decision of site k was carried to site j. Where j is k, nothing is to be done.
pub record CarriedThere (P : Problem) (Looked : ℕ → Type 0) (state : State) (k j : ℕ) (ok : Bool) (state' : State) : Type 0 where
  pub elsewhere : (i : ℕ) → i ≢ j → row_of state'.opens i ≡ row_of state.opens i
  pub decided_elsewhere : (i : ℕ) → i ≢ j → corner_at state'.decided i ≡ corner_at state.decided i
  pub own : row_of state'.opens k ≡ row_of state.opens k
  pub own_decided : corner_at state'.decided k ≡ corner_at state.decided k
  pub carried : ok ≡ true → j ≢ k → CarriedTo P Looked state.opens state.decided k j state'.opens state'.decided
  pub stuck_other : ok ≡ false → j ≢ k
  pub stuck : ok ≡ false → (e : ℕ) → row_of state.opens j e ≡ 1 → P.Conflict k (corner_at state.decided k) j e

-- The decision of site k was carried to every other site, or a site was left with no corner.
pub record CarriedOut (P : Problem) (Looked : ℕ → Type 0) (state : State) (k : ℕ) (ok : Bool) (state' : State) : Type 0 where
  pub carried : ok ≡ true → Carried P Looked state.opens state.decided k state'.opens state'.decided
  pub stuck : ok ≡ false → Stuck P state.opens state.decided k

-- Site k is marked: its decision has been carried out.
abbrev pub Done : List ℕ → ℕ → Type 0
Done marks k = get_or marks k 0 ≡ 1

-- Site k waits: it is decided, and that has not been carried out.
pub record Waits (state : State) (marks : List ℕ) (k : ℕ) : Type 0 where
  pub is_decided : corner_at state.decided k ≢ 0
  pub unmarked : Done marks k → ⊥

-- None of the sites below n waits.
pub record NoneWaits (state : State) (marks : List ℕ) (n : ℕ) : Type 0 where
  pub none_waits : (j : ℕ) → j < n → Waits state marks j → ⊥

-- Site k is the first that waits.
pub record IsWaiting (state : State) (marks : List ℕ) (n k : ℕ) : Type 0 where
  pub listed : k < n
  pub waiting : Waits state marks k
  pub none_before : NoneWaits state marks k

-- The first of n sites that waits, or none.
abbrev pub FirstWaiting : State → List ℕ → ℕ → Option ℕ → Type 0
FirstWaiting state marks n (Some k) = IsWaiting state marks n k
FirstWaiting state marks n None = NoneWaits state marks n

-- The mark of a site by its decided corner: 1 where it has one.
abbrev pub mark_of : ℕ → ℕ
mark_of zero = 0
mark_of (suc c) = 1

-- Exactly the decided sites are marked.
pub record Marked (state : State) (n : ℕ) (marks : List ℕ) : Type 0 where
  pub marked : (j : ℕ) → j < n → corner_at state.decided j ≢ 0 → Done marks j
  pub unmarked : (j : ℕ) → j < n → corner_at state.decided j ≡ 0 → Done marks j → ⊥

-- All decisions were carried out, or a site was left with no corner.
pub record CarriedOn (P : Problem) (state : State) (ok : Bool) (state' : State) : Type 0 where
  pub closed : ok ≡ true → Closed P state'.opens state'.decided
  pub later : ok ≡ true → (w d : List ℕ) (i c : ℕ) → i < P.n → c ≢ 0
      → Later P w d i c state.opens state.decided → Later P w d i c state'.opens state'.decided
  pub refused : ok ≡ false → (w d : List ℕ) (i c : ℕ) → i < P.n → c ≢ 0
      → Later P w d i c state.opens state.decided → Refused P w i c

-- Corner c of site i was tried. Where that failed, the state is as it was.
pub record Tried (P : Problem) (state : State) (i c : ℕ) (ok : Bool) (state' : State) : Type 0 where
  pub closed : ok ≡ true → Closed P state'.opens state'.decided
  pub later : ok ≡ true → Later P state.opens state.decided i c state'.opens state'.decided
  pub refused : ok ≡ false → Refused P state.opens i c
  pub back : ok ≡ false → state' ≡ state

-- The walk went on to site i, or there is no solution.
pub record WalkedTo (P : Problem) (i : ℕ) (ok : Bool) (state : State) : Type 0 where
  pub walked : ok ≡ true → Walked P i state.opens state.decided
  pub no_solution : ok ≡ false → (cs : List ℕ) → Solution P cs → ⊥
