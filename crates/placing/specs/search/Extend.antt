-- Where a state is closed and any solution exists, one exists that follows the state.
-- Assumes nothing.
use Rattle.std.specs.Prelude.{◌≡◌, refl, List, [], ◌∷◌, ◌≢◌, ◌⊎◌, ℕ, zero, suc, ◌<◌, length}
use Rattle.std.proofs.Common.{sym, ap, inl, inr, zero-le, suc-le-suc, le_of_suc-le-suc, not-suc-le-zero}
use Rattle.std.proofs.Math.Logic.{Ne-symm}
use Rattle.std.proofs.Math.Decide.{ℕ_discrete}
use Rattle.placing.specs.rules.Choice.{corner_at}
use Rattle.placing.specs.search.Problem.{Problem, Solution, Dead}
use Rattle.placing.specs.search.Rows.{row_of}
use Rattle.placing.specs.search.State.{TwoOpen, ClosedBy, Closed, Follows}

-- Corner c of site i is in conflict with no open corner of another site.
record Safe (P : Problem) (opens : List ℕ) (i c : ℕ) : Type 0 where
  meets_no_open : (j e : ℕ) → j < P.n → j ≢ i → row_of opens j e ≡ 1 → P.Conflict i c j e → ⊥

-- Corner c can stand at site i beside what is left of the solution cs: it is open, and it is the corner of cs or safe.
record Keeps (P : Problem) (opens cs : List ℕ) (i c : ℕ) : Type 0 where
  is_open : row_of opens i c ≡ 1
  same_or_safe : (c ≡ corner_at cs i) ⊎ Safe P opens i c

-- What holds of a first corner, and of the others for the sites after the first, holds of all.
first-and-others : (Q : ℕ → ℕ → Type 0) {n : ℕ} (c : ℕ) (cs : List ℕ) → Q 0 c → ((i : ℕ) → i < n → Q (suc i) (corner_at cs i))
    → (i : ℕ) → i < suc n → Q i (corner_at (c ∷ cs) i)
first-and-others Q c cs first others zero listed = first
first-and-others Q c cs first others (suc i) listed = others i (le_of_suc-le-suc listed)

-- Where each site below n has a corner of some kind, there is a list of n such corners.
choice : {Q : ℕ → ℕ → Type 0} (n : ℕ) → ((i : ℕ) → i < n → (c : ℕ) × Q i c)
    → (cs : List ℕ) × (length cs ≡ n) × ((i : ℕ) → i < n → Q i (corner_at cs i))
choice zero has = ([], refl, λ i none. absurd (not-suc-le-zero none))
choice {Q} (suc n) has =
    let (c, first) = has 0 (suc-le-suc zero-le) in
    let (cs, count, others) = choice {Q = λ i. Q (suc i)} n (λ i listed. has (suc i) (suc-le-suc listed)) in
    (c ∷ cs, ap suc count, first-and-others Q c cs first others)

module _ {P : Problem} {opens decided cs : List ℕ} (closed : Closed P opens decided) (solution : Solution P cs) where
  -- A closed corner of a solution is not dead: it conflicts with a decided corner.
  closed-not-dead : (i : ℕ) → ClosedBy P decided i (corner_at cs i) → Dead P.n P.Candidate P.Conflict i (corner_at cs i) → ⊥
  closed-not-dead i c dead =
      dead.meets_nothing c.by (corner_at decided c.by) c.listed c.different
      (closed.candidate c.by (corner_at decided c.by) c.listed (closed.decided_open c.by c.listed c.is_decided))
      (P.symmetric c.by (corner_at decided c.by) i (corner_at cs i) c.conflict)

  -- A dead corner is safe.
  dead-safe : {i c : ℕ} → Dead P.n P.Candidate P.Conflict i c → Safe P opens i c
  dead-safe dead =
      record { meets_no_open = λ j e listed different o. dead.meets_nothing j e listed different (closed.candidate j e listed o) }

  -- A decided corner is safe.
  decided-safe : (i : ℕ) → i < P.n → corner_at decided i ≢ 0 → Safe P opens i (corner_at decided i)
  decided-safe i listed d =
      record { meets_no_open = λ j e other different o. closed.apart i j e listed other (Ne-symm different) d o }

  -- Where the corner of cs is closed, of two open corners one is dead.
  replaced : (i : ℕ) → i < P.n → corner_at decided i ≡ 0 → row_of opens i (corner_at cs i) ≢ 1 → TwoOpen opens i
      → (c : ℕ) × Keeps P opens cs i c
  replaced i listed u o two =
      from (P.one_dead i (corner_at cs i) two.one two.two listed (λ p. o (rw p two.one_open)) (λ p. o (rw p two.two_open))
      two.differ (solution.candidate i listed) (closed.candidate i two.one listed two.one_open)
      (closed.candidate i two.two listed two.two_open))
    where
      from : (Dead P.n P.Candidate P.Conflict i (corner_at cs i))
          ⊎ ((Dead P.n P.Candidate P.Conflict i two.one) ⊎ (Dead P.n P.Candidate P.Conflict i two.two))
          → (c : ℕ) × Keeps P opens cs i c
      from (inl a) = absurd (closed-not-dead i (closed.closed_by i (corner_at cs i) listed u (solution.candidate i listed) o) a)
      from (inr (inl b)) = (two.one, record { is_open = two.one_open; same_or_safe = inr (dead-safe b) })
      from (inr (inr c)) = (two.two, record { is_open = two.two_open; same_or_safe = inr (dead-safe c) })

  -- Every site has a corner that can stand.
  kept : (i : ℕ) → i < P.n → (c : ℕ) × Keeps P opens cs i c
  kept i listed = from (ℕ_discrete (corner_at decided i) 0) (ℕ_discrete (row_of opens i (corner_at cs i)) 1)
    where
      from : Dec (corner_at decided i ≡ 0) → Dec (row_of opens i (corner_at cs i) ≡ 1) → (c : ℕ) × Keeps P opens cs i c
      from (no d) o =
          (corner_at decided i, record { is_open = closed.decided_open i listed d; same_or_safe = inr (decided-safe i listed d) })
      from (yes u) (yes o) = (corner_at cs i, record { is_open = o; same_or_safe = inl refl })
      from (yes u) (no o) = replaced i listed u o (closed.two_left i (corner_at cs i) listed u (solution.candidate i listed) o)

  -- Two corners that can stand at different sites are not in conflict.
  kept-apart : {i c j e : ℕ} → i < P.n → j < P.n → i ≢ j → Keeps P opens cs i c → Keeps P opens cs j e → P.Conflict i c j e → ⊥
  kept-apart {i} {c} {j} {e} listed other different k m conflict = from k.same_or_safe m.same_or_safe
    where
      from : (c ≡ corner_at cs i) ⊎ Safe P opens i c → (e ≡ corner_at cs j) ⊎ Safe P opens j e → ⊥
      from (inr s) t = s.meets_no_open j e other (λ p. different (sym p)) m.is_open conflict
      from (inl p) (inr t) = t.meets_no_open i c listed different k.is_open (P.symmetric i c j e conflict)
      from (inl p) (inl q) = solution.apart i j listed other different (rw (← p, ← q) conflict)

  -- Where a solution exists, one follows the closed state.
  pub extends : (es : List ℕ) × Solution P es × Follows P opens es
  extends =
      let (es, count, keeps) = choice P.n kept in (
        es,
        record {
          one_each = count;
          candidate = λ i listed. closed.candidate i (corner_at es i) listed (keeps i listed).is_open;
          apart = λ i j listed other different. kept-apart listed other different (keeps i listed) (keeps j other);
        },
        record { follows = λ j listed. (keeps j listed).is_open },
      )
