-- A trial decides one open corner in a closed state and carries decisions out, one site at a time. It ends
-- stuck, which refuses the corner, or with every decision carried out, in a closed state.
-- Assumes nothing.
use Rattle.std.specs.Prelude.{◌≡◌, List, ◌≢◌, ℕ, ◌<◌}
use Rattle.std.proofs.Common.{sym, ◌∙◌, ap, ⊎_elim, arith}
use Rattle.std.proofs.Math.Decide.{ℕ_discrete}
use Rattle.placing.specs.rules.Corner.{Corner}
use Rattle.placing.specs.rules.Choice.{corner_at}
use Rattle.placing.specs.search.Problem.{Problem, Solution}
use Rattle.placing.specs.search.Rows.{row_of}
use Rattle.placing.specs.search.State.{
  Every,
  TwoOpen,
  ClosedBy,
  Underway,
  Closed,
  Follows,
  Refused,
  Took,
  CarriedTo,
  Carried,
  Stuck,
  Later,
}

-- What stays where it is not 0, and is 0 afterwards, was 0.
pub zero-before : {before after : ℕ} → (before ≢ 0 → after ≡ before) → after ≡ 0 → before ≡ 0
zero-before {before} stays zero = from (ℕ_discrete before 0)
  where
    from : Dec (before ≡ 0) → before ≡ 0
    from (yes is) = is
    from (no some) = absurd (some (sym (stays some) ∙ zero))

-- Of a site that is still undecided two corners that were open are so after a decision is carried to it, or two others.
pub two-still : {P : Problem} {Looked : ℕ → Type 0} {opens decided opens' decided' : List ℕ} {k j : ℕ}
    → CarriedTo P Looked opens decided k j opens' decided' → corner_at decided' j ≡ 0 → TwoOpen opens j → TwoOpen opens' j
two-still {opens' = opens'} {j = j} to free two = from (ℕ_discrete (row_of opens' j two.one) 1) (ℕ_discrete (row_of opens' j two.two) 1)
  where
    from : Dec (row_of opens' j two.one ≡ 1) → Dec (row_of opens' j two.two ≡ 1) → TwoOpen opens' j
    from (yes one_open) (yes two_open) =
        record { one = two.one; two = two.two; differ = two.differ; one_open = one_open; two_open = two_open }
    from (yes one_open) (no shut) = to.two_left two.two free two.two_open shut
    from (no shut) other = to.two_left two.one free two.one_open shut

-- A corner's number is not 0.
corner-not-zero : {c : ℕ} → Corner c → c ≢ 0
corner-not-zero corner = omega arith

-- A corner closed by a decision is closed by it as long as decisions stay.
closed-by-stays : {P : Problem} {decided decided' : List ℕ} {i c : ℕ}
    → ((j : ℕ) → j < P.n → corner_at decided j ≢ 0 → corner_at decided' j ≡ corner_at decided j)
    → ClosedBy P decided i c → ClosedBy P decided' i c
closed-by-stays stays c =
    let same = stays c.by c.listed c.is_decided in
    record {
      by = c.by;
      listed = c.listed;
      different = c.different;
      is_decided = rw same c.is_decided;
      conflict = rw same c.conflict;
    }

module _ {P : Problem} {opens opens' decided decided' : List ℕ} {i c : ℕ}
    (closed : Closed P opens decided) (listed : i < P.n) (undecided : corner_at decided i ≡ 0) (is_open : row_of opens i c ≡ 1)
    (took : Took P opens decided i c opens' decided') where
  -- Taking a corner opens none.
  took-closes : (j e : ℕ) → j < P.n → row_of opens' j e ≡ 1 → row_of opens j e ≡ 1
  took-closes j e below o = from (ℕ_discrete j i)
    where
      from : Dec (j ≡ i) → row_of opens j e ≡ 1
      from (yes p) = ap (row_of opens j) (took.alone e (rw p at o)) ∙ rw p is_open
      from (no d) = sym (took.others_open j e below d) ∙ o

  -- A site decided before is another site.
  took-other : (j : ℕ) → corner_at decided j ≢ 0 → j ≢ i
  took-other j d p = d (ap (corner_at decided) p ∙ undecided)

  -- Taking a corner leaves the decisions before it.
  took-stays : (j : ℕ) → j < P.n → corner_at decided j ≢ 0 → corner_at decided' j ≡ corner_at decided j
  took-stays j below d = took.others_decided j below (took-other j d)

  -- Site i is decided: a candidate's number is not 0.
  taken-decided : corner_at decided' i ≢ 0
  taken-decided = rw took.takes (corner-not-zero (P.corner i c (closed.candidate i c listed is_open)))

  -- A site that is undecided after the taking is another site.
  took-undecided : (j : ℕ) → corner_at decided' j ≡ 0 → j ≢ i
  took-undecided j u p = taken-decided (ap (corner_at decided') (sym p) ∙ u)

  -- A trial starts where only sites decided before are done.
  pub trial-begins : {Done : ℕ → Type 0} → ((j : ℕ) → j < P.n → Done j → corner_at decided j ≢ 0) → Underway P opens' decided' Done
  trial-begins before =
      record {
        candidate = λ j e below o. closed.candidate j e below (took-closes j e below o);
        decided_open = λ j below d. decided_open j below d (ℕ_discrete j i);
        decided_alone = λ j e below d o. decided_alone j e below d o (ℕ_discrete j i);
        closed_by = λ j e below u candidate shut.
            closed-by-stays took-stays (closed.closed_by j e below (was-undecided j below u) candidate (was-shut j e below u shut));
        two_left = λ j e below u candidate shut.
            two_left j below (took-undecided j u)
            (closed.two_left j e below (was-undecided j below u) candidate (was-shut j e below u shut));
        done_decided = λ j below done. rw (took-stays j below (before j below done)) (before j below done);
        apart = λ j k e below other different done o conflict.
            closed.apart j k e below other different (before j below done) (took-closes k e other o)
            (rw (took-stays j below (before j below done)) at conflict);
      }
    where
      was-undecided : (j : ℕ) → j < P.n → corner_at decided' j ≡ 0 → corner_at decided j ≡ 0
      was-undecided j below u = sym (took.others_decided j below (took-undecided j u)) ∙ u

      was-shut : (j e : ℕ) → j < P.n → corner_at decided' j ≡ 0 → row_of opens' j e ≢ 1 → row_of opens j e ≢ 1
      was-shut j e below u shut o = shut (took.others_open j e below (took-undecided j u) ∙ o)

      decided_open : (j : ℕ) → j < P.n → corner_at decided' j ≢ 0 → Dec (j ≡ i) → row_of opens' j (corner_at decided' j) ≡ 1
      decided_open j below d (yes p) = rw (p, took.takes) took.is_open
      decided_open j below d (no n) =
          let same = took.others_decided j below n in
          ap (row_of opens' j) same ∙ took.others_open j (corner_at decided j) below n ∙ closed.decided_open j below (rw same at d)

      decided_alone : (j e : ℕ) → j < P.n → corner_at decided' j ≢ 0 → row_of opens' j e ≡ 1 → Dec (j ≡ i) → e ≡ corner_at decided' j
      decided_alone j e below d o (yes p) = took.alone e (rw p at o) ∙ sym (ap (corner_at decided') p ∙ took.takes)
      decided_alone j e below d o (no n) =
          let same = took.others_decided j below n in
          closed.decided_alone j e below (rw same at d) (sym (took.others_open j e below n) ∙ o) ∙ sym same

      two_left : (j : ℕ) → j < P.n → j ≢ i → TwoOpen opens j → TwoOpen opens' j
      two_left j below n two =
          record {
            one = two.one;
            two = two.two;
            differ = two.differ;
            one_open = took.others_open j two.one below n ∙ two.one_open;
            two_open = took.others_open j two.two below n ∙ two.two_open;
          }

  -- A solution that follows the closed state and has corner c at site i follows the trial's start.
  pub trial-later-start : Later P opens decided i c opens' decided'
  trial-later-start =
      record {
        takes = took.takes;
        stays = took-stays;
        follows = λ cs solution follows takes. record { follows = λ j below. follow cs follows takes j below (ℕ_discrete j i) };
      }
    where
      follow : (cs : List ℕ) → Follows P opens cs → corner_at cs i ≡ c → (j : ℕ) → j < P.n → Dec (j ≡ i)
          → row_of opens' j (corner_at cs j) ≡ 1
      follow cs follows takes j below (yes p) = rw (p, takes) took.is_open
      follow cs follows takes j below (no n) = took.others_open j (corner_at cs j) below n ∙ follows.follows j below

module _ {P : Problem} {opens decided : List ℕ} {Done : ℕ → Type 0} {k : ℕ}
    (underway : Underway P opens decided Done) (listed : k < P.n) (is_decided : corner_at decided k ≢ 0) where
  -- A solution that follows the state has the decided corner at site k, so no other corner of it conflicts with that one.
  decided-apart : (cs : List ℕ) → Solution P cs → Follows P opens cs → (j : ℕ) → j < P.n → j ≢ k
      → P.Conflict k (corner_at decided k) j (corner_at cs j) → ⊥
  decided-apart cs solution follows j below different conflict =
      solution.apart k j listed below (λ p. different (sym p))
      (rw (underway.decided_alone k (corner_at cs k) listed is_decided (follows.follows k listed)) conflict)

  -- A trial that is stuck refuses the corner that it took.
  pub stuck-refused : {opens₀ decided₀ : List ℕ} {i c : ℕ} → Stuck P opens decided k → Later P opens₀ decided₀ i c opens decided
      → Refused P opens₀ i c
  stuck-refused stuck later =
      record { refused = λ cs solution follows takes. refute cs solution (later.follows cs solution follows takes) }
    where
      refute : (cs : List ℕ) → Solution P cs → Follows P opens cs → ⊥
      refute cs solution follows =
          decided-apart cs solution follows stuck.site stuck.listed stuck.different
          (stuck.all_conflict (corner_at cs stuck.site) (follows.follows stuck.site stuck.listed))

  module _ {opens' decided' : List ℕ} (carried : Carried P Every opens decided k opens' decided') where
    -- Carrying out a decision opens no corner.
    carried-closes : (j e : ℕ) → j < P.n → row_of opens' j e ≡ 1 → row_of opens j e ≡ 1
    carried-closes j e below o = from (ℕ_discrete j k)
      where
        from : Dec (j ≡ k) → row_of opens j e ≡ 1
        from (yes p) = rw p (sym (carried.own_open e) ∙ rw p at o)
        from (no d) = (carried.others j below d).closes e o

    -- Carrying out a decision leaves the decisions.
    carried-stays : (j : ℕ) → j < P.n → corner_at decided j ≢ 0 → corner_at decided' j ≡ corner_at decided j
    carried-stays j below d = from (ℕ_discrete j k)
      where
        from : Dec (j ≡ k) → corner_at decided' j ≡ corner_at decided j
        from (yes p) = rw p carried.own_decided
        from (no n) = (carried.others j below n).stays_decided d

    -- An undecided site is not site k.
    undecided-other : (j : ℕ) → corner_at decided j ≡ 0 → j ≢ k
    undecided-other j u p = is_decided (ap (corner_at decided) (sym p) ∙ u)

    -- Carrying out a decision leaves decided corners open.
    carried-open : (j : ℕ) → j < P.n → corner_at decided j ≢ 0 → row_of opens' j (corner_at decided j) ≡ 1
    carried-open j below d = from (ℕ_discrete j k)
      where
        from : Dec (j ≡ k) → row_of opens' j (corner_at decided j) ≡ 1
        from (yes p) = rw p (carried.own_open (corner_at decided k) ∙ underway.decided_open k listed is_decided)
        from (no n) = (carried.others j below n).stays_open d

    -- A site that is undecided afterwards was undecided.
    was-undecided : (j : ℕ) → j < P.n → corner_at decided' j ≡ 0 → corner_at decided j ≡ 0
    was-undecided j below = zero-before (carried-stays j below)

    -- A solution that follows the state follows it after the decision is carried out.
    carried-follows : (cs : List ℕ) → Solution P cs → Follows P opens cs → Follows P opens' cs
    carried-follows cs solution follows = record { follows = λ j below. follow j below (ℕ_discrete j k) }
      where
        follow : (j : ℕ) → j < P.n → Dec (j ≡ k) → row_of opens' j (corner_at cs j) ≡ 1
        follow j below (yes p) = rw p (carried.own_open (corner_at cs k) ∙ follows.follows k listed)
        follow j below (no n) =
            ⊎_elim (λ o. o) (λ conflict. absurd (decided-apart cs solution follows j below n conflict))
            ((carried.others j below n).keeps (corner_at cs j) (follows.follows j below))

    -- The state after a decision is carried out is still a later state of the search that took c at i.
    pub carried_later : {opens₀ decided₀ : List ℕ} {i c : ℕ} → i < P.n → c ≢ 0 → Later P opens₀ decided₀ i c opens decided
        → Later P opens₀ decided₀ i c opens' decided'
    carried_later {i = i} below some later =
        record {
          takes = carried-stays i below (rw later.takes some) ∙ later.takes;
          stays = λ j other d. carried-stays j other (rw (later.stays j other d) d) ∙ later.stays j other d;
          follows = λ cs solution follows takes. carried-follows cs solution (later.follows cs solution follows takes);
        }

    -- After the decision of site k is carried out, the trial is under way with site k done too.
    pub carried-underway : {Done' : ℕ → Type 0} → ((j : ℕ) → j < P.n → j ≢ k → Done' j → Done j) → Underway P opens' decided' Done'
    carried-underway {Done'} others =
        record {
          candidate = λ j e below o. underway.candidate j e below (carried-closes j e below o);
          decided_open = λ j below d. decided_open j below d (ℕ_discrete (corner_at decided j) 0);
          decided_alone = λ j e below d o. decided_alone j e below d o (ℕ_discrete (corner_at decided j) 0);
          closed_by = λ j e below u candidate shut.
              closed_by j e below (was-undecided j below u) candidate shut (ℕ_discrete (row_of opens j e) 1);
          two_left = λ j e below u candidate shut.
              two_left j e below u (was-undecided j below u) candidate shut (ℕ_discrete (row_of opens j e) 1);
          done_decided = λ j below done.
              rw (carried-stays j below (done_decided j below done (ℕ_discrete j k))) (done_decided j below done (ℕ_discrete j k));
          apart = λ i j e below other different done o conflict.
              apart i j e below other different done o
              (rw (carried-stays i below (done_decided i below done (ℕ_discrete i k))) at conflict) (ℕ_discrete i k);
        }
      where
        decided_open : (j : ℕ) → j < P.n → corner_at decided' j ≢ 0 → Dec (corner_at decided j ≡ 0)
            → row_of opens' j (corner_at decided' j) ≡ 1
        decided_open j below d (yes u) = (carried.others j below (undecided-other j u)).decides_open u d
        decided_open j below d (no n) = ap (row_of opens' j) (carried-stays j below n) ∙ carried-open j below n

        decided_alone : (j e : ℕ) → j < P.n → corner_at decided' j ≢ 0 → row_of opens' j e ≡ 1 → Dec (corner_at decided j ≡ 0)
            → e ≡ corner_at decided' j
        decided_alone j e below d o (yes u) = (carried.others j below (undecided-other j u)).decides_alone e u d o
        decided_alone j e below d o (no n) =
            underway.decided_alone j e below n (carried-closes j e below o) ∙ sym (carried-stays j below n)

        closed_by : (j e : ℕ) → j < P.n → corner_at decided j ≡ 0 → P.Candidate j e → row_of opens' j e ≢ 1
            → Dec (row_of opens j e ≡ 1) → ClosedBy P decided' j e
        closed_by j e below u candidate shut (no n) = closed-by-stays carried-stays (underway.closed_by j e below u candidate n)
        closed_by j e below u candidate shut (yes o) =
            ⊎_elim (λ p. absurd (shut p))
            (λ conflict. record {
              by = k;
              listed = listed;
              different = λ p. undecided-other j u (sym p);
              is_decided = rw carried.own_decided is_decided;
              conflict = rw carried.own_decided conflict;
            })
            ((carried.others j below (undecided-other j u)).keeps e o)

        two_left : (j e : ℕ) → j < P.n → corner_at decided' j ≡ 0 → corner_at decided j ≡ 0 → P.Candidate j e → row_of opens' j e ≢ 1
            → Dec (row_of opens j e ≡ 1) → TwoOpen opens' j
        two_left j e below u w candidate shut (yes o) = (carried.others j below (undecided-other j w)).two_left e u o shut
        two_left j e below u w candidate shut (no n) =
            two-still (carried.others j below (undecided-other j w)) u (underway.two_left j e below w candidate n)

        done_decided : (j : ℕ) → j < P.n → Done' j → Dec (j ≡ k) → corner_at decided j ≢ 0
        done_decided j below done (yes p) = rw p is_decided
        done_decided j below done (no n) = underway.done_decided j below (others j below n done)

        apart : (i j e : ℕ) → i < P.n → j < P.n → i ≢ j → Done' i → row_of opens' j e ≡ 1
            → P.Conflict i (corner_at decided i) j e → Dec (i ≡ k) → ⊥
        apart i j e below other different done o conflict (yes p) =
            (carried.others j other (λ q. different (p ∙ sym q))).apart e tt o (rw p at conflict)
        apart i j e below other different done o conflict (no n) =
            underway.apart i j e below other different (others i below n done) (carried-closes j e other o) conflict

-- A trial that has carried out every decision leaves a closed state.
pub trial-closed : {P : Problem} {opens decided : List ℕ} {Done : ℕ → Type 0} → Underway P opens decided Done
    → ((j : ℕ) → j < P.n → corner_at decided j ≢ 0 → Done j) → Closed P opens decided
trial-closed underway all =
    record {
      candidate = underway.candidate;
      decided_open = underway.decided_open;
      decided_alone = underway.decided_alone;
      closed_by = underway.closed_by;
      two_left = underway.two_left;
      done_decided = λ i below d. d;
      apart = λ i j e below other different d. underway.apart i j e below other different (all i below d);
    }
