-- The walk in list order, in which each undecided site takes the lowest corner that is not refused.
-- Assumes nothing.
use Rattle.std.specs.Prelude.{◌≡◌, refl, List, ◌≢◌, ◌⊎◌, ℕ, suc, ◌+◌, ◌<◌}
use Rattle.std.proofs.Common.{sym, ◌∙◌, ap, inl, inr, ⊎_elim, add-one, arith}
use Rattle.std.proofs.Math.Decide.{ℕ_discrete, dec_lt}
use Rattle.placing.specs.rules.Corner.{Corner}
use Rattle.placing.specs.rules.Choice.{corner_at}
use Rattle.placing.specs.search.Problem.{Problem, Solution}
use Rattle.placing.specs.search.Rows.{row_of}
use Rattle.placing.specs.search.State.{Closed, Follows, Refused, Later, Greater, Walked, Fresh}
use Rattle.placing.specs.search.Extend.{extends}

-- The walk starts at the first site: every solution follows the fresh state.
pub walk-starts : {P : Problem} {opens decided : List ℕ} → Fresh P opens decided → Walked P 0 opens decided
walk-starts fresh =
    record {
      closed = record {
        candidate = fresh.candidate;
        decided_open = λ i listed d. absurd (d (fresh.undecided i listed));
        decided_alone = λ i c listed d. absurd (d (fresh.undecided i listed));
        closed_by = λ i c listed u candidate shut. absurd (shut (fresh.all_open i c listed candidate));
        two_left = λ i c listed u candidate shut. absurd (shut (fresh.all_open i c listed candidate));
        done_decided = λ i listed d. d;
        apart = λ i j e listed other different d. absurd (d (fresh.undecided i listed));
      };
      all_decided = λ j none. absurd (omega arith);
      first = λ cs solution. inl (record { follows = λ j listed. fresh.all_open j (corner_at cs j) listed (solution.candidate j listed) });
    }

-- A corner that is not open is refused.
pub refused-closed : {P : Problem} {opens : List ℕ} {i c : ℕ} → i < P.n → row_of opens i c ≢ 1 → Refused P opens i c
refused-closed {opens = opens} {i = i} listed shut =
    record { refused = λ cs solution follows takes. shut (ap (row_of opens i) (sym takes) ∙ follows.follows i listed) }

-- A solution that follows a closed state has the decided corners.
pub follows-decided : {P : Problem} {opens decided cs : List ℕ} → Closed P opens decided → Follows P opens cs
    → (m : ℕ) → m < P.n → corner_at decided m ≢ 0 → corner_at cs m ≡ corner_at decided m
follows-decided {cs = cs} closed follows m listed d = closed.decided_alone m (corner_at cs m) listed d (follows.follows m listed)

-- What is greater stays so at a later state of the search, in which the decisions of the sites below i stay.
greater-stays : {decided decided' cs : List ℕ} {i k : ℕ} → i < k → ((m : ℕ) → m < i → corner_at decided' m ≡ corner_at decided m)
    → Greater decided i cs → Greater decided' k cs
greater-stays later stays g =
    record {
      at = g.at;
      below = omega (arith, g.below);
      same = λ m earlier. g.same m earlier ∙ sym (stays m (omega (arith, g.below)));
      greater = omega (arith, g.greater, stays g.at g.below);
    }

-- All sites below i + 1 are decided once those below i and site i are.
decided-next : {n i : ℕ} (decided : List ℕ) → ((j : ℕ) → j < i → j < n → corner_at decided j ≢ 0) → corner_at decided i ≢ 0
    → (j : ℕ) → j < suc i → j < n → corner_at decided j ≢ 0
decided-next {n} {i} decided before here j reached listed = from (dec_lt j i)
  where
    from : Dec (j < i) → corner_at decided j ≢ 0
    from (yes below) = before j below listed
    from (no above) =
        let last : j ≡ i = omega arith in
        rw last here

module _ {P : Problem} {i : ℕ} {opens decided : List ℕ} (walked : Walked P i opens decided) (listed : i < P.n) where
  -- The walk passes over a decided site.
  pub walk-decided : corner_at decided i ≢ 0 → Walked P (suc i) opens decided
  walk-decided d =
      record {
        closed = walked.closed;
        all_decided = decided-next decided walked.all_decided d;
        first = λ cs solution. ⊎_elim inl (λ g. inr (greater-stays (omega arith) (λ m below. refl) g)) (walked.first cs solution);
      }

  -- The same where the next site's number is i + 1.
  pub walk-decided-add-one : corner_at decided i ≢ 0 → Walked P (i + 1) opens decided
  walk-decided-add-one d = rw add-one (walk-decided d)

  -- An undecided site takes the lowest corner that is not refused.
  pub walk-takes : {opens' decided' : List ℕ} {c : ℕ} → corner_at decided i ≡ 0 → ((e : ℕ) → e < c → Refused P opens i e)
      → Closed P opens' decided' → Later P opens decided i c opens' decided' → c ≢ 0 → Walked P (i + 1) opens' decided'
  walk-takes {opens'} {decided'} {c} undecided lowest closed later some =
      rw add-one (record {
        closed = closed;
        all_decided = decided-next decided' (λ j below other. rw (stays j below) (walked.all_decided j below other))
            (rw later.takes some);
        first = λ cs solution.
            ⊎_elim (λ follows. first cs solution follows (dec_lt (corner_at cs i) c) (ℕ_discrete (corner_at cs i) c))
            (λ g. inr (greater-stays (omega arith) stays g)) (walked.first cs solution);
      })
    where
      before : (m : ℕ) → m < i → corner_at decided m ≢ 0
      before m below = walked.all_decided m below (omega arith)

      stays : (m : ℕ) → m < i → corner_at decided' m ≡ corner_at decided m
      stays m below = later.stays m (omega arith) (before m below)

      first : (cs : List ℕ) → Solution P cs → Follows P opens cs → Dec (corner_at cs i < c) → Dec (corner_at cs i ≡ c)
          → Follows P opens' cs ⊎ Greater decided' (suc i) cs
      first cs solution follows (yes below) same = absurd ((lowest (corner_at cs i) below).refused cs solution follows refl)
      first cs solution follows (no above) (yes same) = inl (later.follows cs solution follows same)
      first cs solution follows (no above) (no differs) =
          inr (record {
            at = i;
            below = omega arith;
            same = λ m below. follows-decided walked.closed follows m (omega arith) (before m below) ∙ sym (stays m below);
            greater = rw later.takes (omega arith);
          })

  -- Where every corner of a site is refused there is no solution: else one would follow the state.
  pub walk-stuck : ((e : ℕ) → Corner e → Refused P opens i e) → (cs : List ℕ) → Solution P cs → ⊥
  walk-stuck refused cs solution =
      let (es, good, follows) = extends walked.closed solution in
      (refused (corner_at es i) (P.corner i (corner_at es i) (good.candidate i listed))).refused es good follows refl
