-- A decision that is carried out in two rounds, over some corners and then over others, and what both rounds have looked at.
-- Assumes nothing.
use Rattle.std.specs.Prelude.{◌≡◌, Bool, true, false, List, ◌≢◌, ◌⊎◌, ℕ, ◌<◌}
use Rattle.std.proofs.Common.{sym, subst, ◌∙◌, true≢false, inl, inr, ⊎_elim, lt_of_lt_of_le, arith}
use Rattle.std.proofs.Math.Decide.{ℕ_discrete}
use Rattle.placing.specs.declared.fresh.State.{State}
use Rattle.placing.specs.declared.labels.Labels.{Labels}
use Rattle.placing.specs.declared.way.Way.TheVariants.{Usual, Above}
use Rattle.placing.specs.rules.Corner.{Corner}
use Rattle.placing.specs.rules.Choice.{corner_at}
use Rattle.placing.specs.search.Problem.{Problem}
use Rattle.placing.specs.search.Rows.{row_of, open-corner}
use Rattle.placing.specs.search.State.{TwoOpen, Only, Every, CarriedTo, Carried, Stuck}
use Rattle.placing.specs.search.Trial.{zero-before, two-still}
use Rattle.placing.specs.code.Labels.{LookedAt, equal, low, problem_of}
use Rattle.placing.specs.code.Asks.{MayCarry, MayCarryOut}
use Rattle.placing.specs.code.Steps.{Lone, AllSettled, CarriedOut}

-- The corners of two rounds.
abbrev pub Either : (ℕ → Type 0) → (ℕ → Type 0) → ℕ → Type 0
Either One Two e = One e ⊎ Two e

module _ {P : Problem} {One Two : ℕ → Type 0} {opens decided opens₁ decided₁ opens₂ decided₂ : List ℕ} {k : ℕ}
    (own : corner_at decided₁ k ≡ corner_at decided k) where
  -- One round after the other, at site j.
  to-twice : {j : ℕ} → CarriedTo P One opens decided k j opens₁ decided₁ → CarriedTo P Two opens₁ decided₁ k j opens₂ decided₂
      → CarriedTo P (Either One Two) opens decided k j opens₂ decided₂
  to-twice {j} first second =
      record {
        closes = λ e still. first.closes e (second.closes e still);
        apart = λ e looked still conflict.
            ⊎_elim (λ one. first.apart e one (second.closes e still) conflict)
            (λ two. second.apart e two still (rw own conflict)) looked;
        keeps = keeps;
        stays_decided = λ d. second.stays_decided (stays d) ∙ first.stays_decided d;
        stays_open = λ d. rw (first.stays_decided d) at (second.stays_open (stays d));
        decides_open = λ free taken. (decides free taken).is_open;
        decides_alone = λ e free taken. (decides free taken).alone e;
        two_left = λ e free was shut. two_left e free was shut (ℕ_discrete (row_of opens₁ j e) 1);
      }
    where
      stays : corner_at decided j ≢ 0 → corner_at decided₁ j ≢ 0
      stays d zero = d (sym (first.stays_decided d) ∙ zero)

      keeps : (e : ℕ) → row_of opens j e ≡ 1 → (row_of opens₂ j e ≡ 1) ⊎ P.Conflict k (corner_at decided k) j e
      keeps e was =
          ⊎_elim (λ still. ⊎_elim inl (λ conflict. inr (rw own at conflict)) (second.keeps e still)) inr (first.keeps e was)

      -- A site that is decided in one of the rounds has its decided corner open, alone.
      decides : corner_at decided j ≡ 0 → corner_at decided₂ j ≢ 0 → Lone (row_of opens₂ j) (corner_at decided₂ j)
      decides free taken = from (ℕ_discrete (corner_at decided₁ j) 0)
        where
          from : Dec (corner_at decided₁ j ≡ 0) → Lone (row_of opens₂ j) (corner_at decided₂ j)
          from (yes later) =
              record { is_open = second.decides_open later taken; alone = λ e. second.decides_alone e later taken }
          from (no earlier) =
              let same = second.stays_decided earlier in
              record {
                is_open = rw same (second.stays_open earlier);
                alone = λ e still. first.decides_alone e free earlier (second.closes e still) ∙ sym same;
              }

      two_left : (e : ℕ) → corner_at decided₂ j ≡ 0 → row_of opens j e ≡ 1 → row_of opens₂ j e ≢ 1 → Dec (row_of opens₁ j e ≡ 1)
          → TwoOpen opens₂ j
      two_left e free was shut (yes still) = second.two_left e free still shut
      two_left e free was shut (no closed) =
          two-still second free (first.two_left e (zero-before second.stays_decided free) was closed)

  -- At all sites.
  all-twice : Carried P One opens decided k opens₁ decided₁ → Carried P Two opens₁ decided₁ k opens₂ decided₂
      → Carried P (Either One Two) opens decided k opens₂ decided₂
  all-twice first second =
      record {
        others = λ j listed different. to-twice (first.others j listed different) (second.others j listed different);
        own_open = λ e. second.own_open e ∙ first.own_open e;
        own_decided = second.own_decided ∙ first.own_decided;
      }

-- A site that is stuck in the second round is so in both.
stuck-twice : {P : Problem} {One : ℕ → Type 0} {opens decided opens₁ decided₁ : List ℕ} {k : ℕ}
    → Carried P One opens decided k opens₁ decided₁ → Stuck P opens₁ decided₁ k → Stuck P opens decided k
stuck-twice first stuck =
    record {
      site = stuck.site;
      listed = stuck.listed;
      different = stuck.different;
      all_conflict = λ e was.
          ⊎_elim (λ still. rw first.own_decided at (stuck.all_conflict e still)) (λ conflict. conflict)
          ((first.others stuck.site stuck.listed stuck.different).keeps e was);
    }

-- Where the second round follows a first one that went through, both are one.
pub carried-twice : {P : Problem} {One Two : ℕ → Type 0} {state state₁ state₂ : State} {k : ℕ} {ok : Bool}
    → Carried P One state.opens state.decided k state₁.opens state₁.decided → CarriedOut P Two state₁ k ok state₂
    → CarriedOut P (Either One Two) state k ok state₂
carried-twice first second =
    record {
      carried = λ went. all-twice first.own_decided first (second.carried went);
      stuck = λ failed. stuck-twice first (second.stuck failed);
    }

-- Where a round fails, more corners to look at change nothing.
pub carried-stuck-at : {P : Problem} {One Two : ℕ → Type 0} {state state' : State} {k : ℕ} {ok : Bool} → ok ≡ false
    → CarriedOut P One state k ok state' → CarriedOut P Two state k false state'
carried-stuck-at failed out =
    record { carried = λ went. absurd (true≢false (sym went)); stuck = λ no_ok. out.stuck failed }

-- Where every open corner in conflict is looked at, the decision is carried out.
pub carried-every : {P : Problem} {Looked : ℕ → Type 0} {state state' : State} {k : ℕ} {ok : Bool}
    → ((j e : ℕ) → j < P.n → j ≢ k → row_of state.opens j e ≡ 1 → P.Conflict k (corner_at state.decided k) j e → Looked e)
    → CarriedOut P Looked state k ok state' → CarriedOut P Every state k ok state'
carried-every looked out =
    record {
      carried = λ went. record {
        others = λ j listed different.
            let to = (out.carried went).others j listed different in
            record {
              closes = to.closes;
              apart = λ e every still conflict.
                  to.apart e (looked j e listed different (to.closes e still) conflict) still conflict;
              keeps = to.keeps;
              stays_decided = to.stays_decided;
              stays_open = to.stays_open;
              decides_open = to.decides_open;
              decides_alone = to.decides_alone;
              two_left = to.two_left;
            };
        own_open = (out.carried went).own_open;
        own_decided = (out.carried went).own_decided;
      };
      stuck = out.stuck;
    }

-- After a round the decided corner of every decided site alone is open, as it was before.
settled-after : {P : Problem} {Looked : ℕ → Type 0} {state state₁ : State} {k : ℕ} → k < P.n
    → AllSettled P.n state → Carried P Looked state.opens state.decided k state₁.opens state₁.decided → AllSettled P.n state₁
settled-after {P} {Looked} {state} {state₁} {k} k-listed before round =
    record { all_settled = λ j listed. record { settled = λ d. settled j listed d (ℕ_discrete j k) } }
  where
    -- Site k is as it was;
    own : corner_at state₁.decided k ≢ 0 → Lone (row_of state₁.opens k) (corner_at state₁.decided k)
    own d =
        let lone = (before.all_settled k k-listed).settled (λ zero. d (round.own_decided ∙ zero)) in
        record {
          is_open = round.own_open (corner_at state₁.decided k) ∙ rw round.own_decided lone.is_open;
          alone = λ e still. lone.alone e (sym (round.own_open e) ∙ still) ∙ sym round.own_decided;
        }

    -- another that was decided keeps its corner, and one that was not has its last corner decided.
    other : (j : ℕ) → j < P.n → j ≢ k → corner_at state₁.decided j ≢ 0 → Dec (corner_at state.decided j ≡ 0)
        → Lone (row_of state₁.opens j) (corner_at state₁.decided j)
    other j listed different d (yes free) =
        let to = round.others j listed different in
        record { is_open = to.decides_open free d; alone = λ e. to.decides_alone e free d }
    other j listed different d (no taken) =
        let to = round.others j listed different in
        let lone = (before.all_settled j listed).settled taken in
        record {
          is_open = rw (to.stays_decided taken) (to.stays_open taken);
          alone = λ e still. lone.alone e (to.closes e still) ∙ sym (to.stays_decided taken);
        }

    settled : (j : ℕ) → j < P.n → corner_at state₁.decided j ≢ 0 → Dec (j ≡ k) → Lone (row_of state₁.opens j) (corner_at state₁.decided j)
    settled j listed d (yes same) = rw same (own (rw same at d))
    settled j listed d (no different) = other j listed different d (ℕ_discrete (corner_at state.decided j) 0)

-- So after a round the decision may be carried to other corners.
pub may-carry-again : {labels : Labels} {Looked : ℕ → Type 0} {state state₁ : State}
    {k from : ℕ} {ok : Bool} → MayCarry labels state k from
    → CarriedOut (problem_of labels) Looked state k ok state₁ → ok ≡ true
    → MayCarry labels state₁ k from
may-carry-again may out went =
    let round = out.carried went in
    record {
      listed = may.listed;
      corner = rw round.own_decided may.corner;
      settled = settled-after may.listed may.settled round;
      inside = may.inside;
      apart_below = λ j below different. record {
        apart = λ e still meets.
            (may.apart_below j below different).apart e
            ((round.others j (lt_of_lt_of_le below may.inside) different).closes e still) (rw round.own_decided at meets);
      };
    }

module _ {labels : Labels} {state : State} {k from : ℕ}
    (may : MayCarryOut labels state k from) where
  -- By the usual way one round over the decided corner carries the decision out,
  pub carried-usual : {ok : Bool} {state' : State} → labels.way ≡ Usual
      → CarriedOut (problem_of labels) (Only (corner_at state.decided k)) state k ok state'
      → CarriedOut (problem_of labels) Every state k ok state'
  carried-usual is = carried-every (λ j e listed different is_open meets.
      same (subst (λ w. LookedAt w (corner_at state.decided k) e) is ((may.met_looked j listed different).looked e is_open meets)))
    where
      same : {e : ℕ} → LookedAt Usual (corner_at state.decided k) e → Only (corner_at state.decided k) e
      same (equal at) = at

  -- and above the spot two rounds do, over corner 1 and over corner 2.
  pub carried-above : {went ok : Bool} {state₁ state' : State} → labels.way ≡ Above
      → CarriedOut (problem_of labels) (Only 1) state k went state₁ → went ≡ true
      → CarriedOut (problem_of labels) (Only 2) state₁ k ok state'
      → CarriedOut (problem_of labels) Every state k ok state'
  carried-above is first went second =
      carried-every (λ j e listed different is_open meets.
      among (open-corner state.opens j e is_open)
      (subst (λ w. LookedAt w (corner_at state.decided k) e) is ((may.met_looked j listed different).looked e is_open meets)))
      (carried-twice (first.carried went) second)
    where
      among : {e : ℕ} → Corner e → LookedAt Above (corner_at state.decided k) e → Either (Only 1) (Only 2) e
      among {e} corner (low small) = by_one (ℕ_discrete e 1)
        where
          by_one : Dec (e ≡ 1) → Either (Only 1) (Only 2) e
          by_one (yes one) = inl one
          by_one (no different) = inr (omega (arith, corner.least))
