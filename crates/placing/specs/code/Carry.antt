-- The steps of a trial on its bytes: taking a corner, closing one, and carrying the decision of a site to the others, one by one.
-- Assumes nothing.
use Rattle.std.specs.Prelude.{◌≡◌, refl, Bool, true, false, List, ◌≢◌, ◌⊎◌, ℕ, ◌+◌, ◌-◌, ◌*◌, ◌≤◌, ◌<◌, length, get_or, set}
use Rattle.std.proofs.Common.{sym, ap, ◌∙◌, true≢false, inl, inr, ⊎_elim, lt_of_lt_of_le, arith, get_or-set_same, get_or-set_other}
use Rattle.std.proofs.Math.Path.{fun_ext}
use Rattle.std.proofs.Math.Logic.{Ne-symm}
use Rattle.std.proofs.Math.Decide.{ℕ_discrete}
use Rattle.placing.specs.declared.corner.Directions.{Directions}
use Rattle.placing.specs.declared.geometry.Label.{Label}
use Rattle.placing.specs.declared.fresh.State.{State}
use Rattle.placing.specs.declared.labels.Labels.{Labels}
use Rattle.placing.specs.rules.Corner.{Corner, directions_of}
use Rattle.placing.specs.rules.Units.{most_sites, site_at}
use Rattle.placing.specs.rules.Choice.{corner_at}
use Rattle.placing.specs.search.Problem.{Problem}
use Rattle.placing.specs.search.Rows.{index_of, row_of, row_zero, row_at, open-corner, row_same, row_written, row_kept, row-elsewhere}
use Rattle.placing.specs.search.State.{SomeOpen, TwoOpen, Only, CarriedTo}
use Rattle.placing.specs.code.Filled.{Filled, filled-elsewhere}
use Rattle.placing.specs.code.Labels.{count_of, problem_of}
use Rattle.placing.specs.code.Asks.{MayCarryTo, MayCarry, MayCarryCorner}
use Rattle.placing.specs.code.Steps.{Lone, NoneOpen, TakenCorner, ClosedCorner, Settled, label_at, Clash, CarriedThere, CarriedOut}

-- All corners of site i are closed.
abbrev pub Cleared : (i e : ℕ) (opens opens' : List ℕ) → Type 0
Cleared i = Filled 0 (λ k byte. byte ≡ 0) (4 * i)

-- The bytes with corner c of site j written as v.
abbrev written : List ℕ → ℕ → ℕ → ℕ → List ℕ
written opens j c v = set opens (index_of j c) v

-- Clearing a site and writing one corner takes that corner.
pub taken-corner : {state : State} {cleared : List ℕ} {i c : ℕ} → length state.opens ≡ 4 * most_sites → length state.decided ≡ most_sites
    → i < most_sites → Corner c → Cleared i 4 state.opens cleared
    → TakenCorner state i c (record { opens = written cleared i c 1; decided = set state.decided i c })
taken-corner {state} {cleared} {i} {c} opens_size decided_size listed corner zeros =
    record {
      lone = record { is_open = row_written cleared i c 1 corner (omega (arith, zeros.size)); alone = λ e. alone e (ℕ_discrete e c) };
      takes = get_or-set_same state.decided i c 0 (omega arith);
      elsewhere = λ j different.
          row-elsewhere cleared i c 1 corner j different
          ∙ fun_ext (λ e. row_same state.opens cleared j e (filled-elsewhere zeros j e different));
      decided_elsewhere = λ j different. get_or-set_other state.decided i j c 0 different;
    }
  where
    alone : (e : ℕ) → Dec (e ≡ c) → row_of (written cleared i c 1) i e ≡ 1 → e ≡ c
    alone e (yes same) is_open = same
    alone e (no different) is_open =
        let was-open = sym (row_kept cleared i c 1 corner e different) ∙ is_open in
        let there = open-corner cleared i e was-open in
        absurd (omega (arith, row_at cleared i e there, zeros.there (e - 1) (omega arith)))

module _ (state : State) (j c : ℕ) (fits : index_of j c < length state.opens) (corner : Corner c) where
  -- Closing a corner, whatever is left of the site and decided for it.
  closed-corner : (ok : Bool) (decided' : List ℕ) → ((i : ℕ) → i ≢ j → corner_at decided' i ≡ corner_at state.decided i)
      → (ok ≡ false → NoneOpen (row_of (written state.opens j c 0) j))
      → (ok ≡ true
      → Lone (row_of (written state.opens j c 0) j) (corner_at decided' j)
      ⊎ (SomeOpen (row_of (written state.opens j c 0) j) × (corner_at decided' j ≡ corner_at state.decided j)))
      → ClosedCorner state j c ok (record { opens = written state.opens j c 0; decided = decided' })
  closed-corner ok decided' decided_elsewhere none_left some_left =
      record {
        shut = λ is_open. omega (arith, row_written state.opens j c 0 corner fits);
        kept = row_kept state.opens j c 0 corner;
        elsewhere = row-elsewhere state.opens j c 0 corner;
        decided_elsewhere = decided_elsewhere;
        none_left = none_left;
        some_left = some_left;
      }

  -- It leaves none.
  pub closed_none : NoneOpen (row_of (written state.opens j c 0) j)
      → ClosedCorner state j c false (record state { opens = written state.opens j c 0 })
  closed_none none = closed-corner false state.decided (λ i different. refl) (λ e. none) (λ e. absurd (true≢false (sym e)))

  -- It leaves one, which is decided.
  pub closed-lone : (k : ℕ) → j < length state.decided → Lone (row_of (written state.opens j c 0) j) k
      → ClosedCorner state j c true (record { opens = written state.opens j c 0; decided = set state.decided j k })
  closed-lone k listed lone =
      closed-corner true (set state.decided j k) (λ i different. get_or-set_other state.decided j i k 0 different)
      (λ e. absurd (true≢false e)) (λ e. inl (rw (get_or-set_same state.decided j k 0 listed) lone))

  -- It leaves more.
  pub closed_some : SomeOpen (row_of (written state.opens j c 0) j)
      → ClosedCorner state j c true (record state { opens = written state.opens j c 0 })
  closed_some some = closed-corner true state.decided (λ i different. refl) (λ e. absurd (true≢false e)) (λ e. inr (some, refl))

module _ (P : Problem) (state : State) (k j : ℕ) (settled : Settled state j) where
  -- Where no open corner of site j that is looked at is in conflict, nothing is to be done.
  carried_same : {Looked : ℕ → Type 0}
      → (j ≢ k → (e : ℕ) → Looked e → row_of state.opens j e ≡ 1 → P.Conflict k (corner_at state.decided k) j e → ⊥)
      → CarriedThere P Looked state k j true state
  carried_same apart =
      record {
        elsewhere = λ i different. refl;
        decided_elsewhere = λ i different. refl;
        own = refl;
        own_decided = refl;
        carried = λ e different. record {
          closes = λ e is_open. is_open;
          apart = apart different;
          keeps = λ e is_open. inl is_open;
          stays_decided = λ d. refl;
          stays_open = λ d. (settled.settled d).is_open;
          decides_open = λ free taken. absurd (taken free);
          decides_alone = λ e free taken. absurd (taken free);
          two_left = λ e free was-open shut. absurd (shut was-open);
        };
        stuck_other = λ e. absurd (true≢false e);
        stuck = λ e. absurd (true≢false e);
      }

  -- Where corner c of site j is closed, which was open and in conflict, the decision is carried there, with c looked at.
  carried-closed : (c : ℕ) (ok : Bool) (state' : State) → j ≢ k → row_of state.opens j c ≡ 1 → P.Conflict k (corner_at state.decided k) j c
      → ClosedCorner state j c ok state'
      → CarriedThere P (Only c) state k j ok state'
  carried-closed c ok state' different was-open conflict closed =
      record {
        elsewhere = closed.elsewhere;
        decided_elsewhere = closed.decided_elsewhere;
        own = closed.elsewhere k (Ne-symm different);
        own_decided = closed.decided_elsewhere k (Ne-symm different);
        carried = λ yes-ok other. carried (closed.some_left yes-ok);
        stuck_other = λ no_ok. different;
        stuck = λ no_ok e was. ⊎_elim (λ still. absurd ((closed.none_left no_ok).none_open e still)) (λ x. x) (keeps e was);
      }
    where
      keeps : (e : ℕ) → row_of state.opens j e ≡ 1 → (row_of state'.opens j e ≡ 1) ⊎ P.Conflict k (corner_at state.decided k) j e
      keeps e was = from (ℕ_discrete e c)
        where
          from : Dec (e ≡ c) → (row_of state'.opens j e ≡ 1) ⊎ P.Conflict k (corner_at state.decided k) j e
          from (yes p) = inr (rw p conflict)
          from (no d) = inl (closed.kept e d ∙ was)

      other : (e : ℕ) → row_of state'.opens j e ≡ 1 → e ≢ c
      other e still p = closed.shut (rw p at still)

      closes : (e : ℕ) → row_of state'.opens j e ≡ 1 → row_of state.opens j e ≡ 1
      closes e still = sym (closed.kept e (other e still)) ∙ still

      -- A decided site had no other corner open, so none is left.
      none-decided : (e : ℕ) → row_of state'.opens j e ≡ 1 → corner_at state.decided j ≢ 0 → ⊥
      none-decided e still d =
          let lone = settled.settled d in
          other e still (lone.alone e (closes e still) ∙ sym (lone.alone c was-open))

      Left' : Type 0
      Left' =
          Lone (row_of state'.opens j) (corner_at state'.decided j) ⊎ (SomeOpen (row_of state'.opens j) × (corner_at state'.decided j ≡ corner_at state.decided j))

      undecided : Left' → corner_at state.decided j ≢ 0 → ⊥
      undecided (inl lone) = none-decided (corner_at state'.decided j) lone.is_open
      undecided (inr some) = none-decided some.0.one some.0.one_open

      decides : Left' → corner_at state.decided j ≡ 0 → corner_at state'.decided j ≢ 0 → Lone (row_of state'.opens j) (corner_at state'.decided j)
      decides (inl lone) free taken = lone
      decides (inr some) free taken = absurd (taken (some.1 ∙ free))

      two_left : Left' → corner_at state'.decided j ≡ 0 → TwoOpen state'.opens j
      two_left (inl lone) free = absurd (omega (arith, row_zero state'.opens j, rw free at lone.is_open))
      two_left (inr some) free = some.0

      carried : Left' → CarriedTo P (Only c) state.opens state.decided k j state'.opens state'.decided
      carried left =
          record {
            closes = closes;
            apart = λ e same still conflict. other e still same;
            keeps = keeps;
            stays_decided = λ d. absurd (undecided left d);
            stays_open = λ d. absurd (undecided left d);
            decides_open = λ free taken. (decides left free taken).is_open;
            decides_alone = λ e free taken. (decides left free taken).alone e;
            two_left = λ e free was-open shut. two_left left free;
          }

module _ {labels : Labels} {state : State} {k : ℕ} {own : Label} {j e : ℕ} {toward : Directions}
    (may : MayCarryTo labels state k own j e toward) where
  -- Carrying the decision of site k to corner e of site j: it is open, meets the label of site k, and was closed.
  pub carried-meeting : (ok : Bool) (state' : State) → get_or state.opens (index_of j e) 0 ≡ 1
      → Clash labels k (corner_at state.decided k) j e → ClosedCorner state j e ok state'
      → CarriedThere (problem_of labels) (Only e) state k j ok state'
  carried-meeting ok state' is_open clash closed =
      carried-closed (problem_of labels) state k j may.settled e ok state' clash.different
      (row_at state.opens j e may.corner ∙ is_open) clash.meets closed

  -- It is not open, or does not meet the label of site k.
  pub carried-apart : (get_or state.opens (index_of j e) 0 ≡ 1 → Clash labels k (corner_at state.decided k) j e → ⊥)
      → CarriedThere (problem_of labels) (Only e) state k j true state
  carried-apart apart =
      carried_same (problem_of labels) state k j may.settled
      (λ different f same is_open meets.
      apart (sym (row_at state.opens j e may.corner) ∙ rw same at is_open) (record { different = different; meets = rw same at meets }))

-- What carrying out does to site j is of its row and decision, and of the decision of site k.
carried-moved : {P : Problem} {Looked : ℕ → Type 0} {opens opens₁ opens' opens₁' decided decided₁ decided' decided₁' : List ℕ} {k j : ℕ}
    → row_of opens j ≡ row_of opens₁ j → corner_at decided j ≡ corner_at decided₁ j → corner_at decided k ≡ corner_at decided₁ k
    → row_of opens' j ≡ row_of opens₁' j → corner_at decided' j ≡ corner_at decided₁' j → CarriedTo P Looked opens decided k j opens' decided'
    → CarriedTo P Looked opens₁ decided₁ k j opens₁' decided₁'
carried-moved rows decision own rows' decision' carried =
    record {
      closes = rw (rows, rows') at carried.closes;
      apart = rw (own, rows') at carried.apart;
      keeps = rw (rows, own, rows') at carried.keeps;
      stays_decided = rw (decision, decision') at carried.stays_decided;
      stays_open = rw (decision, rows') at carried.stays_open;
      decides_open = rw (decision, decision', rows') at carried.decides_open;
      decides_alone = rw (decision, decision', rows') at carried.decides_alone;
      two_left = rw (rows, decision', rows') at carried.two_left;
    }

-- Site i is as it was.
pub record SameSite (state state' : State) (i : ℕ) : Type 0 where
  pub row : row_of state'.opens i ≡ row_of state.opens i
  pub decision : corner_at state'.decided i ≡ corner_at state.decided i

-- The decision of site k was carried to the other sites below j; the sites from j on, and k, are as they were.
pub record CarriedBelow (P : Problem) (Looked : ℕ → Type 0) (state₀ : State) (k j : ℕ) (state : State) : Type 0 where
  pub carried : (i : ℕ) → i < j → i ≢ k → CarriedTo P Looked state₀.opens state₀.decided k i state.opens state.decided
  pub later : (i : ℕ) → j ≤ i → SameSite state₀ state i
  pub own : SameSite state₀ state k

-- It starts at site `from`: below it nothing is to be done.
pub carried-start : {labels : Labels} {state : State} {k from : ℕ} {Looked : ℕ → Type 0}
    → MayCarry labels state k from → CarriedBelow (problem_of labels) Looked state k from state
carried-start {labels} {state} {k} may =
    record {
      carried = λ i below different.
          (carried_same (problem_of labels) state k i (may.settled.all_settled i (lt_of_lt_of_le below may.inside))
          (λ other e looked. (may.apart_below i below other).apart e)
          ).carried refl different;
      later = λ i reached. as_is i;
      own = as_is k;
    }
  where
    as_is : (i : ℕ) → SameSite state state i
    as_is i = record { row = refl; decision = refl }

module _ {P : Problem} {Looked : ℕ → Type 0} {state₀ : State} {k j : ℕ} {state : State}
    (below : CarriedBelow P Looked state₀ k j state) where
  -- After all sites the decision is carried out.
  pub carried-all : P.n ≤ j → CarriedOut P Looked state₀ k true state
  carried-all end =
      record {
        carried = λ e. record {
          others = λ i listed different. below.carried i (omega arith) different;
          own_open = λ e. ap (λ r. r e) below.own.row;
          own_decided = below.own.decision;
        };
        stuck = λ e. absurd (true≢false e);
      }

  module _ {ok : Bool} {state' : State} (there : CarriedThere P Looked state k j ok state') where
    -- It goes on to one more site.
    pub carried-more : ok ≡ true → CarriedBelow P Looked state₀ k (j + 1) state'
    carried-more yes-ok =
        record {
          carried = λ i reached other. from i reached other (ℕ_discrete i j);
          later = λ i reached. kept i (omega arith) (below.later i (omega arith));
          own = record { row = there.own ∙ below.own.row; decision = there.own_decided ∙ below.own.decision };
        }
      where
        kept : (i : ℕ) → i ≢ j → SameSite state₀ state i → SameSite state₀ state' i
        kept i other same =
            record { row = there.elsewhere i other ∙ same.row; decision = there.decided_elsewhere i other ∙ same.decision }

        from : (i : ℕ) → i < j + 1 → i ≢ k → Dec (i ≡ j)
            → CarriedTo P Looked state₀.opens state₀.decided k i state'.opens state'.decided
        from i reached other (yes p) =
            let same = below.later j (omega arith) in
            rw p
            (carried-moved same.row same.decision below.own.decision refl refl
            (there.carried yes-ok (rw p at other)))
        from i reached other (no d) =
            carried-moved refl refl refl (sym (there.elsewhere i d))
            (sym (there.decided_elsewhere i d))
            (below.carried i (omega arith) other)

    -- A site left with no corner sticks.
    pub carried-stuck : j < P.n → ok ≡ false → CarriedOut P Looked state₀ k false state'
    carried-stuck listed no_ok =
        let same = below.later j (omega arith) in
        record {
          carried = λ e. absurd (true≢false (sym e));
          stuck = λ e. record {
            site = j;
            listed = listed;
            different = there.stuck_other no_ok;
            all_conflict = λ e was.
                rw below.own.decision at (there.stuck no_ok e (ap (λ r. r e) same.row ∙ was));
          };
        }

-- On its way it may be carried to the next site.
pub may-carry-to : {labels : Labels} {P : Problem} {Looked : ℕ → Type 0} {state₀ state : State} {k e from j : ℕ} {own : Label}
    {toward : Directions} → MayCarryCorner labels state₀ k e from → CarriedBelow P Looked state₀ k j state → j < count_of labels
    → own ≡ label_at (site_at labels.sites.now k) (corner_at state₀.decided k) → toward ≡ directions_of e
    → MayCarryTo labels state k own j e toward
may-carry-to {j = j} asked below listed label_is toward_is =
    let may = asked.carrying in
    let same = below.later j (omega arith) in
    record {
      from = may.listed;
      to = listed;
      corner = asked.corner;
      label_is = rw below.own.decision label_is;
      toward_is = toward_is;
      settled = record { settled = rw (same.row, same.decision) (may.settled.all_settled j listed).settled };
    }
