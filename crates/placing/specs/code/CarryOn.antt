-- A trial on the bytes of a state (specs/code/Steps): it takes a corner, then carries out one decision after another, with a table of
-- marks, until a site is left with no corner or no decision waits. The laws of specs/search/Trial do the work.
-- Assumes nothing.
use Rattle.std.specs.Prelude.{◌≡◌, refl, Bool, true, false, List, ◌≢◌, ℕ, ◌≤◌, ◌<◌, length, set}
use Rattle.std.proofs.Common.{sym, ap, ◌∙◌, true≢false, lt_of_lt_of_le, arith, length-set, get_or-set_other}
use Rattle.placing.specs.declared.fresh.State.{State}
use Rattle.placing.specs.declared.labels.Labels.{Labels}
use Rattle.placing.specs.rules.Choice.{corner_at}
use Rattle.placing.specs.search.Problem.{Problem}
use Rattle.placing.specs.search.Rows.{row_of}
use Rattle.placing.specs.search.State.{Every, Underway, Closed, Later, Took}
use Rattle.placing.specs.search.Trial.{trial-begins, trial-later-start, carried-underway, carried_later, stuck-refused, trial-closed}
use Rattle.placing.specs.code.Steps.{Done, AllSettled, TakenCorner, CarriedOut, Waits, NoneWaits, Marked, CarriedOn, Tried}
use Rattle.placing.specs.code.Labels.{count_of, problem_of, met_looked}
use Rattle.placing.specs.code.Asks.{MayCarryOut, MayCarryOn}
use Rattle.placing.specs.code.Marks.{mark-stays, none-waits-marked}

-- Some decisions have been carried out since the state state₀: the marked ones, those of the sites below `from` among them.
pub record CarryingOn (P : Problem) (from : ℕ) (state₀ state : State) (marks : List ℕ) : Type 0 where
  pub room : length marks ≡ P.n
  pub underway : Underway P state.opens state.decided (Done marks)
  pub later : (w d : List ℕ) (i c : ℕ) → i < P.n → c ≢ 0
      → Later P w d i c state₀.opens state₀.decided → Later P w d i c state.opens state.decided
  pub marked_below : (j : ℕ) → j < from → Done marks j

-- Carrying on starts with the state as it is.
pub carrying-starts : {labels : Labels} {state : State} {marks : List ℕ} {from : ℕ}
    → MayCarryOn labels state marks from
    → CarryingOn (problem_of labels) from state state marks
carrying-starts may =
    record {
      room = may.room;
      underway = may.underway;
      later = λ w d i c inside some later. later;
      marked_below = may.marked_below;
    }

module _ {P : Problem} {from : ℕ} {state₀ state : State} {marks : List ℕ}
    (so_far : CarryingOn P from state₀ state marks) where
  -- The decided corner of every decided site alone is open.
  carrying-settled : AllSettled P.n state
  carrying-settled =
      record {
        all_settled = λ j inside. record {
          settled = λ d. record {
            is_open = so_far.underway.decided_open j inside d;
            alone = λ e. so_far.underway.decided_alone j e inside d;
          };
        };
      }

  -- No site below `from` waits.
  pub none_below : (j : ℕ) → j < from → Waits state marks j → ⊥
  none_below j below waiting = waiting.unmarked (so_far.marked_below j below)

  -- Where no decision waits, the trial has carried on.
  pub carrying-ends : NoneWaits state marks P.n → CarriedOn P state₀ true state
  carrying-ends none =
      record {
        closed = λ e. trial-closed so_far.underway (none-waits-marked none);
        later = λ e. so_far.later;
        refused = λ e. absurd (true≢false e);
      }

  module _ {k : ℕ} (listed : k < P.n) (is_decided : corner_at state.decided k ≢ 0) where
    -- What is decided is a candidate.
    carrying-candidate : P.Candidate k (corner_at state.decided k)
    carrying-candidate =
        so_far.underway.candidate k (corner_at state.decided k) listed (so_far.underway.decided_open k listed is_decided)

    -- It conflicts with no open corner of a site below `from`: of that site the decided corner alone is open, and its decision has
    -- been carried out.
    carrying-apart : (j : ℕ) → j < from → j < P.n → j ≢ k → (e : ℕ) → row_of state.opens j e ≡ 1
        → P.Conflict k (corner_at state.decided k) j e → ⊥
    carrying-apart j below inside different e is_open conflict =
        let so = so_far.underway in
        let done = so_far.marked_below j below in
        let taken = so.decided_alone j e inside (so.done_decided j inside done) is_open in
        so.apart j k (corner_at state.decided k) inside listed different done (so.decided_open k listed is_decided)
        (rw taken at (P.symmetric k (corner_at state.decided k) j e conflict))

    module _ {ok : Bool} {state' : State} (out : CarriedOut P Every state k ok state') where
      -- After the decision of site k is carried out and k is marked, the trial goes on ..
      pub carrying-on : ok ≡ true → CarryingOn P from state₀ state' (set marks k 1)
      carrying-on went =
          let carried = out.carried went in
          record {
            room = rw length-set so_far.room;
            underway = carried-underway so_far.underway listed is_decided carried
                (λ j inside different done. sym (get_or-set_other marks k j 1 0 different) ∙ done);
            later = λ w d i c inside some later.
                carried_later so_far.underway listed is_decided carried inside some (so_far.later w d i c inside some later);
            marked_below = λ j below. mark-stays marks j (rw so_far.room listed) (so_far.marked_below j below);
          }

      -- .. and where a site is left with no corner, it has failed.
      pub carrying-stuck : ok ≡ false → CarriedOn P state₀ false state'
      carrying-stuck failed =
          record {
            closed = λ e. absurd (true≢false (sym e));
            later = λ e. absurd (true≢false (sym e));
            refused = λ e w d i c inside some later.
                stuck-refused so_far.underway listed is_decided (out.stuck failed) (so_far.later w d i c inside some later);
          }

-- A decision may be carried out: open corners are allowed, so that those whose labels meet it are looked at.
pub may-carry-out : {labels : Labels} {state₀ state : State} {marks : List ℕ} {k from : ℕ}
    → from ≤ count_of labels → CarryingOn (problem_of labels) from state₀ state marks → k < count_of labels
    → corner_at state.decided k ≢ 0 → MayCarryOut labels state k from
may-carry-out {labels} inside so_far listed is_decided =
    let own = carrying-candidate so_far listed is_decided in
    record {
      carrying = record {
        listed = listed;
        corner = own.corner;
        settled = carrying-settled so_far;
        inside = inside;
        apart_below = λ j below different. record {
          apart = carrying-apart so_far listed is_decided j below (lt_of_lt_of_le below inside) different;
        };
      };
      met_looked = λ j other different. record {
        looked = λ e is_open. met_looked labels.way labels.side.0 labels.sites.now listed other different own (so_far.underway.candidate j e other is_open);
      };
    }

module _ {P : Problem} {state state' : State} {marks : List ℕ} {i c : ℕ}
    (closed : Closed P state.opens state.decided) (listed : i < P.n) (undecided : corner_at state.decided i ≡ 0)
    (is_open : row_of state.opens i c ≡ 1) (taken : TakenCorner state i c state') (marked : Marked state P.n marks) where
  -- A trial starts by taking a corner ..
  took : Took P state.opens state.decided i c state'.opens state'.decided
  took =
      record {
        takes = taken.takes;
        is_open = taken.lone.is_open;
        alone = taken.lone.alone;
        others_open = λ j e inside different. ap (λ (row : ℕ → ℕ). row e) (taken.elsewhere j different);
        others_decided = λ j inside. taken.decided_elsewhere j;
      }

  -- .. and is under way, with the sites decided before marked.
  pub taken-underway : Underway P state'.opens state'.decided (Done marks)
  taken-underway = trial-begins closed listed undecided is_open took (λ j inside done u. marked.unmarked j inside u done)

  -- The open corner is a corner ..
  some : c ≢ 0
  some = let corner = P.corner i c (closed.candidate i c listed is_open) in omega arith

  -- .. and what the trial has taken lies later from its start.
  start : Later P state.opens state.decided i c state'.opens state'.decided
  start = trial-later-start closed listed undecided is_open took

  module _ {ok : Bool} {state'' : State} (on : CarriedOn P state' ok state'') where
    -- Once it has carried on, the corner has been tried ..
    pub trial-passes : ok ≡ true → Tried P state i c true state''
    trial-passes passed =
        record {
          closed = λ e. on.closed passed;
          later = λ e. on.later passed state.opens state.decided i c listed some start;
          refused = λ e. absurd (true≢false e);
          back = λ e. absurd (true≢false e);
        }

    -- .. and where that failed, the state it started from is put back.
    pub trial-fails : ok ≡ false → Tried P state i c false state
    trial-fails failed =
        record {
          closed = λ e. absurd (true≢false (sym e));
          later = λ e. absurd (true≢false (sym e));
          refused = λ e. on.refused failed state.opens state.decided i c listed some start;
          back = λ e. refl;
        }
