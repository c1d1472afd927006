-- One site of the walk: its corners are tried from the lowest up, until a trial does not fail.
-- Assumes nothing.
use Rattle.std.specs.Prelude.{◌≡◌, refl, Bool, true, false, List, ◌≢◌, ℕ, ◌+◌, ◌*◌, ◌≤◌, ◌<◌, get_or}
use Rattle.std.proofs.Common.{sym, ◌∙◌, true≢false, arith}
use Rattle.placing.specs.declared.fresh.State.{State}
use Rattle.placing.specs.rules.Choice.{corner_at}
use Rattle.placing.specs.search.Problem.{Problem}
use Rattle.placing.specs.search.Rows.{row_zero, row_next}
use Rattle.placing.specs.search.State.{Refused, Walked}
use Rattle.placing.specs.search.Walk.{refused-closed, walk-takes, walk-stuck}
use Rattle.placing.specs.code.Steps.{Tried, WalkedTo}

-- The corners of site i up to e are refused.
abbrev pub RefusedUpTo : (P : Problem) (opens : List ℕ) (i e : ℕ) → Type 0
RefusedUpTo P opens i e = (c : ℕ) → c ≤ e → Refused P opens i c

-- There is no corner 0.
pub refused_none : {P : Problem} {i : ℕ} (opens : List ℕ) → i < P.n → RefusedUpTo P opens i 0
refused_none {P} {i} opens listed c none =
    refused-closed listed (λ o. let zeroth : c ≡ 0 = omega arith in omega (arith, row_zero opens i, rw zeroth at o))

-- A corner whose byte is not 1 fails without a trial.
pub tried-shut : {P : Problem} {state : State} {i : ℕ} (e : ℕ) → i < P.n → e < 4
    → get_or state.opens (4 * i + e) 0 ≢ 1 → Tried P state i (e + 1) false state
tried-shut {P} {state} {i} e listed corner shut =
    record {
      closed = λ o. absurd (true≢false (sym o));
      later = λ o. absurd (true≢false (sym o));
      refused = λ o. refused-closed listed (λ is_open. shut (sym (row_next state.opens i e corner) ∙ is_open));
      back = λ o. refl;
    }

-- A walk that has come to site i.
pub walked_to : {P : Problem} {i : ℕ} {state : State} → Walked P i state.opens state.decided → WalkedTo P i true state
walked_to walked = record { walked = λ o. walked; no_solution = λ o. absurd (true≢false o) }

-- The first corner whose trial does not fail is taken.
pub takes-corner : {P : Problem} {state state' : State} {i : ℕ} (e : ℕ) {ok : Bool} → Walked P i state.opens state.decided
    → i < P.n → corner_at state.decided i ≡ 0 → RefusedUpTo P state.opens i e → Tried P state i (e + 1) ok state' → ok ≡ true
    → WalkedTo P (i + 1) true state'
takes-corner e walked listed undecided before tried yes-ok =
    walked_to
    (walk-takes walked listed undecided (λ c lower. before c (omega arith)) (tried.closed yes-ok) (tried.later yes-ok) (omega arith))

-- Where every corner is refused there is no solution.
pub takes_none : {P : Problem} {state : State} {i e : ℕ} → Walked P i state.opens state.decided → i < P.n
    → 4 ≤ e → RefusedUpTo P state.opens i e → WalkedTo P (i + 1) false state
takes_none walked listed all before =
    record {
      walked = λ o. let z : ◌≡◌ {A = ℕ} 0 1 = cc in absurd (omega arith);
      no_solution = λ o. walk-stuck walked listed (λ c corner. before c (omega arith));
    }

-- A walk that found no solution found none for any site.
pub walk-over : {P : Problem} {i : ℕ} {ok : Bool} {state : State} (n : ℕ) → ok ≡ false → WalkedTo P i ok state
    → WalkedTo P n false state
walk-over n failed walked =
    record {
      walked = λ o. absurd (true≢false (sym o));
      no_solution = λ o. walked.no_solution failed;
    }
