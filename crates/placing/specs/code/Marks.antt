-- The lent table in which a trial marks the sites whose decisions have been carried out: what marking the decided sites has done by
-- the time it comes to a site, what holds where no site waits, and how many sites have no mark yet.
-- Assumes nothing.
use Rattle.std.specs.Prelude.{◌≡◌, refl, List, ◌≢◌, cond, ℕ, zero, suc, ◌+◌, ◌≤◌, ◌<◌, eqb, length, get_or, set}
use Rattle.std.proofs.Common.{sym, ◌∙◌, not-suc-le-zero, arith, ne_eqb, get_or-set_same, get_or-set_other}
use mathlib.Core.HLevel.{dec→stable}
use Rattle.std.proofs.Math.Decide.{ℕ_discrete}
use Rattle.placing.specs.declared.fresh.State.{State}
use Rattle.placing.specs.rules.Choice.{corner_at}
use Rattle.placing.specs.code.Filled.{Filled, filled_front}
use Rattle.placing.specs.code.Steps.{Done, NoneWaits, mark_of, Marked}

-- The marks of the sites below j are written over a table.
abbrev pub MarkedBelow : (state : State) (table : List ℕ) (j : ℕ) (marks : List ℕ) → Type 0
MarkedBelow state table j marks = Filled 0 (λ k mark. mark ≡ mark_of (corner_at state.decided k)) 0 j table marks

-- 1 for a byte that is no mark.
no_mark : ℕ → ℕ
no_mark m = cond (eqb m 1) 0 1

-- How many of the sites below n have no mark.
pub unmarked_below : ℕ → List ℕ → ℕ
unmarked_below zero marks = 0
unmarked_below (suc n) marks = no_mark (get_or marks n 0) + unmarked_below n marks

-- A mark at n or further on changes nothing below n.
unmarked-same : (n : ℕ) {k : ℕ} (marks : List ℕ) → n ≤ k → unmarked_below n (set marks k 1) ≡ unmarked_below n marks
unfolding unmarked_below
unmarked-same zero marks past = refl
unmarked-same (suc n) {k} marks past =
    let other : n ≢ k = omega arith in
    let below : n ≤ k = omega arith in
    rw (get_or-set_other marks k n 1 0 other, unmarked-same n marks below)

-- Marking a site below n that has no mark leaves fewer without one.
pub mark-fewer : (n : ℕ) {k : ℕ} (marks : List ℕ) → k < n → k < length marks → get_or marks k 0 ≢ 1
    → unmarked_below n (set marks k 1) < unmarked_below n marks
unfolding unmarked_below no_mark
mark-fewer zero marks reached here none = absurd (not-suc-le-zero reached)
mark-fewer (suc n) {k} marks reached here none = from (ℕ_discrete n k) (λ below. mark-fewer n marks below here none)
  where
    from : Dec (n ≡ k) → (k < n → unmarked_below n (set marks k 1) < unmarked_below n marks)
        → unmarked_below (suc n) (set marks k 1) < unmarked_below (suc n) marks
    from (yes p) fewer =
        let below : k ≤ k = omega arith in
        rw (p, get_or-set_same marks k 1 0 here, unmarked-same k marks below, ne_eqb (get_or marks k 0) 1 none) (omega arith)
    from (no d) fewer = rw (get_or-set_other marks k n 1 0 d) (omega (arith, fewer (omega arith)))

-- A marked site stays marked.
pub mark-stays : {k : ℕ} (marks : List ℕ) (j : ℕ) → k < length marks → Done marks j → Done (set marks k 1) j
mark-stays {k} marks j here done = from (ℕ_discrete j k)
  where
    from : Dec (j ≡ k) → Done (set marks k 1) j
    from (yes p) = rw p (get_or-set_same marks k 1 0 here)
    from (no d) = get_or-set_other marks k j 1 0 d ∙ done

-- Where no site waits, every decided one is marked.
pub none-waits-marked : {state : State} {marks : List ℕ} {n : ℕ} → NoneWaits state marks n
    → (j : ℕ) → j < n → corner_at state.decided j ≢ 0 → Done marks j
none-waits-marked {state} {marks} none j listed d =
    dec→stable (ℕ_discrete (get_or marks j 0) 1) (λ unmarked. none.none_waits j listed (record { is_decided = d; unmarked = unmarked }))

-- A decided site's mark is 1.
pub mark-decided : (c : ℕ) → c ≢ 0 → mark_of c ≡ 1
mark-decided zero d = absurd (d refl)
mark-decided (suc c) d = refl

-- An undecided one's is not.
mark-undecided : (c : ℕ) → c ≡ 0 → mark_of c ≢ 1
mark-undecided zero u m = omega arith
mark-undecided (suc c) u m = omega arith

-- With the marks of all sites written, exactly the decided ones are marked.
pub marked_all : {state : State} {table marks : List ℕ} {n : ℕ} → MarkedBelow state table n marks → Marked state n marks
marked_all filled =
    record {
      marked = λ j listed d. filled_front filled j listed ∙ mark-decided _ d;
      unmarked = λ j listed u m. mark-undecided _ u (sym (filled_front filled j listed) ∙ m);
    }
