-- The end of the walk: the decisions are a solution, and none comes before it in the order of lists of corners.
-- Assumes nothing.
use Rattle.std.specs.Prelude.{◌≡◌, refl, List, ◌∷◌, ℕ, zero, suc, ◌≤◌, ◌<◌, length, take}
use Rattle.std.proofs.Common.{sym, ◌∙◌, ⊎_elim, zero-le, suc-le-suc, le_of_suc-le-suc, not-suc-le-zero, arith, length-take-le, get_or-take}
use Rattle.std.proofs.Math.Decide.{dec_lt}
use Rattle.placing.specs.rules.Choice.{corner_at, Before, lower, later}
use Rattle.placing.specs.search.Problem.{Problem, Solution}
use Rattle.placing.specs.search.Rows.{row_of}
use Rattle.placing.specs.search.State.{Follows, Greater, Walked}
use Rattle.placing.specs.search.Walk.{follows-decided}

-- The same corner at one more site before the others.
greater-later : {c i : ℕ} {es cs : List ℕ} → Greater es i cs → Greater (c ∷ es) (suc i) (c ∷ cs)
greater-later {c} {i} {es} {cs} g =
    record { at = suc g.at; below = suc-le-suc g.below; same = same; greater = g.greater }
  where
    same : (m : ℕ) → m < suc g.at → corner_at (c ∷ cs) m ≡ corner_at (c ∷ es) m
    same zero earlier = refl
    same (suc m) earlier = g.same m (le_of_suc-le-suc earlier)

-- Of two lists the one that comes after has the greater corner at the first site where they differ.
before-greater : {es cs : List ℕ} → Before es cs → Greater es (length cs) cs
before-greater (lower less) =
    record { at = 0; below = suc-le-suc zero-le; same = λ m none. absurd (not-suc-le-zero none); greater = less }
before-greater (later b) = greater-later (before-greater b)

-- Of two lists at most one has the greater corner there.
not-both-greater : {cs es : List ℕ} {i k : ℕ} → Greater cs i es → Greater es k cs → ⊥
not-both-greater g b = from (dec_lt g.at b.at) (dec_lt b.at g.at)
  where
    from : Dec (g.at < b.at) → Dec (b.at < g.at) → ⊥
    from (yes first) second = omega (arith, b.same g.at first, g.greater)
    from (no not_first) (yes second) = omega (arith, g.same b.at second, b.greater)
    from (no not_first) (no not-second) =
        let both : g.at ≡ b.at = omega arith in
        omega (arith, rw both at g.greater, b.greater)

module _ {P : Problem} {opens decided : List ℕ} (walked : Walked P P.n opens decided) (room : P.n ≤ length decided) where
  -- The corner of a site among the decisions of the n sites.
  decision : (i : ℕ) → i < P.n → corner_at (take P.n decided) i ≡ corner_at decided i
  decision i listed = get_or-take P.n decided i 0 listed

  -- It is open.
  is_open : (i : ℕ) → i < P.n → row_of opens i (corner_at decided i) ≡ 1
  is_open i listed = walked.closed.decided_open i listed (walked.all_decided i listed listed)

  -- The decisions of the n sites are a solution ..
  pub walk-solution : Solution P (take P.n decided)
  walk-solution =
      record {
        one_each = length-take-le P.n decided room;
        candidate = λ i listed. rw (decision i listed) (walked.closed.candidate i (corner_at decided i) listed (is_open i listed));
        apart = λ i j listed other different.
            rw (decision i listed, decision j other)
            (walked.closed.apart i j (corner_at decided j) listed other different (walked.all_decided i listed listed) (is_open j other));
      }

  -- .. and no solution comes before it: each has the decided corners, or the greater one at the first site where it differs.
  pub walk-none-before : (es : List ℕ) → Solution P es → Before es (take P.n decided) → ⊥
  walk-none-before es solution before =
      ⊎_elim
      (λ follows. omega (arith, above.greater, same follows above.at above.below))
      (λ g. not-both-greater g above)
      (walked.first es solution)
    where
      same : Follows P opens es → (m : ℕ) → m < P.n → corner_at es m ≡ corner_at decided m
      same follows m listed = follows-decided walked.closed follows m listed (walked.all_decided m listed listed)

      above : Greater es P.n decided
      above =
          let g = before-greater before in
          let listed : g.at < P.n = omega (arith, g.below, length-take-le P.n decided room) in
          record {
            at = g.at;
            below = listed;
            same = λ m earlier. sym (decision m (omega arith)) ∙ g.same m earlier;
            greater = rw (decision g.at listed) at g.greater;
          }
