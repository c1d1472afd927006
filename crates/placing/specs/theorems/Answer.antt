-- Laws of rules/Answer: plain search gives what document 01 says, and there is one answer. Of good choices they use the four facts that
-- stand at the head of theorems/Choice.
-- Assumes nothing.
use Rattle.std.specs.Prelude.{◌≡◌, List, length}
use Rattle.std.proofs.Common.{sym, ap, subst, arith, lit≤}
use Rattle.std.proofs.Math.Option.{Option, none, some}
use Prim.Native.Nat.{ℕ, zero, suc, ◌≤◌, ◌<◌}
use Rattle.std.proofs.Math.Decide.{dec_lt}
use Rattle.placing.specs.declared.units.Place.{Place}
use Rattle.placing.specs.declared.way.Way.{Way}
use Rattle.placing.specs.declared.units.Side.TheVariants.{Number, Free}
use Rattle.placing.specs.rules.Units.{Distinct, InRange, greatest_side, free_side}
use Rattle.placing.specs.rules.Choice.{Good, SomeGood, First}
use Rattle.placing.specs.rules.Answer.{Answer, numbered, free, IsAnswer, is_free, is_number}
use Rattle.placing.specs.deciding.Decides.{holds-yes}
use Rattle.placing.specs.deciding.Tests.{good_test}
use Rattle.placing.specs.deciding.Enumerate.{FirstWith, found, missing, first-with-same, nothing-found, finds-nothing, found_first}
use Rattle.placing.specs.deciding.Enumerate.{first-of}
use Rattle.placing.specs.deciding.Answer.{first_good, greatest, answer_of}
use Rattle.placing.specs.theorems.Choice.{good-smaller, good-one-exists, good-at-free, good-decided, first-unique}

-- The side h has no good choice.
abbrev pub NoneGood : Way → ℕ → List Place → Type 0
NoneGood way h ps = (es : List ℕ) → Good way h ps es → ⊥

-- The enumeration finds the first good choice.
pub finds-first-good : (way : Way) (h : ℕ) (ps : List Place) → FirstWith (Good way h ps) (first_good way h ps)
unfolding first_good
finds-first-good way h ps =
    first-with-same (λ cs passed. (good-decided way h ps cs).yes_holds passed.1)
    (λ cs good. (good.corners, holds-yes (good-decided way h ps cs) good)) (first-of (length ps) (good_test way h ps))

module _ {way : Way} {h : ℕ} {ps : List Place} where
  -- What it finds is the first good choice,
  pub first_good-some : {cs : List ℕ} → first_good way h ps ≡ some cs → First way h ps cs
  first_good-some = found_first (finds-first-good way h ps)

  -- the first good choice is what it finds,
  pub first_found : {cs : List ℕ} → First way h ps cs → first_good way h ps ≡ some cs
  first_found {cs} first = by-found (finds-first-good way h ps)
    where
      by-found : {o : Option (List ℕ)} → FirstWith (Good way h ps) o → o ≡ some cs
      by-found (found good none_before) = ap some (first-unique (record { good = good; none_before = none_before }) first)
      by-found (missing no_good) = absurd (no_good cs first.good)

  -- where it finds nothing there is no good choice,
  pub first_good-none : first_good way h ps ≡ none → NoneGood way h ps
  first_good-none = nothing-found (finds-first-good way h ps)

  -- and where there is none it finds nothing.
  pub none_found : NoneGood way h ps → first_good way h ps ≡ none
  none_found = finds-nothing (finds-first-good way h ps)

-- Where a good choice exists there is a first one.
pub some_first : {way : Way} {h : ℕ} {ps : List Place} {A : Type 0} → SomeGood way h ps → ((cs : List ℕ) → First way h ps cs → A) → A
some_first {way} {h} {ps} {A} some_good next = by-found (finds-first-good way h ps)
  where
    by-found : {o : Option (List ℕ)} → FirstWith (Good way h ps) o → A
    by-found (found {cs} good none_before) = next cs (record { good = good; none_before = none_before })
    by-found (missing no_good) = absurd (no_good some_good.choice some_good.good)

-- Where h has no good choice no greater side has one.
none_above : {way : Way} {h : ℕ} {ps : List Place} → NoneGood way h ps → (k : ℕ) → h ≤ k → NoneGood way k ps
none_above no_good k greater es good = no_good es (good-smaller greater good)

module _ (way : Way) (ps : List Place) (places : Distinct ps) where
  -- A side without a good choice is above 1.
  above-one : (h : ℕ) → NoneGood way (suc h) ps → 1 ≤ h
  above-one zero no_good = absurd (no_good _ (good-one-exists places))
  above-one (suc h) no_good = omega arith

  -- What follows a search for good choices at h gives the answer, if it does so after each of its two ends.
  after-search : {h : ℕ} {o : Option (List ℕ)} {done : List ℕ → Answer} {else : Answer} → FirstWith (Good way h ps) o
      → ((cs : List ℕ) → First way h ps cs → IsAnswer way ps (done cs)) → (NoneGood way h ps → IsAnswer way ps else)
      → IsAnswer way ps (elim o [ some cs ↦ done cs | none ↦ else ])
  after-search (found {cs} good none_before) is-done is-else = is-done cs (record { good = good; none_before = none_before })
  after-search (missing none_here) is-done is-else = is-else none_here

  -- From a side down above which there is no good choice, the search finds the answer.
  greatest-is : (h : ℕ) → 1 ≤ h → h ≤ greatest_side → NoneGood way free_side ps → ((k : ℕ) → h < k → NoneGood way k ps)
      → IsAnswer way ps (greatest way h ps)
  unfolding greatest
  greatest-is zero least most not-free above = absurd (omega arith)
  greatest-is (suc h) least most not-free above =
      after-search (finds-first-good way (suc h) ps) (λ cs first. is_number not-free least most first above)
      (λ none_here. greatest-is h (above-one h none_here) (omega arith) not-free (none_above none_here))

  -- The search gives what document 01 says.
  pub answer-is : IsAnswer way ps (answer_of way ps)
  unfolding answer_of
  answer-is =
      after-search (finds-first-good way free_side ps) (λ cs. is_free)
      (λ not-free. greatest-is greatest_side (lit≤ tt) (lit≤ tt) not-free (none_above not-free))

-- There is one answer.
pub answer-unique : {way : Way} {ps : List Place} {one other : Answer} → IsAnswer way ps one → IsAnswer way ps other → one ≡ other
answer-unique (is_free first) (is_free first') = ap free (first-unique first first')
answer-unique (is_free first) (is_number not-free least most first' above) = absurd (not-free _ first.good)
answer-unique (is_number not-free least most first above) (is_free first') = absurd (not-free _ first'.good)
answer-unique {way} {ps} (is_number {h} {cs} not-free least most first above) (is_number {h = k} {cs = es} not-free' least' most' first' above') =
    let side : h ≡ k = same-side (dec_lt h k) (dec_lt k h) in
    let corners : cs ≡ es = first-unique (subst (λ j. First way j ps cs) side first) first' in
    λ i. numbered (side i) (corners i)
  where
    same-side : Dec (h < k) → Dec (k < h) → h ≡ k
    same-side (yes less) more = absurd (above k less es first'.good)
    same-side (no not-less) (yes more) = absurd (above' h more cs first.good)
    same-side (no not-less) (no not_more) = omega arith

-- An answer is the one that the search gives, and the other way round.
pub is-answer-of : {way : Way} {ps : List Place} {answer : Answer} → Distinct ps → IsAnswer way ps answer → answer ≡ answer_of way ps
is-answer-of {way} {ps} places is_answer = answer-unique is_answer (answer-is way ps places)

-- A side that has a first good choice while the next side has none is the answer's.
pub answer-found : {way : Way} {ps : List Place} {h : ℕ} {cs : List ℕ} → Distinct ps → 1 ≤ h → h ≤ greatest_side → First way h ps cs
    → NoneGood way (suc h) ps → answer_of way ps ≡ numbered h cs
answer-found places least most first none-next =
    sym (is-answer-of places (is_number (none_above none-next free_side (omega arith)) least most first (λ k. none_above none-next k)))

-- A first good choice at 20,001 is the answer's.
pub answer-free : {way : Way} {ps : List Place} {cs : List ℕ} → Distinct ps → First way free_side ps cs → answer_of way ps ≡ free cs
answer-free places first = sym (is-answer-of places (is_free first))

-- So the answer's side is one that has a good choice while the next side has none,
pub side-found : {way : Way} {ps : List Place} {h : ℕ} → Distinct ps → 1 ≤ h → h ≤ greatest_side → SomeGood way h ps
    → NoneGood way (suc h) ps → (answer_of way ps).side ≡ Number (record { 0 = h })
side-found places least most some_good none-next =
    some_first some_good (λ cs first. ap (λ (a : Answer). a.side) (answer-found places least most first none-next))

-- and free where one exists at 20,001.
pub side-free : {way : Way} {ps : List Place} → Distinct ps → SomeGood way free_side ps → (answer_of way ps).side ≡ Free
side-free places some_good = some_first some_good (λ cs first. ap (λ (a : Answer). a.side) (answer-free places first))

module _ {way : Way} {ps : List Place} {h : ℕ} {cs : List ℕ} where
  -- The corners of a numbered answer are a good choice at its side,
  pub answer-good : IsAnswer way ps (numbered h cs) → Good way h ps cs
  answer-good (is_number not-free least most first above) = first.good

  -- and no good choice exists at any greater side.
  pub answer-none-above : IsAnswer way ps (numbered h cs) → (k : ℕ) → h < k → NoneGood way k ps
  answer-none-above (is_number not-free least most first above) = above

-- The corners of a free answer are a good choice at every side.
pub free-good : {way : Way} {ps : List Place} {cs : List ℕ} → InRange ps → IsAnswer way ps (free cs) → (h : ℕ) → Good way h ps cs
free-good range (is_free first) = good-at-free range first.good
