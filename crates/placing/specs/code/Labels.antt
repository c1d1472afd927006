-- Labels of side h as a problem of candidates and conflicts: a corner is a candidate where the way allows it, and two corners of different
-- sites are in conflict where their labels meet. The search asks that of three candidates of a site one meets nothing. By the usual way
-- that is `one_of_three`; above the spot there are no three. And it asks that meeting is symmetric. That uncrowded labels meet at equal
-- corners only (`same-corner`) stands below for the code, which is the faster for it.
-- Assumes nothing.
use Rattle.std.specs.Prelude.{◌≡◌, List, ◌≢◌, ◌⊎◌, ℕ, ◌≤◌, ◌<◌, length}
use Rattle.std.proofs.Common.{sym, arith}
use Rattle.std.proofs.Math.Logic.{Ne-symm, ⊎_map}
use Rattle.placing.specs.declared.labels.Labels.{Labels}
use Rattle.placing.specs.declared.units.Place.{Place}
use Rattle.placing.specs.declared.way.Way.{Way}
use Rattle.placing.specs.declared.way.Way.TheVariants.{Usual, Above}
use Rattle.placing.specs.rules.Units.{site_at}
use Rattle.placing.specs.rules.Corner.{Corner}
use Rattle.placing.specs.rules.Label.{Meet}
use Rattle.placing.specs.rules.Choice.{Upper, Allowed, Good}
use Rattle.placing.specs.deciding.Tests.{not-crowded, is-upper}
use Rattle.placing.specs.theorems.Label.{meet-symmetric}
use Rattle.placing.specs.theorems.Choice.{meeting-of}
use Rattle.placing.specs.theorems.AtMostTwo.{Alone, one_of_three, same-corner}
use Rattle.placing.specs.search.Problem.{Problem, Solution, Dead}

-- A corner of site i that the way allows.
pub record AllowedCorner (way : Way) (h : ℕ) (ps : List Place) (i c : ℕ) : Type 0 where
  pub corner : Corner c
  pub allowed : Allowed way h ps i c

-- The labels of sites i and j meet, at corners c and e.
abbrev pub MeetAt : ℕ → List Place → ℕ → ℕ → ℕ → ℕ → Type 0
MeetAt h sites i c j e = Meet h 1 (site_at sites i) c (site_at sites j) e

-- The label at corner c of site i meets that of no allowed corner of another site.
abbrev pub MeetsNone : (way : Way) (h : ℕ) (sites : List Place) (i c : ℕ) → Type 0
MeetsNone way h sites i c = Dead (length sites) (AllowedCorner way h sites) (MeetAt h sites) i c

-- Of three different allowed corners of a site one meets nothing.
pub labels-one-dead : (way : Way) (h : ℕ) (sites : List Place) (i a b c : ℕ) → i < length sites → a ≢ b → a ≢ c → b ≢ c
    → AllowedCorner way h sites i a → AllowedCorner way h sites i b → AllowedCorner way h sites i c
    → MeetsNone way h sites i a ⊎ (MeetsNone way h sites i b ⊎ MeetsNone way h sites i c)
labels-one-dead Usual h sites i a b c listed a≢b a≢c b≢c at_a at_b at_c =
    ⊎_map (dead a) (⊎_map (dead b) (dead c))
    (one_of_three h sites listed a≢b a≢c b≢c at_a.corner at_b.corner at_c.corner
    (not-crowded at_a.allowed) (not-crowded at_b.allowed) (not-crowded at_c.allowed))
  where
    dead : (e : ℕ) → Alone h sites i e → MeetsNone Usual h sites i e
    dead e alone =
        record {
          meets_nothing = λ j f there different candidate meets.
              alone.meets_nothing j f there different candidate.corner (not-crowded candidate.allowed) meets;
        }
labels-one-dead Above h sites i a b c listed a≢b a≢c b≢c at_a at_b at_c =
    let low-a : a ≤ 2 = is-upper at_a.allowed in
    let low-b : b ≤ 2 = is-upper at_b.allowed in
    let low-c : c ≤ 2 = is-upper at_c.allowed in
    absurd (omega (arith, at_a.corner.least, at_b.corner.least, at_c.corner.least))

-- These sites, with labels of side h.
abbrev pub problem : (way : Way) (h : ℕ) (sites : List Place) → Problem
problem way h sites =
    record {
      n = length sites;
      Candidate = AllowedCorner way h sites;
      Conflict = MeetAt h sites;
      corner = λ i c candidate. candidate.corner;
      symmetric = λ i c j e meets. meet-symmetric meets;
      one_dead = labels-one-dead way h sites;
    }

-- The same of the labels that the code places: how many there are,
abbrev pub count_of : Labels → ℕ
count_of labels = length labels.sites.now

-- the problem,
abbrev pub problem_of : Labels → Problem
problem_of labels = problem labels.way labels.side.0 labels.sites.now

-- and the labels of sites k and j meet, at corners c and e.
abbrev pub MeetIn : Labels → ℕ → ℕ → ℕ → ℕ → Type 0
MeetIn labels = MeetAt labels.side.0 labels.sites.now

-- A good choice is a solution.
pub good-solution : (way : Way) (h : ℕ) (sites : List Place) (cs : List ℕ) → Good way h sites cs → Solution (problem way h sites) cs
good-solution way h sites cs good =
    record {
      one_each = good.corners.one_each;
      candidate = λ i listed. record { corner = good.corners.corner i listed; allowed = good.allowed i listed };
      apart = λ i j listed other different meets. good.apart (meeting-of i j listed other different meets);
    }

-- A solution is a good choice.
pub solution-good : (way : Way) (h : ℕ) (sites : List Place) (cs : List ℕ) → Solution (problem way h sites) cs → Good way h sites cs
solution-good way h sites cs solution =
    record {
      corners = record { one_each = solution.one_each; corner = λ i there. (solution.candidate i there).corner };
      allowed = λ i there. (solution.candidate i there).allowed;
      apart = λ pair. solution.apart pair.first pair.second pair.first_listed pair.second_listed pair.different pair.meet;
    }

-- The corners of other sites that are looked at when corner c of a site is decided: by the usual way c itself, above the spot 1 and 2.
pub data LookedAt : Way → (c e : ℕ) → Type 0 where
  equal : {c e : ℕ} → e ≡ c → LookedAt Usual c e
  low : {c e : ℕ} → Upper e → LookedAt Above c e

-- The allowed labels that meet it are at these: for the code's speed, uncrowded labels meet at equal corners only.
pub met_looked : (way : Way) (h : ℕ) (sites : List Place) {k j c e : ℕ} → k < length sites → j < length sites → j ≢ k
    → AllowedCorner way h sites k c → AllowedCorner way h sites j e → MeetAt h sites k c j e → LookedAt way c e
met_looked Usual h sites {k} {j} listed other different own beside meets =
    equal
    (sym
    (same-corner h sites listed other (Ne-symm different) own.corner beside.corner (not-crowded own.allowed) (not-crowded beside.allowed)
    meets))
met_looked Above h sites listed other different own beside meets = low (is-upper beside.allowed)
