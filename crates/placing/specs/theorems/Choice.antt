-- Laws of rules/Choice: two labels that meet, the four facts about good choices that every way of placing needs, then the first of them.
-- Assumes nothing.
use Rattle.std.specs.Prelude.{◌≡◌, refl, List, [], ◌∷◌, ◌≢◌, ◌⊎◌, ℕ, zero, suc, ◌≤◌, ◌<◌, length, replicate}
use Rattle.std.proofs.Common.{sym, ◌∙◌, inl, inr, zero-le, suc-le-suc, arith}
use Rattle.std.proofs.Math.Logic.{Ne-symm}
use Rattle.std.proofs.Math.Decide.{ℕ_discrete, dec_lt}
use Rattle.std.proofs.lemmas.List.{length-replicate, get_or-replicate}
use Rattle.placing.specs.declared.units.Place.{Place}
use Rattle.placing.specs.declared.way.Way.{Way}
use Rattle.placing.specs.declared.way.Way.TheVariants.{Usual, Above}
use Rattle.placing.specs.rules.Units.{Axis, along, dist, site_at, greatest_coordinate, free_side, Distinct, InRange}
use Rattle.placing.specs.rules.Corner.{Corner}
use Rattle.placing.specs.rules.Label.{Meet}
use Rattle.placing.specs.rules.Crowd.{Crowded}
use Rattle.placing.specs.rules.Choice.{corner_at, Corners, UpperCorners, MeetingPair, Allowed, uncrowded, upper, Good, First}
use Rattle.placing.specs.rules.Choice.{Before, lower, later}
use Rattle.placing.specs.deciding.Decides.{Decides}
use Rattle.placing.specs.deciding.Tests.{is-upper, good_test, good-decides}
use Rattle.placing.specs.theorems.Corner.{on-axis}
use Rattle.placing.specs.theorems.Label.{overlap-at, meet_one, meet-larger-whole}
use Rattle.placing.specs.theorems.Crowd.{crowded-at, crowded-larger, doubled-covers-one}

-- ---- two labels that meet

-- Two labels that meet, of different sites, make a pair.
pub meeting-of : {p q : ℕ} {ps : List Place} {cs : List ℕ} (i j : ℕ) → i < length ps → j < length ps → i ≢ j
    → Meet p q (site_at ps i) (corner_at cs i) (site_at ps j) (corner_at cs j) → MeetingPair p q ps cs
meeting-of i j i-listed j-listed differ meet =
    record { first = i; second = j; first_listed = i-listed; second_listed = j-listed; different = differ; meet = meet }

-- A pair that meets at one side is one at another side, if the two labels meet there.
pub meeting-at : {p q p' q' : ℕ} {ps : List Place} {cs : List ℕ} (pair : MeetingPair p q ps cs)
    → Meet p' q' (site_at ps pair.first) (corner_at cs pair.first) (site_at ps pair.second) (corner_at cs pair.second)
    → MeetingPair p' q' ps cs
meeting-at pair = meeting-of pair.first pair.second pair.first_listed pair.second_listed pair.different

-- ---- monotone

-- A corner that is allowed at h is so at every smaller side,
allowed-smaller : {way : Way} {h k : ℕ} {ps : List Place} {i c : ℕ} → k ≤ h → Allowed way h ps i c → Allowed way k ps i c
allowed-smaller smaller (uncrowded none) = uncrowded (λ crowded. none (crowded-larger smaller crowded))
allowed-smaller smaller (upper low) = upper low

-- and so, "a good choice at h is one at every smaller side".
pub good-smaller : {way : Way} {h k : ℕ} {ps : List Place} {cs : List ℕ} → k ≤ h → Good way h ps cs → Good way k ps cs
good-smaller smaller good =
    record {
      corners = good.corners;
      allowed = λ i listed. allowed-smaller smaller (good.allowed i listed);
      apart = λ pair. good.apart (meeting-at pair (meet-larger-whole smaller pair.meet));
    }

-- ---- at one

-- At h = 1 no corner is crowded,
none-crowded : {ps : List Place} → Distinct ps → (i c : ℕ) → i < length ps → Crowded 1 ps i c → ⊥
none-crowded places i c listed crowded =
    places.distinct i crowded.other listed crowded.listed (Ne-symm crowded.different) (doubled-covers-one crowded.covered)

-- every choice of corners that the way allows there is good:
pub good-at-one : {way : Way} {ps : List Place} {cs : List ℕ} → Distinct ps → Corners (length ps) cs
    → ((i : ℕ) → i < length ps → Allowed way 1 ps i (corner_at cs i)) → Good way 1 ps cs
good-at-one places corners allowed =
    record {
      corners = corners;
      allowed = allowed;
      apart = λ pair.
          places.distinct pair.first pair.second pair.first_listed pair.second_listed pair.different
          (meet_one pair.meet);
    }

-- by the usual way every choice,
pub every-good-at-one : {ps : List Place} {cs : List ℕ} → Distinct ps → Corners (length ps) cs → Good Usual 1 ps cs
every-good-at-one {cs = cs} places corners =
    good-at-one places corners (λ i listed. uncrowded (none-crowded places i (corner_at cs i) listed))

-- and above the spot every choice of corners 1 and 2, which is what a good choice there is, at whatever side.
pub upper-good-at-one : {ps : List Place} {cs : List ℕ} → Distinct ps → UpperCorners (length ps) cs → Good Above 1 ps cs
upper-good-at-one places uppers = good-at-one places uppers.corners (λ i listed. upper (uppers.each_upper i listed))

pub good-upper : {h : ℕ} {ps : List Place} {cs : List ℕ} → Good Above h ps cs → UpperCorners (length ps) cs
good-upper good = record { corners = good.corners; each_upper = λ i listed. is-upper (good.allowed i listed) }

-- Every way allows corner 1.
one-allowed : {ps : List Place} → Distinct ps → (way : Way) (i : ℕ) → i < length ps → Allowed way 1 ps i 1
one-allowed places Usual i listed = uncrowded (none-crowded places i 1 listed)
one-allowed places Above i listed = upper {c = 1} (omega arith)

-- "A good choice exists at h = 1 always": corner 1 for every site.
pub good-one-exists : {way : Way} {ps : List Place} → Distinct ps → Good way 1 ps (replicate (length ps) 1)
good-one-exists {way} {ps} places =
    good-at-one places (record { one_each = length-replicate (length ps) 1; corner = ones }) (λ i listed.
    rw (get_or-replicate {A = ℕ} (length ps) i 1 0 listed) (one-allowed places way i listed))
  where
    ones : (i : ℕ) → i < length ps → Corner (corner_at (replicate (length ps) 1) i)
    ones i listed = rw (get_or-replicate {A = ℕ} (length ps) i 1 0 listed) (record { least = omega arith; most = omega arith })

-- ---- free

module _ {ps : List Place} (range : InRange ps) where
  -- No two coordinates are further apart than 10,000, so that from the side at which free is judged nothing changes any more.
  none-further : {i j : ℕ} → i < length ps → j < length ps
      → (axis : Axis) → dist (along axis (site_at ps i)) (along axis (site_at ps j)) ≤ greatest_coordinate
  none-further {i} {j} i-listed j-listed axis =
      omega (arith, on-axis (range.in_range i i-listed) axis, on-axis (range.in_range j j-listed) axis)

  -- The labels of a choice that is good there meet at no side, whole or fraction.
  pub free_apart : {way : Way} {cs : List ℕ} → Good way free_side ps cs → (p q : ℕ) → MeetingPair p q ps cs → ⊥
  free_apart good p q pair =
      good.apart (meeting-at pair (λ axis.
      overlap-at (λ x bound below. omega (arith, none-further pair.first_listed pair.second_listed axis)) (pair.meet axis)))

  -- A corner that is allowed there is so at every side,
  allowed-at-free : {way : Way} {i c : ℕ} → i < length ps → (h : ℕ) → Allowed way free_side ps i c → Allowed way h ps i c
  allowed-at-free listed h (uncrowded none) =
      uncrowded (λ crowded.
      none (crowded-at (λ j j-listed covers axis.
      record { onward = (covers axis).onward; near = omega (arith, none-further listed j-listed axis) }) crowded))
  allowed-at-free listed h (upper low) = upper low

  -- and so, "if a good choice exists at 20,001, it is good at every side".
  pub good-at-free : {way : Way} {cs : List ℕ} → Good way free_side ps cs → (h : ℕ) → Good way h ps cs
  good-at-free good h =
      record {
        corners = good.corners;
        allowed = λ i listed. allowed-at-free listed h (good.allowed i listed);
        apart = free_apart good h 1;
      }

-- ---- decided

-- Whether a choice is good is decided, by a test.
pub good-decided : (way : Way) (h : ℕ) (ps : List Place) (cs : List ℕ) → Decides (good_test way h ps cs) (Good way h ps cs)
good-decided = good-decides

-- ---- the first

-- Two lists of the same length are equal, or one comes before the other.
pub before-or-equal : (cs es : List ℕ) → length cs ≡ length es → (cs ≡ es) ⊎ (Before cs es ⊎ Before es cs)
before-or-equal [] [] same = inl refl
before-or-equal [] (e ∷ es) same = absurd (omega arith)
before-or-equal (c ∷ cs) [] same = absurd (omega arith)
before-or-equal (c ∷ cs) (e ∷ es) same = go (ℕ_discrete c e) (dec_lt c e) (before-or-equal cs es (omega arith))
  where
    go : Dec (c ≡ e) → Dec (c < e) → (cs ≡ es) ⊎ (Before cs es ⊎ Before es cs)
        → (c ∷ cs ≡ e ∷ es) ⊎ (Before (c ∷ cs) (e ∷ es) ⊎ Before (e ∷ es) (c ∷ cs))
    go (yes first) less (inl rest) = inl (cc)
    go (yes first) less (inr (inl before)) = inr (inl (rw (← first) (later before)))
    go (yes first) less (inr (inr after)) = inr (inr (rw first (later after)))
    go (no differ) (yes less) rest = inr (inl (lower less))
    go (no differ) (no more) rest = let less : e < c = omega arith in inr (inr (lower less))

-- There is at most one first good choice.
pub first-unique : {way : Way} {h : ℕ} {ps : List Place} {cs es : List ℕ} → First way h ps cs → First way h ps es → cs ≡ es
first-unique {cs = cs} {es = es} one other =
    go (before-or-equal cs es (one.good.corners.one_each ∙ sym other.good.corners.one_each))
  where
    go : (cs ≡ es) ⊎ (Before cs es ⊎ Before es cs) → cs ≡ es
    go (inl same) = same
    go (inr (inl before)) = absurd (other.none_before cs one.good before)
    go (inr (inr after)) = absurd (one.none_before es other.good after)

-- No list of corners comes before the one that has corner 1 everywhere.
ones-first : (n : ℕ) (es : List ℕ) → ((i : ℕ) → i < n → 1 ≤ corner_at es i) → Before es (replicate n 1) → ⊥
ones-first zero es corner before = elim before [ ]
ones-first (suc n) [] corner before = elim before [ ]
ones-first (suc n) (e ∷ es) corner (lower less) = omega (arith, corner 0 (suc-le-suc zero-le))
ones-first (suc n) (e ∷ es) corner (later b) = ones-first n es (λ i listed. corner (suc i) (suc-le-suc listed)) b

-- Up to side 1 corner 1 everywhere is good, and the first.
pub first-at-one : {way : Way} {h : ℕ} {ps : List Place} → h ≤ 1 → Distinct ps → First way h ps (replicate (length ps) 1)
first-at-one {ps = ps} small distinct =
    record {
      good = good-smaller small (good-one-exists distinct);
      none_before = λ es good. ones-first (length ps) es (λ i listed. (good.corners.corner i listed).least);
    }
