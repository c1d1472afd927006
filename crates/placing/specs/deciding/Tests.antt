-- Tests for the rules that compute, each with the law that it decides its rule.
-- Assumes nothing.
use Rattle.std.specs.Prelude.{◌≡◌, refl, Bool, true, false, not, ◌&&◌, List, ◌≢◌, ◌⊎◌, ℕ, zero, suc, ◌-◌, ◌*◌, ◌≤◌, ◌<◌, max, leb, ltb, eqb, length}
use Rattle.std.proofs.Common.{sym, ap, subst, ◌∙◌, inl, inr, ⊎_elim, mul-le-mul_right, arith, leb-true, leb-false, eqb-true}
use Rattle.std.specs.Ordering.{is_lt, is_le, nat_cmp}
use Rattle.std.proofs.Math.Decide.{ℕ_discrete, dec_le}
use Rattle.std.proofs.lemmas.Bool.{eqb-false}
use Rattle.std.proofs.lemmas.Bool.Decides.{nat_tests}
use denote.Enum.Bare.{sameb}
use Rattle.placing.specs.contracts.corner.Direction.{the_type}
use Rattle.placing.specs.declared.units.Growth.{Growth}
use Rattle.placing.specs.declared.units.Growth.TheVariants.{UpTo, Never}
use Rattle.placing.specs.declared.units.HalfUnits.{HalfUnits}
use Rattle.placing.specs.declared.units.Place.{Place}
use Rattle.placing.specs.declared.way.Way.{Way}
use Rattle.placing.specs.declared.way.Way.TheVariants.{Usual, Above}
use Rattle.placing.specs.declared.corner.Direction.{Direction}
use Rattle.placing.specs.declared.corner.Direction.TheVariants.{Up, Down}
use Rattle.placing.specs.rules.Units.{Axis, X, Y, along, greatest_coordinate, OnPlan, in_half_units, dist, site_at, Distinct}
use Rattle.placing.specs.rules.Corner.{Corner, toward, opposite}
use Rattle.placing.specs.rules.Label.{Onward, upward, downward, Overlap, same_direction, facing, Meet}
use Rattle.placing.specs.rules.Crowd.{Ahead, DoubledCovers, Crowded}
use Rattle.placing.specs.rules.Choice.{corner_at, Corners, Upper, Allowed, uncrowded, upper, Good, MeetingPair}
use Rattle.placing.specs.rules.Growth.{Exceeds, beyond}
use Rattle.placing.specs.deciding.Growth.{up_to, facing_growth, growth_along, further_of, axis_growth, growth_of, exceeds_test}
use Rattle.placing.specs.deciding.Decides.{Decides, decides-same, decides-second, decides-no, decides-yes, holds-yes}

-- The tests of numbers decide.
pub le-decides : (a b : ℕ) → Decides (leb a b) (a ≤ b)
le-decides a b = record { yes_holds = leb-true a b; no_fails = λ e l. omega (arith, leb-false a b e) }

pub lt-decides : (a b : ℕ) → Decides (ltb a b) (a < b)
lt-decides a b = le-decides (suc a) b

pub eq-decides : (a b : ℕ) → Decides (eqb a b) (a ≡ b)
eq-decides a b = record { yes_holds = eqb-true a b; no_fails = eqb-false a b }

-- So do `<` and `<=` on units, whose order is derived from that of their numbers.
less-is : (a b : ℕ) → is_lt (nat_cmp a b) ≡ ltb a b
less-is a b = grind (arith, nat_tests)

at_most-is : (a b : ℕ) → is_le (nat_cmp a b) ≡ leb a b
at_most-is a b = grind (arith, nat_tests)

pub less-decides : {answer : Bool} (a b : ℕ) → answer ≡ is_lt (nat_cmp a b) → Decides answer (a < b)
less-decides a b says = rw (says, less-is a b) (lt-decides a b)

pub at_most-decides : {answer : Bool} (a b : ℕ) → answer ≡ is_le (nat_cmp a b) → Decides answer (a ≤ b)
at_most-decides a b says = rw (says, at_most-is a b) (le-decides a b)

-- So do both of two tests, and a test turned round.
pub both-decide : {a b : Bool} {A B : Type 0} → Decides a A → Decides b B → Decides (a && b) (A × B)
both-decide {a = true} d e = decides-second (d.yes_holds refl) e (λ x y. (x, y)) (λ r. r.1)
both-decide {a = false} d e = decides-no (λ r. d.no_fails refl r.0)

pub not-decides : {a : Bool} {A : Type 0} → Decides a A → Decides (not a) (A → ⊥)
not-decides {a = true} d = decides-no (λ n. n (d.yes_holds refl))
not-decides {a = false} d = decides-yes (d.no_fails refl)

-- The test passes for every number below n.
abbrev pub all_below : ℕ → (ℕ → Bool) → Bool
all_below zero t = true
all_below (suc n) t = elim (t n) [ true ↦ all_below n t | false ↦ false ]

-- A number below suc n is n, or below n.
last-or-below : {i n : ℕ} → i < suc n → (i ≡ n) ⊎ (i < n)
last-or-below {i} {n} below = go (ℕ_discrete i n)
  where
    go : Dec (i ≡ n) → (i ≡ n) ⊎ (i < n)
    go (yes last) = inl last
    go (no differ) = inr (omega arith)

pub all-decides : {P : ℕ → Type 0} (t : ℕ → Bool) (n : ℕ) → ((i : ℕ) → Decides (t i) (P i))
    → Decides (all_below n t) ((i : ℕ) → i < n → P i)
all-decides t zero d = decides-yes (λ i l. absurd (omega arith))
all-decides {P} t (suc n) d = last (t n) (d n) (all-decides t n d)
  where
    last : (b : Bool) → Decides b (P n) → Decides (all_below n t) ((i : ℕ) → i < n → P i)
        → Decides (elim b [ true ↦ all_below n t | false ↦ false ]) ((i : ℕ) → i < suc n → P i)
    last true p r =
        decides-same (λ all i l. ⊎_elim (λ e. subst P (sym e) (p.yes_holds refl)) (all i) (last-or-below l))
        (λ all i l. all i (omega arith)) r
    last false p r = decides-no (λ all. p.no_fails refl (all n (omega arith)))

-- The test passes for some number below n.
abbrev pub some_below : ℕ → (ℕ → Bool) → Bool
some_below zero t = false
some_below (suc n) t = elim (t n) [ true ↦ true | false ↦ some_below n t ]

pub some-decides : {P : ℕ → Type 0} (t : ℕ → Bool) (n : ℕ) → ((i : ℕ) → Decides (t i) (P i))
    → Decides (some_below n t) ((i : ℕ) × (i < n) × P i)
some-decides t zero d = decides-no (λ s. omega (arith, s.1))
some-decides {P} t (suc n) d = last (t n) (d n) (some-decides t n d)
  where
    last : (b : Bool) → Decides b (P n) → Decides (some_below n t) ((i : ℕ) × (i < n) × P i)
        → Decides (elim b [ true ↦ true | false ↦ some_below n t ]) ((i : ℕ) × (i < suc n) × P i)
    last true p r = decides-yes (n, omega arith, p.yes_holds refl)
    last false p r =
        decides-same (λ s. (s.0, omega (arith, s.1), s.2))
        (λ s. ⊎_elim (λ e. absurd (p.no_fails refl (subst P e s.2))) (λ l. (s.0, l, s.2)) (last-or-below s.1)) r

-- The test passes for some two different numbers below n.
abbrev pub pair_below : ℕ → (ℕ → ℕ → Bool) → Bool
pair_below n t = some_below n (λ i. some_below n (λ j. not (eqb i j) && t i j))

pub pair-decides : {P : ℕ → ℕ → Type 0} (t : ℕ → ℕ → Bool) (n : ℕ) → ((i j : ℕ) → Decides (t i j) (P i j))
    → Decides (pair_below n t) ((i : ℕ) × (i < n) × ((j : ℕ) × (j < n) × ((i ≢ j) × P i j)))
pair-decides t n d = some-decides _ n (λ i. some-decides _ n (λ j. both-decide (not-decides (eq-decides i j)) (d i j)))

-- What holds along x and along y holds along each axis.
abbrev pub both : (P : Axis → Type 0) → P X → P Y → (axis : Axis) → P axis
both P x y X = x
both P x y Y = y

-- A test passes along both axes.
abbrev pub both_axes : (Axis → Bool) → Bool
both_axes test = test X && test Y

pub axes-decide : {P : Axis → Type 0} (test : Axis → Bool) → ((axis : Axis) → Decides (test axis) (P axis))
    → Decides (both_axes test) ((axis : Axis) → P axis)
axes-decide {P} test d = decides-same (λ r. both P r.0 r.1) (λ all. (all X, all Y)) (both-decide (d X) (d Y))

-- ---- the rules, in document 01's order; whether two labels meet is tested by how far they grow (document 02, L3)

-- A place is on the plan by the tests of its two coordinates.
abbrev pub on_plan_test : Place → Bool
on_plan_test s = leb s.x.0 greatest_coordinate && leb s.y.0 greatest_coordinate

pub on_plan-decides : (s : Place) → Decides (on_plan_test s) (OnPlan s)
on_plan-decides s =
    decides-same (λ in_range. record { on_x = in_range.0; on_y = in_range.1 }) (λ on. (on.on_x, on.on_y))
    (both-decide (le-decides s.x.0 greatest_coordinate) (le-decides s.y.0 greatest_coordinate))

-- Places with the same coordinates are the same place.
pub place-equal : {s t : Place} → ((axis : Axis) → along axis s ≡ along axis t) → s ≡ t
place-equal same i = record { x = record { 0 = same X i }; y = record { 0 = same Y i } }

abbrev pub same_place : Place → Place → Bool
same_place s t = both_axes (λ axis. eqb (along axis s) (along axis t))

pub same-decides : (s t : Place) → Decides (same_place s t) (s ≡ t)
same-decides s t =
    decides-same place-equal (λ same axis. ap (along axis) same)
    (axes-decide (λ axis. eqb (along axis s) (along axis t)) (λ axis. eq-decides (along axis s) (along axis t)))

abbrev pub distinct_test : List Place → Bool
distinct_test ps = not (pair_below (length ps) (λ i j. same_place (site_at ps i) (site_at ps j)))

pub distinct-decides : (ps : List Place) → Decides (distinct_test ps) (Distinct ps)
distinct-decides ps =
    decides-same (λ none. record { distinct = λ i j i-listed j-listed differ same. none (i, i-listed, (j, j-listed, (differ, same))) })
    (λ places s. places.distinct s.0 s.2.0 s.1 s.2.1 s.2.2.0 s.2.2.1)
    (not-decides (pair-decides _ (length ps) (λ i j. same-decides (site_at ps i) (site_at ps j))))

abbrev pub corner_test : ℕ → Bool
corner_test c = leb 1 c && leb c 4

pub corner-decides : (c : ℕ) → Decides (corner_test c) (Corner c)
corner-decides c =
    decides-same (λ r. record { least = r.0; most = r.1 }) (λ r. (r.least, r.most)) (both-decide (le-decides 1 c) (le-decides c 4))

-- No direction is its own opposite.
pub opposite-differs : (d : Direction) → opposite d ≢ d
opposite-differs Up same = let z : ◌≡◌ {A = ℕ} 0 1 = cc in omega arith
opposite-differs Down same = let z : ◌≡◌ {A = ℕ} 0 1 = cc in omega arith

-- Two directions are the same, or opposite.
abbrev pub same-or-opposite : (d e : Direction) → (d ≡ e) ⊎ (opposite d ≡ e)
same-or-opposite Up Up = inl refl
same-or-opposite Up Down = inr refl
same-or-opposite Down Up = inr refl
same-or-opposite Down Down = inl refl

-- Two directions that `==` finds unlike are opposite.
pub unlike-opposite : {same : Bool} (d e : Direction) → same ≡ sameb the_type d e → same ≡ false → opposite d ≡ e
unlike-opposite Up Up says unlike = absurd (cc)
unlike-opposite Up Down says unlike = refl
unlike-opposite Down Up says unlike = refl
unlike-opposite Down Down says unlike = absurd (cc)

abbrev pub onward_test : Direction → ℕ → ℕ → Bool
onward_test Up a b = leb a b
onward_test Down a b = leb b a

pub up-ordered : {a b : ℕ} → Onward Up a b → a ≤ b
up-ordered (upward ordered) = ordered

pub down-ordered : {a b : ℕ} → Onward Down a b → b ≤ a
down-ordered (downward ordered) = ordered

pub onward-decides : (d : Direction) (a b : ℕ) → Decides (onward_test d a b) (Onward d a b)
onward-decides Up a b = decides-same upward up-ordered (le-decides a b)
onward-decides Down a b = decides-same downward down-ordered (le-decides b a)

-- What decides the bound on the distance decides overlap, for labels that go the same way,
same-direction-decides : {answer : Bool} {p q : ℕ} {d e : Direction} {a b : ℕ} → d ≡ e → Decides answer (in_half_units (dist a b) * q < p)
    → Decides answer (Overlap p q d a e b)
same-direction-decides {p = p} {q = q} {d = d} {e = e} {a = a} {b = b} same = decides-same (same_direction same) back
  where
    back : Overlap p q d a e b → in_half_units (dist a b) * q < p
    back (same_direction is near) = near
    back (facing is onward near) = absurd (opposite-differs d (is ∙ sym same))

-- and with the order for labels that face each other.
facing-decides : {answer : Bool} {p q : ℕ} {d e : Direction} {a b : ℕ} → opposite d ≡ e
    → Decides answer (Onward d a b × (dist a b * q < p)) → Decides answer (Overlap p q d a e b)
facing-decides {p = p} {q = q} {d = d} {e = e} {a = a} {b = b} against = decides-same (λ r. facing against r.0 r.1) back
  where
    back : Overlap p q d a e b → Onward d a b × (dist a b * q < p)
    back (same_direction is near) = absurd (opposite-differs d (against ∙ sym is))
    back (facing is onward near) = (onward, near)

-- A side exceeds a number by the bound on it, and a growth where the test says so.
pub bound-exceeded : {p q : ℕ} {g : HalfUnits} → Exceeds p q (UpTo g) → g.0 * q < p
bound-exceeded (beyond more) = more

pub exceeds-decides : (p q : ℕ) (growth : Growth) → Decides (exceeds_test p q growth) (Exceeds p q growth)
exceeds-decides p q (UpTo g) = decides-same beyond bound-exceeded (lt-decides _ _)
exceeds-decides p q Never = decides-no (elim [ ])

-- A side exceeds the growth of labels in opposite directions where they face each other and it is above their distance,
facing-exceeds : (p q up down : ℕ) → Decides (exceeds_test p q (facing_growth up down)) ((up ≤ down) × (dist up down * q < p))
facing-exceeds p q up down = go (leb up down) (le-decides up down)
  where
    go : (b : Bool) → Decides b (up ≤ down)
        → Decides (exceeds_test p q (elim b [ true ↦ up_to (down - up) | false ↦ Never ])) ((up ≤ down) × (dist up down * q < p))
    go true d =
        let ordered : up ≤ down = d.yes_holds refl in
        let same : dist up down ≡ down - up = omega arith in
        rw same (decides-second ordered (lt-decides _ _) (λ o near. (o, near)) (λ r. r.1))
    go false d = decides-no (λ r. d.no_fails refl r.0)

-- so that labels overlap along an axis at the sides that exceed their growth along it.
overlap-decides : (p q : ℕ) (d : Direction) (a : ℕ) (e : Direction) (b : ℕ)
    → Decides (exceeds_test p q (growth_along d a e b)) (Overlap p q d a e b)
overlap-decides p q Up a Up b = same-direction-decides refl (lt-decides _ _)
overlap-decides p q Down a Down b = same-direction-decides refl (lt-decides _ _)
overlap-decides p q Up a Down b =
    facing-decides refl (decides-same (λ r. (upward r.0, r.1)) (λ r. (up-ordered r.0, r.1)) (facing-exceeds p q a b))
overlap-decides p q Down a Up b =
    let same : dist b a ≡ dist a b = omega arith in
    facing-decides refl
    (decides-same (λ r. (downward r.0, rw same at r.1)) (λ r. (down-ordered r.0, rw same r.1)) (facing-exceeds p q b a))

-- A side that exceeds the larger of two numbers exceeds both.
larger-decides : {A B : Type 0} (p q : ℕ) {x y : ℕ} → x ≤ y → Decides (ltb (x * q) p) A → Decides (ltb (y * q) p) B
    → Decides (ltb (y * q) p) (A × B)
larger-decides p q {x} {y} ordered d e =
    record {
      yes_holds = λ is.
          let more : y * q < p = (lt-decides _ _).yes_holds is in
          let scaled : x * q ≤ y * q = mul-le-mul_right q ordered in
          let less : x * q < p = omega arith in
          (d.yes_holds (holds-yes (lt-decides _ _) less), e.yes_holds is);
      no_fails = λ is r. e.no_fails is r.1;
    }

further-decides : {A B : Type 0} (p q : ℕ) (x y : Growth) → Decides (exceeds_test p q x) A → Decides (exceeds_test p q y) B
    → Decides (exceeds_test p q (further_of x y)) (A × B)
further-decides p q Never y d e = decides-no (λ r. d.no_fails refl r.0)
further-decides p q (UpTo x) Never d e = decides-no (λ r. e.no_fails refl r.1)
further-decides {A} {B} p q (UpTo x) (UpTo y) d e = go (dec_le x.0 y.0)
  where
    go : Dec (x.0 ≤ y.0) → Decides (ltb (max x.0 y.0 * q) p) (A × B)
    go (yes ordered) = let is : max x.0 y.0 ≡ y.0 = omega arith in rw is (larger-decides p q ordered d e)
    go (no over) =
        let is : max x.0 y.0 ≡ x.0 = omega arith in
        let ordered : y.0 ≤ x.0 = omega arith in
        rw is (decides-same (λ r. (r.1, r.0)) (λ r. (r.1, r.0)) (larger-decides p q ordered e d))

-- Two labels meet at the sides that exceed their growth.
abbrev pub meet_test : (p q : ℕ) → Place → ℕ → Place → ℕ → Bool
meet_test p q s c t e = exceeds_test p q (growth_of s c t e)

pub meet-decides : (p q : ℕ) (s : Place) (c : ℕ) (t : Place) (e : ℕ) → Decides (meet_test p q s c t e) (Meet p q s c t e)
meet-decides p q s c t e =
    decides-same (λ r. both _ r.0 r.1) (λ meet. (meet X, meet Y))
    (further-decides p q (axis_growth s c t e X) (axis_growth s c t e Y) (at X) (at Y))
  where
    at : (axis : Axis) → Decides (exceeds_test p q (axis_growth s c t e axis)) (Overlap p q (toward axis c) (along axis s) (toward axis e) (along axis t))
    at axis = overlap-decides p q (toward axis c) (along axis s) (toward axis e) (along axis t)

abbrev pub ahead_test : ℕ → Direction → ℕ → ℕ → Bool
ahead_test h d a b = onward_test d a b && ltb (dist a b) h

pub ahead-decides : (h : ℕ) (d : Direction) (a b : ℕ) → Decides (ahead_test h d a b) (Ahead h d a b)
ahead-decides h d a b =
    decides-same (λ r. record { onward = r.0; near = r.1 }) (λ r. (r.onward, r.near))
    (both-decide (onward-decides d a b) (lt-decides (dist a b) h))

abbrev pub covers_test : ℕ → Place → ℕ → Place → Bool
covers_test h s c t = both_axes (λ axis. ahead_test h (toward axis c) (along axis s) (along axis t))

pub covers-decides : (h : ℕ) (s : Place) (c : ℕ) (t : Place) → Decides (covers_test h s c t) (DoubledCovers h s c t)
covers-decides h s c t =
    axes-decide (λ axis. ahead_test h (toward axis c) (along axis s) (along axis t))
    (λ axis. ahead-decides h (toward axis c) (along axis s) (along axis t))

-- Site number j is another than number i, and the doubled label at corner c of site i covers it.
abbrev crowds_test : ℕ → List Place → (i c j : ℕ) → Bool
crowds_test h ps i c j = not (eqb j i) && covers_test h (site_at ps i) c (site_at ps j)

abbrev pub crowded_test : ℕ → List Place → (i c : ℕ) → Bool
crowded_test h ps i c = some_below (length ps) (crowds_test h ps i c)

pub crowded-decides : (h : ℕ) (ps : List Place) (i c : ℕ) → Decides (crowded_test h ps i c) (Crowded h ps i c)
crowded-decides h ps i c =
    decides-same (λ s. record { other = s.0; listed = s.1; different = s.2.0; covered = s.2.1 })
    (λ r. (r.other, r.listed, (r.different, r.covered)))
    (some-decides (crowds_test h ps i c) (length ps)
    (λ j. both-decide (not-decides (eq-decides j i)) (covers-decides h (site_at ps i) c (site_at ps j))))

-- The labels of sites number i and j meet.
abbrev labels_meet : (p q : ℕ) → List Place → List ℕ → (i j : ℕ) → Bool
labels_meet p q ps cs i j = meet_test p q (site_at ps i) (corner_at cs i) (site_at ps j) (corner_at cs j)

-- Two labels meet: all pairs are tried.
abbrev pub meeting_test : (p q : ℕ) → List Place → List ℕ → Bool
meeting_test p q ps cs = pair_below (length ps) (labels_meet p q ps cs)

pub meeting-decides : (p q : ℕ) (ps : List Place) (cs : List ℕ) → Decides (meeting_test p q ps cs) (MeetingPair p q ps cs)
meeting-decides p q ps cs =
    decides-same (λ s.
    record { first = s.0; second = s.2.0; first_listed = s.1; second_listed = s.2.1; different = s.2.2.0; meet = s.2.2.1 })
    (λ r. (r.first, r.first_listed, (r.second, r.second_listed, (r.different, r.meet))))
    (pair-decides (labels_meet p q ps cs) (length ps)
    (λ i j. meet-decides p q (site_at ps i) (corner_at cs i) (site_at ps j) (corner_at cs j)))

abbrev corners_test : ℕ → List ℕ → Bool
corners_test n cs = eqb (length cs) n && all_below n (λ i. corner_test (corner_at cs i))

corners-decide : (n : ℕ) (cs : List ℕ) → Decides (corners_test n cs) (Corners n cs)
corners-decide n cs =
    decides-same (λ r. record { one_each = r.0; corner = r.1 }) (λ r. (r.one_each, r.corner))
    (both-decide (eq-decides (length cs) n) (all-decides _ n (λ i. corner-decides (corner_at cs i))))

-- What the usual way allows is not crowded,
pub not-crowded : {h : ℕ} {ps : List Place} {i c : ℕ} → Allowed Usual h ps i c → Crowded h ps i c → ⊥
not-crowded (uncrowded none) = none

-- and what is allowed above the spot is at most 2.
pub is-upper : {h : ℕ} {ps : List Place} {i c : ℕ} → Allowed Above h ps i c → Upper c
is-upper (upper low) = low

abbrev pub allowed_test : Way → ℕ → List Place → (i c : ℕ) → Bool
allowed_test Usual h ps i c = not (crowded_test h ps i c)
allowed_test Above h ps i c = leb c 2

pub allowed-decides : (way : Way) (h : ℕ) (ps : List Place) (i c : ℕ) → Decides (allowed_test way h ps i c) (Allowed way h ps i c)
allowed-decides Usual h ps i c = decides-same uncrowded not-crowded (not-decides (crowded-decides h ps i c))
allowed-decides Above h ps i c = decides-same upper is-upper (le-decides c 2)

abbrev pub good_test : Way → ℕ → List Place → List ℕ → Bool
good_test way h ps cs =
    corners_test (length ps) cs && (all_below (length ps) (λ i. allowed_test way h ps i (corner_at cs i)) && not (meeting_test h 1 ps cs))

pub good-decides : (way : Way) (h : ℕ) (ps : List Place) (cs : List ℕ) → Decides (good_test way h ps cs) (Good way h ps cs)
good-decides way h ps cs =
    decides-same (λ r. record { corners = r.0; allowed = r.1.0; apart = r.1.1 }) (λ g. (g.corners, (g.allowed, g.apart)))
    (both-decide (corners-decide (length ps) cs)
    (both-decide (all-decides _ (length ps) (λ i. allowed-decides way h ps i (corner_at cs i)))
    (not-decides (meeting-decides h 1 ps cs))))
