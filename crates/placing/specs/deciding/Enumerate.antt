-- Going through lists of corners in list order: corner 1 for the first site, then 2, 3 and 4, each with every list for the
-- sites after it, up to the first list that passes a test.
-- Assumes nothing.
use Rattle.std.specs.Prelude.{◌≡◌, refl, Bool, true, false, List, [], ◌∷◌, ℕ, zero, suc, ◌+◌, ◌≤◌, ◌<◌, length}
use Rattle.std.proofs.Common.{sym, ◌∙◌, ap, subst, true≢false, arith}
use Rattle.std.proofs.Math.Option.{Option, none, some, some-ne-none, none-ne-some}
use Rattle.std.proofs.Math.Decide.{ℕ_discrete}
use Rattle.placing.specs.declared.units.Place.{Place}
use Rattle.placing.specs.declared.way.Way.{Way}
use Rattle.placing.specs.rules.Corner.{Corner}
use Rattle.placing.specs.rules.Choice.{corner_at, Corners, Good, First, Before, lower, later}

-- The first k corners from c on are tried in turn, each with the corners for the sites after it that `rest` finds for it.
abbrev pub try_from : (c k : ℕ) → (ℕ → Option (List ℕ)) → Option (List ℕ)
try_from c zero rest = none
try_from c (suc k) rest = elim (rest c) [ some cs ↦ some (c ∷ cs) | none ↦ try_from (suc c) k rest ]

-- Corner 1, then 2, 3, 4.
abbrev pub try_corners : (ℕ → Option (List ℕ)) → Option (List ℕ)
try_corners rest = try_from 1 4 rest

-- The first list of n corners, in list order, that passes the test.
pub first_of : ℕ → (List ℕ → Bool) → Option (List ℕ)
first_of zero p = elim (p []) [ true ↦ some [] | false ↦ none ]
first_of (suc n) p = try_corners (λ c. first_of n (λ cs. p (c ∷ cs)))

-- What is found is the first list with the property Q; nothing is found only where no list has it.
pub data FirstWith (Q : List ℕ → Type 0) : Option (List ℕ) → Type 0 where
  found : {cs : List ℕ} → Q cs → ((es : List ℕ) → Q es → Before es cs → ⊥) → FirstWith Q (some cs)
  missing : ((es : List ℕ) → Q es → ⊥) → FirstWith Q none

-- The property may be stated in another way.
pub first-with-same : {Q R : List ℕ → Type 0} {o : Option (List ℕ)} → ((cs : List ℕ) → Q cs → R cs) → ((cs : List ℕ) → R cs → Q cs)
    → FirstWith Q o → FirstWith R o
first-with-same to from (found {cs} has none_before) = found (to cs has) (λ es other. none_before es (from es other))
first-with-same to from (missing none_has) = missing (λ es other. none_has es (from es other))

-- Where nothing is found no list has the property, and the other way round.
pub nothing-found : {Q : List ℕ → Type 0} {o : Option (List ℕ)} → FirstWith Q o → o ≡ none → (cs : List ℕ) → Q cs → ⊥
nothing-found (found has none_before) is_none = absurd (some-ne-none _ is_none)
nothing-found (missing none_has) is_none = none_has

pub finds-nothing : {Q : List ℕ → Type 0} {o : Option (List ℕ)} → FirstWith Q o → ((cs : List ℕ) → Q cs → ⊥) → o ≡ none
finds-nothing (found {cs} has none_before) none_has = absurd (none_has cs has)
finds-nothing (missing not-found) none_has = refl

-- What a search for good choices finds is the first good choice.
pub found_first : {way : Way} {h : ℕ} {ps : List Place} {cs : List ℕ} {o : Option (List ℕ)} → FirstWith (Good way h ps) o → o ≡ some cs
    → First way h ps cs
found_first {way} {h} {ps} (found good none_before) is_found = subst (First way h ps) (cc) (record { good = good; none_before = none_before })
found_first (missing none_has) is_found = absurd (none-ne-some _ is_found)

-- The list's first corner is one of the k from c on, and the others have the property Q of that corner.
pub data Starting (c k : ℕ) (Q : ℕ → List ℕ → Type 0) : List ℕ → Type 0 where
  starting : {e : ℕ} {es : List ℕ} → c ≤ e → e < c + k → Q e es → Starting c k Q (e ∷ es)

-- The first list with corner c, which is the lowest, is the first of all.
lowest-first : {Q : ℕ → List ℕ → Type 0} {c k : ℕ} {cs : List ℕ} → ((es : List ℕ) → Q c es → Before es cs → ⊥)
    → (es : List ℕ) → Starting c k Q es → Before es (c ∷ cs) → ⊥
lowest-first none_before es (starting least most has) (lower lower-than) = omega arith
lowest-first none_before es (starting least most has) (later before) = none_before _ has before

-- Trying the k corners from c on finds the first list that starts with one of them.
tries-first : {Q : ℕ → List ℕ → Type 0} (k c : ℕ) (rest : ℕ → Option (List ℕ))
    → ((e : ℕ) → c ≤ e → e < c + k → FirstWith (Q e) (rest e)) → FirstWith (Starting c k Q) (try_from c k rest)
tries-first {Q} zero c rest finds = missing nothing
  where
    nothing : (es : List ℕ) → Starting c 0 Q es → ⊥
    nothing es (starting least most has) = omega arith
tries-first {Q} (suc k) c rest finds =
    next (rest c) (finds c (omega arith) (omega arith)) (tries-first k (suc c) rest (λ e least most. finds e (omega arith) (omega arith)))
  where
    wider : (es : List ℕ) → Starting (suc c) k Q es → Starting c (suc k) Q es
    wider es (starting {e} least most has) = starting {e = e} (omega arith) (omega arith) has

    narrower : ((es : List ℕ) → Q c es → ⊥) → (es : List ℕ) → Starting c (suc k) Q es → Starting (suc c) k Q es
    narrower none_has es (starting {e} {es = fs} least most has) = by-corner (ℕ_discrete e c)
      where
        by-corner : Dec (e ≡ c) → Starting (suc c) k Q (e ∷ fs)
        by-corner (yes same) = absurd (none_has fs (subst (λ d. Q d fs) same has))
        by-corner (no differ) = starting {e = e} (omega arith) (omega arith) has

    next : (o : Option (List ℕ)) → FirstWith (Q c) o → FirstWith (Starting (suc c) k Q) (try_from (suc c) k rest)
        → FirstWith (Starting c (suc k) Q) (elim o [ some cs ↦ some (c ∷ cs) | none ↦ try_from (suc c) k rest ])
    next (some cs) (found has none_before) later_first = found (starting {e = c} (omega arith) (omega arith) has) (lowest-first none_before)
    next none (missing none_has) later_first = first-with-same wider (narrower none_has) later_first

-- A list of corners for one site more is a corner and a list of corners.
corners-cons : {n c : ℕ} {cs : List ℕ} → Corner c → Corners n cs → Corners (suc n) (c ∷ cs)
corners-cons {n} {c} {cs} first rest = record { one_each = ap suc rest.one_each; corner = each }
  where
    each : (i : ℕ) → i < suc n → Corner (corner_at (c ∷ cs) i)
    each zero listed = first
    each (suc i) listed = rest.corner i (omega arith)

corners-rest : {n c : ℕ} {cs : List ℕ} → Corners (suc n) (c ∷ cs) → Corners n cs
corners-rest all = record { one_each = omega (arith, all.one_each); corner = λ i listed. all.corner (suc i) (omega arith) }

-- A property of lists of corners for one site more, by the first corner.
pub by-first-corner : {R : List ℕ → Type 0} (n : ℕ) (rest : ℕ → Option (List ℕ))
    → ((c : ℕ) → Corner c → FirstWith (λ cs. Corners n cs × R (c ∷ cs)) (rest c))
    → FirstWith (λ cs. Corners (suc n) cs × R cs) (try_corners rest)
by-first-corner {R} n rest finds =
    first-with-same joined parted (tries-first 4 1 rest (λ c least most. finds c (record { least = least; most = omega arith })))
  where
    joined : (cs : List ℕ) → Starting 1 4 (λ c es. Corners n es × R (c ∷ es)) cs → Corners (suc n) cs × R cs
    joined cs (starting least most has) = (corners-cons (record { least = least; most = omega arith }) has.0, has.1)

    parted : (cs : List ℕ) → Corners (suc n) cs × R cs → Starting 1 4 (λ c es. Corners n es × R (c ∷ es)) cs
    parted [] has = absurd (omega (arith, has.0.one_each))
    parted (c ∷ cs) has =
        let first : Corner c = has.0.corner 0 (omega arith) in
        starting {e = c} first.least (omega (arith, first.most)) (corners-rest has.0, has.1)

-- Of lists without a corner there is one.
pub before-some : {cs es : List ℕ} → Before es cs → 1 ≤ length cs
before-some (lower lower-than) = omega arith
before-some (later before) = omega arith

pub no-corners : Corners 0 []
no-corners = record { one_each = refl; corner = λ i listed. absurd (omega arith) }

-- Plain enumeration finds the first list of n corners that passes the test.
pub first-of : (n : ℕ) (p : List ℕ → Bool) → FirstWith (λ cs. Corners n cs × (p cs ≡ true)) (first_of n p)
unfolding first_of
first-of zero p = by-test (p []) refl
  where
    only : (cs : List ℕ) → Corners 0 cs × (p cs ≡ true) → p [] ≡ true
    only [] has = has.1
    only (c ∷ cs) has = absurd (omega (arith, has.0.one_each))

    by-test : (b : Bool) → p [] ≡ b → FirstWith (λ cs. Corners 0 cs × (p cs ≡ true)) (elim b [ true ↦ some [] | false ↦ none ])
    by-test true passes = found (no-corners, passes) (λ es has before. omega (arith, before-some before))
    by-test false fails = missing (λ es has. true≢false (sym (only es has) ∙ fails))
first-of (suc n) p = by-first-corner n _ (λ c corner. first-of n (λ cs. p (c ∷ cs)))
