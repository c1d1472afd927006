-- A search for the first good choice that a checker can run: site after site in list order, corners 1 to 4, without the corners
-- that are not allowed or meet the label of an earlier site.
-- Assumes nothing.
use Rattle.std.specs.Prelude.{◌≡◌, refl, Bool, true, false, not, ◌&&◌, List, [], ◌∷◌, ◌++◌, ℕ, zero, suc, ◌+◌, ◌≤◌, ◌<◌, length}
use Rattle.std.proofs.Common.{sym, subst, subst₂, arith, length-append}
use Rattle.std.proofs.Math.Option.{Option, none, some}
use Rattle.std.proofs.Math.Decide.{ℕ_discrete, dec_lt}
use Rattle.std.proofs.Math.ListN.{get_or-append}
use Rattle.std.proofs.Math.Seq.{append_snoc}
use Rattle.placing.specs.declared.units.Place.{Place}
use Rattle.placing.specs.declared.way.Way.{Way}
use Rattle.placing.specs.rules.Units.{site_at}
use Rattle.placing.specs.rules.Label.{Meet}
use Rattle.placing.specs.rules.Choice.{corner_at, Corners, MeetingPair, Allowed, Good}
use Rattle.placing.specs.deciding.Decides.{Decides, decides-same}
use Rattle.placing.specs.deciding.Tests.{both-decide, not-decides, all_below, all-decides, meet_test, meet-decides, allowed_test}
use Rattle.placing.specs.deciding.Tests.{allowed-decides}
use Rattle.placing.specs.deciding.Enumerate.{try_corners, FirstWith, found, missing, first-with-same, by-first-corner}
use Rattle.placing.specs.deciding.Enumerate.{no-corners, before-some}
use Rattle.placing.specs.theorems.Label.{meet-symmetric}
use Rattle.placing.specs.theorems.Choice.{meeting-of}

-- The corner of site number i is allowed, and its label meets that of no earlier site.
record Fits (way : Way) (h : ℕ) (ps : List Place) (cs : List ℕ) (i : ℕ) : Type 0 where
  allowed : Allowed way h ps i (corner_at cs i)
  apart : (j : ℕ) → j < i → Meet h 1 (site_at ps j) (corner_at cs j) (site_at ps i) (corner_at cs i) → ⊥

abbrev pub fits_test : Way → ℕ → List Place → List ℕ → ℕ → Bool
fits_test way h ps cs i =
    allowed_test way h ps i (corner_at cs i)
    && all_below i (λ j. not (meet_test h 1 (site_at ps j) (corner_at cs j) (site_at ps i) (corner_at cs i)))

fits-decides : (way : Way) (h : ℕ) (ps : List Place) (cs : List ℕ) (i : ℕ) → Decides (fits_test way h ps cs i) (Fits way h ps cs i)
fits-decides way h ps cs i =
    decides-same (λ r. record { allowed = r.0; apart = r.1 }) (λ r. (r.allowed, r.apart))
    (both-decide (allowed-decides way h ps i (corner_at cs i))
    (all-decides _ i (λ j. not-decides (meet-decides h 1 (site_at ps j) (corner_at cs j) (site_at ps i) (corner_at cs i)))))

-- The first n corners with which to go on from the corners `before`.
abbrev pub go_on : Way → ℕ → List Place → (n : ℕ) → (before : List ℕ) → Option (List ℕ)
go_on way h ps zero before = some []
go_on way h ps (suc n) before =
    try_corners (λ c.
    elim (fits_test way h ps (before ++ c ∷ []) (length before)) [ true ↦ go_on way h ps n (before ++ c ∷ []) | false ↦ none ])

-- The first good choice at side h.
abbrev pub pruned_first : Way → ℕ → List Place → Option (List ℕ)
pruned_first way h ps = go_on way h ps (length ps) []

module _ (way : Way) (h : ℕ) (ps : List Place) where
  -- A choice is good exactly when the corner of every site fits.
  good-fits : {cs : List ℕ} → Good way h ps cs → (i : ℕ) → i < length ps → Fits way h ps cs i
  good-fits good i listed =
      record {
        allowed = good.allowed i listed;
        apart = λ j earlier meet. good.apart (meeting-of j i (omega arith) listed (omega arith) meet);
      }

  fits-good : {cs : List ℕ} → Corners (length ps) cs → ((i : ℕ) → i < length ps → Fits way h ps cs i) → Good way h ps cs
  fits-good {cs} corners fit =
      record {
        corners = corners;
        allowed = λ i listed. (fit i listed).allowed;
        apart = λ pair. by_order pair (dec_lt pair.first pair.second);
      }
    where
      by_order : (pair : MeetingPair h 1 ps cs) → Dec (pair.first < pair.second) → ⊥
      by_order pair (yes earlier) = (fit pair.second pair.second_listed).apart pair.first earlier pair.meet
      by_order pair (no not-earlier) =
          (fit pair.first pair.first_listed).apart pair.second (omega (arith, pair.different)) (meet-symmetric pair.meet)

  -- Whether a site's corner fits depends on the corners up to it alone.
  fits-same : {cs es : List ℕ} {i : ℕ} → ((j : ℕ) → j ≤ i → corner_at cs j ≡ corner_at es j) → Fits way h ps cs i → Fits way h ps es i
  fits-same {cs} {es} {i} same fit =
      let own : corner_at es i ≡ corner_at cs i = sym (same i (omega arith)) in
      record {
        allowed = subst (Allowed way h ps i) (sym own) fit.allowed;
        apart = λ j earlier meet.
            fit.apart j earlier (subst₂ (λ c e. Meet h 1 (site_at ps j) c (site_at ps i) e) (sym (same j (omega arith))) own meet);
      }

  -- From site number n on, all corners fit.
  record FitsFrom (n : ℕ) (cs : List ℕ) : Type 0 where
    fits-from : (i : ℕ) → n ≤ i → i < length ps → Fits way h ps cs i

  fits-then : {n : ℕ} {cs : List ℕ} → Fits way h ps cs n → FitsFrom (suc n) cs → FitsFrom n cs
  fits-then {n} {cs} fit on = record { fits-from = λ i from listed. by_place (ℕ_discrete n i) from listed }
    where
      by_place : {i : ℕ} → Dec (n ≡ i) → n ≤ i → i < length ps → Fits way h ps cs i
      by_place (yes same) from listed = subst (Fits way h ps cs) same fit
      by_place {i} (no differ) from listed = on.fits-from i (omega arith) listed

  fits_after : {n : ℕ} {cs : List ℕ} → FitsFrom n cs → FitsFrom (suc n) cs
  fits_after on = record { fits-from = λ i from. on.fits-from i (omega arith) }

  -- These are corners for the next n sites, and after `before` they all fit.
  abbrev FitAfter : (n : ℕ) (before cs : List ℕ) → Type 0
  FitAfter n before cs = Corners n cs × FitsFrom (length before) (before ++ cs)

  module _ (before : List ℕ) (c : ℕ) where
    one_more : length (before ++ c ∷ []) ≡ suc (length before)
    one_more = omega (arith, length-append before (c ∷ []))

    -- The corners that follow c change nothing up to c.
    same-up-to : (cs : List ℕ) (j : ℕ) → j ≤ length before → corner_at (before ++ c ∷ []) j ≡ corner_at (before ++ c ∷ cs) j
    same-up-to cs j within =
        subst (λ l. corner_at (before ++ c ∷ []) j ≡ corner_at l j) (append_snoc before c cs)
        (sym (get_or-append (before ++ c ∷ []) cs 0 j (omega (arith, one_more))))

    -- Where c fits, what follows fits after c exactly when both do.
    by-fit : {n : ℕ} {o : Option (List ℕ)} (b : Bool) → Decides b (Fits way h ps (before ++ c ∷ []) (length before))
        → length before < length ps
        → FirstWith (FitAfter n (before ++ c ∷ [])) o
        → FirstWith (λ cs. Corners n cs × FitsFrom (length before) (before ++ c ∷ cs)) (elim b [ true ↦ o | false ↦ none ])
    by-fit true fit listed rest =
        first-with-same (λ cs r.
        (r.0, fits-then (fits-same (same-up-to cs) (fit.yes_holds refl)) (subst₂ FitsFrom one_more (append_snoc before c cs) r.1)))
        (λ cs r. (r.0, subst₂ FitsFrom (sym one_more) (sym (append_snoc before c cs)) (fits_after r.1))) rest
    by-fit false fit listed rest =
        missing (λ cs r.
        fit.no_fails refl
        (fits-same (λ j within. sym (same-up-to cs j within)) (r.1.fits-from (length before) (omega arith) listed)))

  -- Going on finds the first such corners.
  goes_on : (n : ℕ) (before : List ℕ) → length before + n ≡ length ps → FirstWith (FitAfter n before) (go_on way h ps n before)
  goes_on zero before all =
      found (no-corners, record { fits-from = λ i from listed. absurd (omega arith) }) (λ es r b. omega (arith, before-some b))
  goes_on (suc n) before all =
      by-first-corner n _ (λ c corner.
      by-fit before c (fits_test way h ps (before ++ c ∷ []) (length before)) (fits-decides way h ps (before ++ c ∷ []) (length before))
      (omega arith) (goes_on n (before ++ c ∷ []) (omega (arith, one_more before c))))

  -- The pruned search finds the first good choice.
  pub pruned-first : FirstWith (Good way h ps) (pruned_first way h ps)
  pruned-first =
      first-with-same (λ cs r. fits-good r.0 (λ i listed. r.1.fits-from i (omega arith) listed))
      (λ cs good. (good.corners, record { fits-from = λ i from. good-fits good i })) (goes_on (length ps) [] (omega arith))
