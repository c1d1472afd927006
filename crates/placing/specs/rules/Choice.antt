-- Document 01, "Good choice at h", "First" and, of "What demand 3 counts", two labels that meet; and document 02, L2, the second way of
-- placing. A choice is a list of corners, one for each site. The ways are `Usual`, document 01's, and `Above`, L2's "labels above the spot
-- only".
-- Assumes nothing.
use Rattle.std.specs.Prelude.{◌≡◌, List, ◌∷◌, ◌≢◌, ℕ, ◌≤◌, ◌<◌, length, get_or}
use Rattle.placing.specs.declared.units.Place.{Place}
use Rattle.placing.specs.declared.way.Way.{Way}
use Rattle.placing.specs.declared.way.Way.TheVariants.{Usual, Above}
use Rattle.placing.specs.rules.Units.{site_at}
use Rattle.placing.specs.rules.Corner.{Corner}
use Rattle.placing.specs.rules.Label.{Meet}
use Rattle.placing.specs.rules.Crowd.{Crowded}

-- The corner that a list of corners gives site number i: 0, which is no corner, past its end.
abbrev pub corner_at : List ℕ → ℕ → ℕ
corner_at cs i = get_or cs i 0

-- "One corner for every site": a list of corners for n sites.
pub record Corners (n : ℕ) (cs : List ℕ) : Type 0 where
  pub one_each : length cs ≡ n
  pub corner : (i : ℕ) → i < n → Corner (corner_at cs i)

-- "The labels of some two of these lines meet", at the side p/q.
pub record MeetingPair (p q : ℕ) (ps : List Place) (cs : List ℕ) : Type 0 where
  pub first : ℕ
  pub second : ℕ
  pub first_listed : first < length ps
  pub second_listed : second < length ps
  pub different : first ≢ second
  pub meet : Meet p q (site_at ps first) (corner_at cs first) (site_at ps second) (corner_at cs second)

-- L2: "corners 1 and 2 only". Of a corner, 1 or 2; and of a list of corners for n sites.
abbrev pub Upper : ℕ → Type 0
Upper c = c ≤ 2

pub record UpperCorners (n : ℕ) (cs : List ℕ) : Type 0 where
  pub corners : Corners n cs
  pub each_upper : (i : ℕ) → i < n → Upper (corner_at cs i)

-- Which corners a way of placing allows at h, of site number i. By the usual way those of which document 01 says "none crowded at h". Above
-- the spot the upper ones: "the crowding rule does not apply to it".
pub data Allowed : Way → (h : ℕ) → List Place → (i c : ℕ) → Type 0 where
  uncrowded : {h : ℕ} {ps : List Place} {i c : ℕ} → (Crowded h ps i c → ⊥) → Allowed Usual h ps i c
  upper : {h : ℕ} {ps : List Place} {i c : ℕ} → Upper c → Allowed Above h ps i c

-- "Good choice at h. One corner for every site, none crowded at h, no two labels meeting at h", by the usual way. L2, above the spot: "any
-- choice of 1 and 2 without meeting labels counts".
pub record Good (way : Way) (h : ℕ) (ps : List Place) (cs : List ℕ) : Type 0 where
  pub corners : Corners (length ps) cs
  pub allowed : (i : ℕ) → i < length ps → Allowed way h ps i (corner_at cs i)
  pub apart : MeetingPair h 1 ps cs → ⊥

-- "A good choice exists" at h.
pub record SomeGood (way : Way) (h : ℕ) (ps : List Place) : Type 0 where
  pub choice : List ℕ
  pub good : Good way h ps choice

-- The first list of corners comes before the second: it has the lower corner at the first site where they differ.
pub data Before : List ℕ → List ℕ → Type 0 where
  lower : {c e : ℕ} {cs es : List ℕ} → c < e → Before (c ∷ cs) (e ∷ es)
  later : {c : ℕ} {cs es : List ℕ} → Before cs es → Before (c ∷ cs) (c ∷ es)

-- "First means: lowest corner for the first site, then for the second, and so on, among good choices only." L2: "Free and first mean what
-- they do now", by either way.
pub record First (way : Way) (h : ℕ) (ps : List Place) (cs : List ℕ) : Type 0 where
  pub good : Good way h ps cs
  pub none_before : (es : List ℕ) → Good way h ps es → Before es cs → ⊥
