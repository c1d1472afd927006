-- The choice of one corner for each site, freed of geometry: candidates, a conflict between candidates of different sites,
-- and that of three different candidates of a site one is in conflict with nothing.
-- Assumes nothing.
use Rattle.std.specs.Prelude.{◌≡◌, List, ◌≢◌, ◌⊎◌, ℕ, ◌<◌, length}
use Rattle.placing.specs.rules.Corner.{Corner}
use Rattle.placing.specs.rules.Choice.{corner_at}

-- Candidate c of site i conflicts with no candidate of another site. A candidate that is not dead is live.
pub record Dead (n : ℕ) (Candidate : ℕ → ℕ → Type 0) (Conflict : ℕ → ℕ → ℕ → ℕ → Type 0) (i c : ℕ) : Type 0 where
  pub meets_nothing : (j e : ℕ) → j < n → j ≢ i → Candidate j e → Conflict i c j e → ⊥

-- Sites 0 up to n, their candidates (Candidate i c), and the conflicts (Conflict i c j e: corner c of site i with corner e of
-- site j).
pub record Problem : Type 1 where
  pub n : ℕ
  pub Candidate : ℕ → ℕ → Type 0
  pub Conflict : ℕ → ℕ → ℕ → ℕ → Type 0
  pub corner : (i c : ℕ) → Candidate i c → Corner c
  pub symmetric : (i c j e : ℕ) → Conflict i c j e → Conflict j e i c
  pub one_dead : (i a b c : ℕ) → i < n → a ≢ b → a ≢ c → b ≢ c → Candidate i a → Candidate i b → Candidate i c
      → Dead n Candidate Conflict i a ⊎ (Dead n Candidate Conflict i b ⊎ Dead n Candidate Conflict i c)

-- A full choice, as a list of corners: a candidate for every site, no two in conflict.
pub record Solution (P : Problem) (cs : List ℕ) : Type 0 where
  pub one_each : length cs ≡ P.n
  pub candidate : (i : ℕ) → i < P.n → P.Candidate i (corner_at cs i)
  pub apart : (i j : ℕ) → i < P.n → j < P.n → i ≢ j → P.Conflict i (corner_at cs i) j (corner_at cs j) → ⊥
