-- The open corners of all sites as one list of bytes, four for each site: reading the byte of a corner, and what writing one does.
-- Assumes nothing.
use Rattle.std.specs.Prelude.{◌≡◌, refl, Bool, true, false, cond, List, ◌≢◌, ℕ, ◌+◌, ◌-◌, ◌*◌, ◌<◌, length, get_or, set}
use Rattle.std.proofs.Common.{ap, ◌∙◌, arith, get_or-set_same, get_or-set_other}
use Rattle.std.proofs.Math.Path.{fun_ext}
use Rattle.placing.specs.rules.Corner.{Corner}
use Rattle.placing.specs.deciding.Decides.{holds-yes}
use Rattle.placing.specs.deciding.Tests.{corner_test, corner-decides}

-- Where a list with a place for each corner of each site has that of corner c of site i.
abbrev pub index_of : ℕ → ℕ → ℕ
index_of i c = 4 * i + (c - 1)

-- The byte of corner c of site i; 0 where c is no corner.
unfoldable pub row_of : List ℕ → ℕ → ℕ → ℕ
row_of opens i c = cond (corner_test c) (get_or opens (index_of i c) 0) 0

-- No site has a corner 0.
pub row_zero : (opens : List ℕ) (i : ℕ) → row_of opens i 0 ≡ 0
unfolding row_of
row_zero opens i = refl

-- Where a corner's byte stands.
pub row_at : (opens : List ℕ) (i c : ℕ) → Corner c → row_of opens i c ≡ get_or opens (index_of i c) 0
unfolding row_of
row_at opens i c corner = rw (holds-yes (corner-decides c) corner)

-- The byte of corner e + 1.
pub row_next : (opens : List ℕ) (i e : ℕ) → e < 4 → row_of opens i (e + 1) ≡ get_or opens (4 * i + e) 0
row_next opens i e corner = row_at opens i (e + 1) (omega arith) ∙ ap (λ k. get_or opens k 0) (omega arith)

-- What is open is a corner.
pub open-corner : (opens : List ℕ) (i c : ℕ) → row_of opens i c ≡ 1 → Corner c
unfolding row_of
open-corner opens i c is_open = (corner-decides c).yes_holds (tested (corner_test c) is_open)
  where
    tested : (test : Bool) → cond test (get_or opens (index_of i c) 0) 0 ≡ 1 → test ≡ true
    tested true one = refl
    tested false one = absurd (omega arith)

-- Equal bytes make equal rows.
pub row_same : (opens opens' : List ℕ) (i c : ℕ) → (Corner c → get_or opens' (index_of i c) 0 ≡ get_or opens (index_of i c) 0)
    → row_of opens' i c ≡ row_of opens i c
unfolding row_of
row_same opens opens' i c same = tested (corner_test c) (λ is-corner. same ((corner-decides c).yes_holds is-corner))
  where
    tested : {a b : ℕ} (test : Bool) → (test ≡ true → a ≡ b) → cond test a 0 ≡ cond test b 0
    tested true equal = equal refl
    tested false equal = refl

module _ (opens : List ℕ) (i c v : ℕ) (corner : Corner c) where
  -- A byte that is written stands at its corner,
  pub row_written : index_of i c < length opens → row_of (set opens (index_of i c) v) i c ≡ v
  row_written fits = row_at (set opens (index_of i c) v) i c corner ∙ get_or-set_same opens (index_of i c) v 0 fits

  -- and leaves the site's other corners as they are,
  pub row_kept : (e : ℕ) → e ≢ c → row_of (set opens (index_of i c) v) i e ≡ row_of opens i e
  row_kept e different = row_same opens _ i e (λ there. get_or-set_other opens (index_of i c) (index_of i e) v 0 (omega arith))

  -- and the other sites.
  pub row-elsewhere : (j : ℕ) → j ≢ i → row_of (set opens (index_of i c) v) j ≡ row_of opens j
  row-elsewhere j different = fun_ext (λ e. row_same opens _ j e (λ there. get_or-set_other opens (index_of i c) (index_of j e) v 0 (omega arith)))
