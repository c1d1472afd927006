-- A loop that writes a list from a place on, one store a turn: what it has done after n turns. So are the bytes of a fresh state written,
-- and the four corners of a site are gone over.
-- Assumes nothing.
use Rattle.std.specs.Prelude.{◌≡◌, refl, List, ◌≢◌, ℕ, ◌+◌, ◌*◌, ◌≤◌, ◌<◌, length, get_or, set}
use Rattle.std.proofs.Common.{◌∙◌, arith, length-set, get_or-set_same, get_or-set_other}
use Rattle.std.proofs.Math.Decide.{ℕ_discrete, dec_lt}
use Rattle.placing.specs.rules.Corner.{Corner}
use Rattle.placing.specs.search.Rows.{index_of}

-- The n elements of a list from a place on are as they should be, and all others as at the start.
pub record Filled {A : Type 0} (past : A) (Is : ℕ → A → Type 0) (from n : ℕ) (start list : List A) : Type 0 where
  pub size : length list ≡ length start
  pub there : (k : ℕ) → k < n → Is k (get_or list (from + k) past)
  pub earlier : (m : ℕ) → m < from → get_or list m past ≡ get_or start m past
  pub later : (m : ℕ) → from + n ≤ m → get_or list m past ≡ get_or start m past

module _ {A : Type 0} {past : A} {Is : ℕ → A → Type 0} {from : ℕ} where
  -- No element is filled at the start,
  pub filled_none : {list : List A} → Filled past Is from 0 list list
  filled_none = record { size = refl; there = λ k none. absurd (omega arith); earlier = λ m before. refl; later = λ m after. refl }

  -- and each store fills one more.
  pub filled_more : {n : ℕ} {start list : List A} {v : A} → Filled past Is from n start list → from + n < length start → Is n v
      → Filled past Is from (n + 1) start (set list (from + n) v)
  filled_more {n} {start} {list} {v} filled fits right =
      record {
        size = simp length-set filled.size;
        there = λ k below. at k below (ℕ_discrete k n);
        earlier = λ m before. get_or-set_other list (from + n) m v past (omega arith) ∙ filled.earlier m before;
        later = λ m after. get_or-set_other list (from + n) m v past (omega arith) ∙ filled.later m (omega arith);
      }
    where
      at : (k : ℕ) → k < n + 1 → Dec (k ≡ n) → Is k (get_or (set list (from + n) v) (from + k) past)
      at k below (yes last) = rw (last, get_or-set_same list (from + n) v past (omega (arith, filled.size))) right
      at k below (no other) = rw (get_or-set_other list (from + n) (from + k) v past (omega arith)) (filled.there k (omega arith))

module _ {A : Type 0} {past : A} {Is : ℕ → A → Type 0} {n : ℕ} {start list : List A} (filled : Filled past Is 0 n start list) where
  -- The same of a list that is filled from its front: its first n elements are right,
  pub filled_front : (k : ℕ) → k < n → Is k (get_or list k past)
  filled_front k below = let same : 0 + k ≡ k = omega arith in rw same at (filled.there k below)

  -- and the next store is at n.
  pub filled_next : {v : A} → n < length start → Is n v → Filled past Is 0 (n + 1) start (set list n v)
  filled_next fits right = let same : 0 + n ≡ n = omega arith in rw same at (filled_more filled (omega arith) right)

-- Where the four elements of site i are filled, those of the other sites are as at the start.
pub filled-elsewhere : {A : Type 0} {past : A} {Is : ℕ → A → Type 0} {i : ℕ} {start list : List A} → Filled past Is (4 * i) 4 start list
    → (j c : ℕ) → j ≢ i → Corner c → get_or list (index_of j c) past ≡ get_or start (index_of j c) past
filled-elsewhere {past = past} {i = i} {start = start} {list = list} filled j c different corner = by_side (dec_lt j i)
  where
    by_side : Dec (j < i) → get_or list (index_of j c) past ≡ get_or start (index_of j c) past
    by_side (yes before) = filled.earlier (index_of j c) (omega arith)
    by_side (no after) = filled.later (index_of j c) (omega arith)
