-- A list with one element more at its end: what holds of all elements, and of every two, goes on to hold.
-- Assumes nothing.
use Rattle.std.specs.Prelude.{List, [], ◌∷◌, ◌++◌, ◌≢◌, ℕ, ◌<◌, length, get_or}
use Rattle.std.proofs.Math.Decide.{dec_lt}
use Rattle.std.proofs.Common.{arith, length-append}
use Rattle.std.proofs.Math.ListN.{get_or-append}
use Rattle.std.proofs.lemmas.List.{get_or_at}

-- What holds of the elements and of the one more, each by its number.
pub each_more : {A : Type 0} (P : A → Type 0) (d : A) (l : List A) (a : A) → ((i : ℕ) → i < length l → P (get_or l i d)) → P a
    → (i : ℕ) → i < length (l ++ (a ∷ [])) → P (get_or (l ++ (a ∷ [])) i d)
each_more P d l a each of-last i below = go (dec_lt i (length l))
  where
    go : Dec (i < length l) → P (get_or (l ++ (a ∷ [])) i d)
    go (yes before) = rw (get_or-append l (a ∷ []) d i before) (each i before)
    go (no past) = rw (get_or_at l a [] d i (omega (arith, length-append l (a ∷ [])))) of-last

-- No two elements have it with one another, and none has it with the one more, either way round.
pub each-two-more : {A : Type 0} (R : A → A → Type 0) (d : A) (l : List A) (a : A) → ((s t : A) → R s t → R t s)
    → ((i j : ℕ) → i < length l → j < length l → i ≢ j → R (get_or l i d) (get_or l j d) → ⊥)
    → ((i : ℕ) → i < length l → R (get_or l i d) a → ⊥)
    → (i j : ℕ) → i < length (l ++ (a ∷ [])) → j < length (l ++ (a ∷ [])) → i ≢ j
    → R (get_or (l ++ (a ∷ [])) i d) (get_or (l ++ (a ∷ [])) j d) → ⊥
each-two-more R d l a turned apart from_last i j below-i below-j differ = go (dec_lt i (length l)) (dec_lt j (length l))
  where
    go : Dec (i < length l) → Dec (j < length l) → R (get_or (l ++ (a ∷ [])) i d) (get_or (l ++ (a ∷ [])) j d) → ⊥
    go (yes before-i) (yes before-j) =
        rw (get_or-append l (a ∷ []) d i before-i, get_or-append l (a ∷ []) d j before-j) (apart i j before-i before-j differ)
    go (yes before-i) (no past-j) =
        rw (get_or-append l (a ∷ []) d i before-i, get_or_at l a [] d j (omega (arith, length-append l (a ∷ [])))) (from_last i before-i)
    go (no past-i) (yes before-j) =
        rw
        (get_or_at l a [] d i (omega (arith, length-append l (a ∷ []))), get_or-append l (a ∷ []) d j before-j)
        (λ r. from_last j before-j (turned a (get_or l j d) r))
    go (no past-i) (no past-j) = λ r. absurd (omega (arith, length-append l (a ∷ [])))
