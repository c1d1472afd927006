-- The reaches of all sites, in one array: each pair of sites is gone over once, and the two lower each other's reaches.
-- Assumes nothing.
use Rattle.std.specs.Prelude.{◌≡◌, List, ◌≢◌, ◌⊎◌, ℕ, ◌+◌, ◌-◌, ◌*◌, ◌≤◌, ◌<◌, min, max, length, get_or, replicate}
use Rattle.std.proofs.Common.{ap, subst, ◌∙◌, inl, inr, le_trans, arith}
use Rattle.std.proofs.Math.Decide.{ℕ_discrete, dec_lt}
use Rattle.std.proofs.lemmas.List.{length-replicate, get_or-replicate}
use Rattle.placing.specs.declared.units.HalfUnits.{HalfUnits}
use Rattle.placing.specs.declared.units.Place.{Place}
use Rattle.placing.specs.rules.Units.{most_sites, site_at, OnPlan}
use Rattle.placing.specs.rules.Corner.{Corner}
use Rattle.placing.specs.search.Rows.{index_of}
use Rattle.placing.specs.code.Filled.{Filled, filled-elsewhere}
use Rattle.placing.specs.code.Sites.{Judged}
use Rattle.placing.specs.code.Reach.{distance_between, distance-symmetric, Lowered, ReachIs, ReachOver, over_fewer, over_lowered, over_far, over-all}

-- The reach of corner c of site i, in half units, off the array of all.
abbrev pub reach_at : List ℕ → ℕ → ℕ → ℕ
reach_at reaches i c = get_or reaches (index_of i c) 0

-- ---- one pair

-- The first e reaches of site i, at s, are lowered by the site at t.
abbrev pub LoweredUpTo : (i : ℕ) (s t : Place) (before : List ℕ) (e : ℕ) (after : List ℕ) → Type 0
LoweredUpTo i s t before e after = Filled 0 (λ k reach. Lowered s (k + 1) t (get_or before (4 * i + k) 0) reach) (4 * i) e before after

-- All four are.
abbrev pub SiteLowered : (i : ℕ) (s t : Place) (before after : List ℕ) → Type 0
SiteLowered i s t before after = LoweredUpTo i s t before 4 after

-- So that of each corner is.
lowered-at : (i : ℕ) {s t : Place} {before after : List ℕ} → SiteLowered i s t before after
    → (c : ℕ) → Corner c → Lowered s c t (reach_at before i c) (reach_at after i c)
lowered-at i {s} {t} {before} {after} lowered c corner =
    let same : c - 1 + 1 ≡ c = omega arith in
    subst (λ e. Lowered s e t (reach_at before i c) (reach_at after i c)) same (lowered.there (c - 1) (omega arith))

-- Lowering the reaches of sites i and j, at s and t, by each other, for sides up to the top.
pub record MayLower (reaches : List ℕ) (top : HalfUnits) (i : ℕ) (s : Place) (j : ℕ) (t : Place) : Type 0 where
  pub size : length reaches ≡ 4 * most_sites
  pub inside : i < most_sites
  pub other_inside : j < most_sites
  pub on_plan : OnPlan s
  pub other_on_plan : OnPlan t
  pub judged : Judged top

-- Both are lowered.
pub record BothLowered (i : ℕ) (s : Place) (j : ℕ) (t : Place) (before after : List ℕ) : Type 0 where
  pub between : List ℕ
  pub one : SiteLowered i s t before between
  pub other : SiteLowered j t s between after

-- They are, or the two are not nearer than the doubled top.
abbrev pub PairLowered : (top i : ℕ) (s : Place) (j : ℕ) (t : Place) (before after : List ℕ) → Type 0
PairLowered top i s j t before after = ((2 * top ≤ distance_between s t) × (after ≡ before)) ⊎ BothLowered i s j t before after

-- ---- the pairs so far

-- The pairs that have a site below i.
abbrev pub RowsBelow : ℕ → ℕ → ℕ → Type 0
RowsBelow i a b = min a b < i

-- And those of site i with a later site below j.
abbrev pub PairsBelow : ℕ → ℕ → ℕ → ℕ → Type 0
PairsBelow i j a b = RowsBelow i a b ⊎ ((min a b ≡ i) × (max a b < j))

-- For sides up to the top, the reaches of all sites over some of the pairs, in an array of full size.
pub record ReachesOver (ps : List Place) (top : ℕ) (Over : ℕ → ℕ → Type 0) (reaches : List ℕ) : Type 0 where
  pub size : length reaches ≡ 4 * most_sites
  pub at_corner : (a c : ℕ) → a < length ps → Corner c → ReachOver ps top a c (Over a) (reach_at reaches a c)

-- The same for sides up to a lower top.
pub over-lower : {ps : List Place} {top lower : ℕ} {Over : ℕ → ℕ → Type 0} {reaches : List ℕ} → lower ≤ top → ReachesOver ps top Over reaches
    → ReachesOver ps lower Over reaches
over-lower falls over =
    record {
      size = over.size;
      at_corner = λ a c listed corner. record {
        crowds = λ h inside. (over.at_corner a c listed corner).crowds h (le_trans inside falls);
        below = λ h j inside. (over.at_corner a c listed corner).below h j (le_trans inside falls);
      };
    }

-- Over no pairs they are the doubled top.
pub over_none : {ps : List Place} {top : ℕ} (most : ℕ) → most ≡ 2 * top → length ps ≤ most_sites
    → ReachesOver ps top (RowsBelow 0) (replicate (4 * most_sites) most)
over_none {ps} {top} most double few =
    record {
      size = length-replicate (4 * most_sites) most;
      at_corner = λ a c listed corner. record {
        crowds = λ h inside above.
            let is = get_or-replicate (4 * most_sites) (index_of a c) most 0 (omega arith) in
            absurd (omega arith);
        below = λ h b inside there different passed. absurd (omega arith);
      };
    }

-- ---- one pair more

-- The pairs that come with the pair of i and j: of site i the one with j,
module _ {i j : ℕ} (later : i < j) where
  last-seen : (b : ℕ) → b ≢ i → PairsBelow i (j + 1) i b → Dec (b ≡ j) → PairsBelow i j i b ⊎ (b ≡ j)
  last-seen b different (inl earlier) is_last = inl (inl earlier)
  last-seen b different (inr (row, below)) (yes last) = inr last
  last-seen b different (inr (row, below)) (no earlier) = inl (inr (row, omega arith))

  -- of site j the one with i,
  last-seen-back : (b : ℕ) → PairsBelow i (j + 1) j b → PairsBelow i j j b ⊎ (b ≡ i)
  last-seen-back b (inl earlier) = inl (inl earlier)
  last-seen-back b (inr (row, below)) = inr (omega arith)

  -- and of another site none.
  not_seen : (a b : ℕ) → a ≢ i → a ≢ j → PairsBelow i (j + 1) a b → PairsBelow i j a b
  not_seen a b not-i not-j (inl earlier) = inl earlier
  not_seen a b not-i not-j (inr (row, below)) = inr (row, omega arith)

module _ {ps : List Place} {top i j : ℕ} {before after : List ℕ} (later : i < j) (listed : j < length ps)
    (over : ReachesOver ps top (PairsBelow i j) before) where
  -- Site i has seen site j,
  seen : (c : ℕ) → Corner c → PairLowered top i (site_at ps i) j (site_at ps j) before after
      → ReachOver ps top i c (λ b. PairsBelow i j i b ⊎ (b ≡ j)) (reach_at after i c)
  seen c corner (inl (far, same)) = rw same (over_far (over.at_corner i c (omega arith) corner) far)
  seen c corner (inr both) =
      rw (filled-elsewhere both.other i c (omega arith) corner)
      (over_lowered (over.at_corner i c (omega arith) corner) listed (omega arith) (lowered-at i both.one c corner))

  -- site j has seen site i,
  seen_back : (c : ℕ) → Corner c → PairLowered top i (site_at ps i) j (site_at ps j) before after
      → ReachOver ps top j c (λ b. PairsBelow i j j b ⊎ (b ≡ i)) (reach_at after j c)
  seen_back c corner (inl (far, same)) =
      rw same (over_far (over.at_corner j c listed corner) (rw (distance-symmetric (site_at ps j) (site_at ps i)) far))
  seen_back c corner (inr both) =
      over_lowered (over.at_corner j c listed corner) (omega arith) (omega arith)
      (subst (λ r. Lowered (site_at ps j) c (site_at ps i) r (reach_at after j c)) (filled-elsewhere both.one j c (omega arith) corner)
      (lowered-at j both.other c corner))

  -- and the others are as they were.
  unseen : (a c : ℕ) → a ≢ i → a ≢ j → Corner c → PairLowered top i (site_at ps i) j (site_at ps j) before after
      → reach_at after a c ≡ reach_at before a c
  unseen a c not-i not-j corner (inl (far, same)) = ap (λ (l : List ℕ). reach_at l a c) same
  unseen a c not-i not-j corner (inr both) =
      filled-elsewhere both.other a c not-j corner ∙ filled-elsewhere both.one a c not-i corner

  -- No reach is added.
  pair_size : PairLowered top i (site_at ps i) j (site_at ps j) before after → length after ≡ length before
  pair_size (inl (far, same)) = ap length same
  pair_size (inr both) = both.other.size ∙ both.one.size

  -- So the reaches are over this pair besides.
  pub over-pair : PairLowered top i (site_at ps i) j (site_at ps j) before after → ReachesOver ps top (PairsBelow i (j + 1)) after
  over-pair pair =
      record {
        size = pair_size pair ∙ over.size;
        at_corner = λ a c there corner. by-site a c there corner (ℕ_discrete a i) (ℕ_discrete a j);
      }
    where
      by-site : (a c : ℕ) → a < length ps → Corner c → Dec (a ≡ i) → Dec (a ≡ j)
          → ReachOver ps top a c (PairsBelow i (j + 1) a) (reach_at after a c)
      by-site a c there corner (yes is-i) is-j =
          rw is-i (over_fewer (seen c corner pair) (λ b b_there different passed. last-seen later b different passed (ℕ_discrete b j)))
      by-site a c there corner (no not-i) (yes is-j) =
          rw is-j (over_fewer (seen_back c corner pair) (λ b b_there different passed. last-seen-back later b passed))
      by-site a c there corner (no not-i) (no not-j) =
          rw (unseen a c not-i not-j corner pair)
          (over_fewer (over.at_corner a c there corner) (λ b b_there different passed. not_seen later a b not-i not-j passed))

-- ---- rows

module _ {ps : List Place} {top i j : ℕ} {reaches : List ℕ} where
  -- At the start of a row there is no pair of it,
  pub row-starts : j ≡ i + 1 → ReachesOver ps top (RowsBelow i) reaches → ReachesOver ps top (PairsBelow i j) reaches
  row-starts first over =
      record {
        size = over.size;
        at_corner = λ a c there corner. over_fewer (over.at_corner a c there corner) (λ b b_there different. earlier a b different);
      }
    where
      earlier : (a b : ℕ) → b ≢ a → PairsBelow i j a b → RowsBelow i a b
      earlier a b different (inl below) = below
      earlier a b different (inr (row, below)) = absurd (omega arith)

  -- and at its end there are all.
  pub row_ends : length ps ≤ j → ReachesOver ps top (PairsBelow i j) reaches → ReachesOver ps top (RowsBelow (i + 1)) reaches
  row_ends all over =
      record {
        size = over.size;
        at_corner = λ a c there corner.
            over_fewer (over.at_corner a c there corner) (λ b b_there different below. in_row a b there b_there below (dec_lt (min a b) i));
      }
    where
      in_row : (a b : ℕ) → a < length ps → b < length ps → RowsBelow (i + 1) a b → Dec (min a b < i) → PairsBelow i j a b
      in_row a b there b_there below (yes earlier) = inl earlier
      in_row a b there b_there below (no here) = inr (omega arith, omega arith)

-- Over all rows they are the reaches.
pub over-rows : {ps : List Place} {top n : ℕ} {reaches : List ℕ} → length ps ≤ n → ReachesOver ps top (RowsBelow n) reaches
    → (a c : ℕ) → a < length ps → Corner c → ReachIs ps top a c (reach_at reaches a c)
over-rows all over a c there corner = over-all (λ b b_there. omega arith) (over.at_corner a c there corner)
