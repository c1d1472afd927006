-- Document 01: "at one h, of a site's corners that are not crowded, at most two have a label that meets the label of another
-- site's corner that is not crowded."
-- Assumes nothing.
use Rattle.std.specs.Prelude.{◌≡◌, refl, List, ◌≢◌, ◌⊎◌, ℕ, ◌+◌, ◌-◌, ◌<◌, length}
use Rattle.std.proofs.Common.{sym, ap, subst, ◌∙◌, inl, inr, ⊎_elim, le_antisymm, add_left_cancel, arith}
use Rattle.std.proofs.Math.Logic.{Ne-symm, ⊎_map}
use Rattle.std.proofs.Math.Decide.{ℕ_discrete}
use Rattle.placing.specs.declared.units.Place.{Place}
use Rattle.placing.specs.declared.corner.Direction.{Direction}
use Rattle.placing.specs.rules.Units.{Axis, X, along, site_at}
use Rattle.placing.specs.rules.Corner.{Corner, toward, opposite}
use Rattle.placing.specs.rules.Label.{Onward, across, Overlap, same_direction, facing, Meet}
use Rattle.placing.specs.rules.Crowd.{Ahead, Crowded}
use Rattle.placing.specs.deciding.Tests.{opposite-differs}
use Rattle.placing.specs.theorems.Corner.{along-both, corner_toward, corner-toward, toward-corner, corner-equal}
use Rattle.placing.specs.theorems.Label.{onward-turned, onward-either}

-- Along one axis, the place b lies ahead of a in some direction: in the direction d of the label at a, or else a lies ahead of b in the
-- direction e of the label at b.
record Sight (h : ℕ) (d : Direction) (a : ℕ) (e : Direction) (b : ℕ) : Type 0 where
  direction : Direction
  ahead : Ahead h direction a b
  own_or_back : (direction ≡ d) ⊎ Ahead h e b a

-- Labels that overlap along an axis have the one place in sight of the other.
overlap-sight : {h : ℕ} {d e : Direction} {a b : ℕ} → Overlap h 1 d a e b → Sight h d a e b
overlap-sight {d} (facing against onward near) =
    record { direction = d; ahead = record { onward = onward; near = omega (arith, near) }; own_or_back = inl refl }
overlap-sight {h} {d} {e} {a} {b} (same_direction same near) = go (onward-either d a b)
  where
    go : Onward d a b ⊎ Onward d b a → Sight h d a e b
    go (inl onward) = record { direction = d; ahead = record { onward = onward; near = omega (arith, near) }; own_or_back = inl refl }
    go (inr back) =
        record {
          direction = opposite d;
          ahead = record { onward = onward-turned back; near = omega (arith, near) };
          own_or_back = inr (record { onward = subst (λ e. Onward e b a) same back; near = omega (arith, near) });
        }

-- So one of the places lies ahead of the other in the direction of the other's label,
overlap-ahead : {h : ℕ} {d e : Direction} {a b : ℕ} → Overlap h 1 d a e b → Ahead h d a b ⊎ Ahead h e b a
overlap-ahead {h} {a} {b} overlap =
    let sight = overlap-sight overlap in
    ⊎_map (λ is-own. subst (λ d. Ahead h d a b) is-own sight.ahead) (λ back. back) sight.own_or_back

-- and each of the other, unless the labels go the same direction.
overlap-facing : {h : ℕ} {d e : Direction} {a b : ℕ} → Overlap h 1 d a e b → (d ≡ e) ⊎ (Ahead h d a b × Ahead h e b a)
overlap-facing (same_direction same near) = inl same
overlap-facing {a} {b} (facing against onward near) =
    inr (
      record { onward = onward; near = omega (arith, near) },
      record { onward = subst (λ e. Onward e b a) against (onward-turned onward); near = omega (arith, near) },
    )

-- The numbers of four different corners add up to 10.
four-corners : {a b c e : ℕ} → a ≢ b → a ≢ c → b ≢ c → e ≢ a → e ≢ b → e ≢ c → Corner a → Corner b → Corner c → Corner e
    → a + b + c + e ≡ 10
four-corners a≢b a≢c b≢c e≢a e≢b e≢c a-corner b-corner c-corner e-corner = le_antisymm (omega arith) (omega arith)

-- So every corner but the fourth is one of the three others.
one-of-others : {a b c f : ℕ} → a ≢ b → a ≢ c → b ≢ c → Corner a → Corner b → Corner c → a + b + c + f ≡ 10
    → (e : ℕ) → Corner e → e ≢ f → (e ≡ a) ⊎ ((e ≡ b) ⊎ (e ≡ c))
one-of-others {a} {b} {c} a≢b a≢c b≢c a-corner b-corner c-corner sum e e-corner differ =
    go (ℕ_discrete e a) (ℕ_discrete e b) (ℕ_discrete e c)
  where
    go : Dec (e ≡ a) → Dec (e ≡ b) → Dec (e ≡ c) → (e ≡ a) ⊎ ((e ≡ b) ⊎ (e ≡ c))
    go (yes is-a) is_b is_c = inl is-a
    go (no not_a) (yes is_b) is_c = inr (inl is_b)
    go (no not_a) (no not-b) (yes is_c) = inr (inr is_c)
    go (no not_a) (no not-b) (no not-c) =
        let same = four-corners a≢b a≢c b≢c not_a not-b not-c a-corner b-corner c-corner e-corner ∙ sym sum in
        absurd (differ (add_left_cancel (a + b + c) same))

-- The corner that lies the other way along both axes.
abbrev far_from : ℕ → ℕ
far_from f = corner_toward (λ axis. opposite (toward axis f))

-- No direction of f is one of its own.
far-other-way : (f : ℕ) (axis : Axis) → toward axis (far_from f) ≢ toward axis f
far-other-way f axis same = opposite-differs (toward axis f) (sym (toward-corner (λ axis. opposite (toward axis f)) axis) ∙ same)

module _ (h : ℕ) (ps : List Place) where
  -- Along an axis, site j lies ahead of site i in the direction of the label at corner c.
  abbrev AheadAt : (i c j : ℕ) → Axis → Type 0
  AheadAt i c j axis = Ahead h (toward axis c) (along axis (site_at ps i)) (along axis (site_at ps j))

  -- A listed site that does so along both axes crowds the corner.
  crowded-by : {i c j : ℕ} → j < length ps → j ≢ i → ((axis : Axis) → AheadAt i c j axis) → Crowded h ps i c
  crowded-by {j} listed differ ahead = record { other = j; listed = listed; different = differ; covered = ahead }

  -- The label at corner c of site i meets that of no uncrowded corner of another site.
  pub record Alone (i c : ℕ) : Type 0 where
    pub meets_nothing : (j e : ℕ) → j < length ps → j ≢ i → Corner e → (Crowded h ps j e → ⊥)
        → Meet h 1 (site_at ps i) c (site_at ps j) e → ⊥

  -- Where every corner of a site but f is uncrowded, the one far from f is alone: it lies between the two others. A site whose label meets
  -- its label lies ahead in the directions of some corner of this site, and of f only if this site crowds the other's corner.
  pub between-meets-nothing : {i f : ℕ} → i < length ps → ((c : ℕ) → Corner c → c ≢ f → Crowded h ps i c → ⊥) → Alone i (far_from f)
  between-meets-nothing {i} {f} i-listed uncrowded = record { meets_nothing = go }
    where
      go : (j e : ℕ) → j < length ps → j ≢ i → Corner e → (Crowded h ps j e → ⊥) → Meet h 1 (site_at ps i) (far_from f) (site_at ps j) e → ⊥
      go j e j-listed differ e-corner other meet =
          uncrowded (corner_toward direction) (corner-toward direction) not_f (crowded-by j-listed differ seen)
        where
          sight : (axis : Axis) → Sight h (toward axis (far_from f)) (along axis (site_at ps i)) (toward axis e) (along axis (site_at ps j))
          sight axis = overlap-sight (meet axis)

          direction : Axis → Direction
          direction axis = (sight axis).direction

          seen : (axis : Axis) → AheadAt i (corner_toward direction) j axis
          seen axis = rw (toward-corner direction axis) (sight axis).ahead

          not_f : corner_toward direction ≢ f
          not_f is_f = other (crowded-by i-listed (Ne-symm differ) (λ axis. ⊎_elim (own axis) (λ back. back) (sight axis).own_or_back))
            where
              own : (axis : Axis) → direction axis ≡ toward axis (far_from f) → AheadAt j e i axis
              own axis is-own = absurd (far-other-way f axis (sym is-own ∙ sym (toward-corner direction axis) ∙ ap (toward axis) is_f))

  -- Where two uncrowded labels meet, their corners are equal: facing along an axis, one would lie in the doubled label of the
  -- other.
  pub same-corner : {i j c e : ℕ} → i < length ps → j < length ps → i ≢ j → Corner c → Corner e
      → (Crowded h ps i c → ⊥) → (Crowded h ps j e → ⊥) → Meet h 1 (site_at ps i) c (site_at ps j) e → c ≡ e
  same-corner {i} {j} {c} {e} i-listed j-listed differ c-corner e-corner own other meet =
      corner-equal c-corner e-corner (λ axis. go axis (overlap-facing (meet axis)) (overlap-ahead (meet (across axis))))
    where
      go : (axis : Axis) → (toward axis c ≡ toward axis e) ⊎ (AheadAt i c j axis × AheadAt j e i axis)
          → AheadAt i c j (across axis) ⊎ AheadAt j e i (across axis) → toward axis c ≡ toward axis e
      go axis (inl same) over = same
      go axis (inr each) (inl ahead) = absurd (own (crowded-by j-listed (Ne-symm differ) (along-both (AheadAt i c j) axis each.0 ahead)))
      go axis (inr each) (inr back) = absurd (other (crowded-by i-listed differ (along-both (AheadAt j e i) axis each.1 back)))

  -- Of three different uncrowded corners of a site one is alone.
  pub one_of_three : {i a b c : ℕ} → i < length ps → a ≢ b → a ≢ c → b ≢ c → Corner a → Corner b → Corner c
      → (Crowded h ps i a → ⊥) → (Crowded h ps i b → ⊥) → (Crowded h ps i c → ⊥) → Alone i a ⊎ (Alone i b ⊎ Alone i c)
  one_of_three {i} {a} {b} {c} listed a≢b a≢c b≢c a-corner b-corner c-corner of-a of-b of_c =
      let alone = between-meets-nothing {f = f} listed uncrowded in
      ⊎_map (λ is-a. subst (Alone i) is-a alone) (⊎_map (λ is_b. subst (Alone i) is_b alone) (λ is_c. subst (Alone i) is_c alone))
      (which (far_from f) (corner-toward (λ axis. opposite (toward axis f))) (λ same. far-other-way f X (ap (toward X) same)))
    where
      f : ℕ
      f = 10 - (a + b + c)

      which : (e : ℕ) → Corner e → e ≢ f → (e ≡ a) ⊎ ((e ≡ b) ⊎ (e ≡ c))
      which = one-of-others a≢b a≢c b≢c a-corner b-corner c-corner (omega arith)

      uncrowded : (e : ℕ) → Corner e → e ≢ f → Crowded h ps i e → ⊥
      uncrowded e e-corner differ crowded =
          ⊎_elim (λ is-a. of-a (subst (Crowded h ps i) is-a crowded))
          (⊎_elim (λ is_b. of-b (subst (Crowded h ps i) is_b crowded)) (λ is_c. of_c (subst (Crowded h ps i) is_c crowded)))
          (which e e-corner differ)

  -- The label at corner c of site i meets the label of another site's corner that is not crowded.
  pub record Live (i c : ℕ) : Type 0 where
    pub other : ℕ
    pub listed : other < length ps
    pub different : other ≢ i
    pub at : ℕ
    pub corner : Corner at
    pub uncrowded : Crowded h ps other at → ⊥
    pub meets : Meet h 1 (site_at ps i) c (site_at ps other) at

  -- Alone means not live.
  alone-not-live : {i c : ℕ} → Alone i c → Live i c → ⊥
  alone-not-live alone live =
      alone.meets_nothing live.other live.at live.listed live.different live.corner live.uncrowded live.meets

  -- "At one h, of a site's corners that are not crowded, at most two have a label that meets the label of another site's
  -- corner that is not crowded."
  pub at_most_two : {i a b c : ℕ} → i < length ps → a ≢ b → a ≢ c → b ≢ c → Corner a → Corner b → Corner c
      → (Crowded h ps i a → ⊥) → (Crowded h ps i b → ⊥) → (Crowded h ps i c → ⊥) → Live i a → Live i b → Live i c → ⊥
  at_most_two listed a≢b a≢c b≢c a-corner b-corner c-corner of-a of-b of_c a-live b-live c-live =
      ⊎_elim
      (λ alone. alone-not-live alone a-live)
      (⊎_elim (λ alone. alone-not-live alone b-live) (λ alone. alone-not-live alone c-live))
      (one_of_three listed a≢b a≢c b≢c a-corner b-corner c-corner of-a of-b of_c)
