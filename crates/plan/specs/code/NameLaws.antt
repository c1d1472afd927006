-- Reading a name byte by byte, and comparing two texts and two records of names.
-- Assumes nothing.
use Rattle.std.specs.Prelude.{Bool, true, false, ◌&&◌, List, [], ◌∷◌, ◌≡◌, refl, ℕ, zero, suc, ◌-◌, ◌≤◌, ◌<◌, eqb, length, drop, replicate, Some, None}
use Rattle.std.specs.List.{list_all}
use Rattle.std.specs.Cmp.Lexicographic.{pointwise}
use Rattle.std.proofs.Common.{sym, ap, ◌∙◌, arith, le-leb}
use Rattle.std.proofs.lemmas.Bool.{lt-leb}
use Rattle.std.proofs.lemmas.Bool.Decides.{same_from_decides}
use Rattle.std.specs.Bool.{Decides}
use borrow.Author.Tests.{eqb-true, eq-eqb}
use Rattle.std.proofs.Math.Nat.{zero-sub, suc-sub-suc, sub-zero}
use Rattle.plan.specs.declared.name.Name.{Name}
use Rattle.plan.specs.rules.Text.{is_name_byte, all_name_bytes, is_name, same_bytes, most_name_bytes}
use Rattle.plan.specs.calls.Plan.{name_of, name_held}
use Rattle.plan.specs.theorems.Text.{and_both, same-bytes-same, same-bytes-refl}
use Rattle.plan.specs.code.NameRead.{Padded, name_where, name_read}

-- All bytes are of a name: the test that `all` makes.
pub name-bytes-all : (text : List ℕ) → list_all is_name_byte text ≡ all_name_bytes text
unfolding all_name_bytes
name-bytes-all [] = refl
name-bytes-all (b ∷ text) = ap (λ (rest : Bool). is_name_byte b && rest) (name-bytes-all text)

-- The rule for a name, at a text of no byte, at one that is too long, and at others.
pub empty-no-name : (text : List ℕ) → length text ≡ 0 → is_name text ≡ false
unfolding is_name
empty-no-name text e = rw e

pub long-no-name : (text : List ℕ) → most_name_bytes < length text → is_name text ≡ false
unfolding is_name
long-no-name text h = rw (le-leb 1 (length text) (omega arith), lt-leb (length text) most_name_bytes h)

pub short-name : (text : List ℕ) → 1 ≤ length text → length text ≤ most_name_bytes → is_name text ≡ all_name_bytes text
unfolding is_name
short-name text h l = rw (le-leb 1 (length text) h, le-leb (length text) most_name_bytes l)

-- k zeros without the first n of them: what stays behind a text that is written over them.
pub drop-zeros : (n k : ℕ) → drop {A = ℕ} n (replicate k 0) ≡ replicate (k - n) 0
drop-zeros zero k = rw sub-zero
drop-zeros (suc n) zero = rw zero-sub
drop-zeros (suc n) (suc k) = rw suc-sub-suc (drop-zeros n k)

-- What is handed back where the text is no name, and where it is one.
pub no-name-read : (text : List ℕ) → is_name text ≡ false → None ≡ name_read text
no-name-read text refused = sym (ap (λ (ok : Bool). name_where ok text) refused)

pub name-read : (text : List ℕ) {name : Name} → is_name text ≡ true → name ≡ name_of text → Some name ≡ name_read text
name-read text is named = ap (λ (n : Name). Some n) named ∙ sym (ap (λ (ok : Bool). name_where ok text) is)

-- `==` on two texts compares their bytes: what it says is what the rules' test says.
pub texts-equal : (a b : List ℕ) → pointwise eqb a b ≡ same_bytes a b
unfolding same_bytes
texts-equal [] [] = refl
texts-equal [] (c ∷ other) = refl
texts-equal (b ∷ bytes) [] = refl
texts-equal (b ∷ bytes) (c ∷ other) = ap (λ (rest : Bool). eqb b c && rest) (texts-equal bytes other)

-- `==` on two records compares their fields,
abbrev pub same_records : Name → Name → Bool
same_records a b = pointwise eqb a.bytes b.bytes && eqb a.len b.len

records-decide : (a b : Name) → Decides (same_records a b) (a ≡ b)
records-decide a b = (
  λ is.
      let both = and_both (pointwise eqb a.bytes b.bytes) (eqb a.len b.len) is in
      let bytes = same-bytes-same a.bytes b.bytes (sym (texts-equal a.bytes b.bytes) ∙ both.0) in
      let len = eqb-true a.len b.len both.1 in
      λ k. record { bytes = bytes k; len = len k },
  λ same. ap (λ (name : Name). same_records a name) (sym same) ∙ rw (texts-equal, same-bytes-refl a.bytes, eq-eqb a.len a.len refl),
)

-- and two records hold the same name exactly where they are the same. So what `==` says of them is what the rules' test says.
held-decides : (a b : Name) → Padded a → Padded b → Decides (same_bytes (name_held a) (name_held b)) (a ≡ b)
held-decides a b padded-a padded-b = (
  λ is. padded-a ∙ ap name_of (same-bytes-same (name_held a) (name_held b) is) ∙ sym padded-b,
  λ same. ap (λ (name : Name). same_bytes (name_held a) (name_held name)) (sym same) ∙ same-bytes-refl (name_held a),
)

pub records-equal : (a b : Name) → Padded a → Padded b → same_records a b ≡ same_bytes (name_held a) (name_held b)
records-equal a b padded-a padded-b = same_from_decides _ _ (records-decide a b) (held-decides a b padded-a padded-b)
