-- Laws of reading the input, for the proofs of the functions that read.
-- Assumes nothing.
use Rattle.std.specs.Prelude.{◌≡◌, refl, List, ◌++◌, ℕ, zero, suc, ◌+◌, ◌-◌, ◌<◌, ◌≤◌, Option, Result, Ok, Err, IfOk, OnErr, length, take, drop}
use Rattle.std.specs.Io.KnownBytes.{Consumes}
use Rattle.std.proofs.Common.{sym, ap, ◌∙◌, subst, add-zero, arith, length-take, length-drop}
use Rattle.std.proofs.Math.Seq.{take-add}
use Rattle.std.proofs.KnownBytes.{Consumes-trans}
use Rattle.place.specs.Input.{
  Step,
  Reading,
  Got,
  Ended,
  Failed,
  GotSome,
  ReadBehind,
  InputReads,
  once_more,
  AllRead,
  FailedRead,
  bytes_of,
  left_after,
  room_left,
  step_of,
  after_read,
}

-- An error of a read is a failure, whatever it is, and nothing else is:
pub error-fails : {E : Type 0} (e : E) → step_of (Err e) ≡ Failed
error-fails e = refl

-- what was brought is counted,
pub brought-counts : (E : Type 0) (n : ℕ) → bytes_of (step_of {E = E} (Ok n)) ≡ n
brought-counts E zero = refl
brought-counts E (suc n) = refl

-- and none are the end of the input,
pub none-ends : (E : Type 0) → step_of {E = E} (Ok 0) ≡ Ended
none-ends E = refl

-- and some are that many.
pub some-come : (E : Type 0) (n : ℕ) → 0 < n → step_of {E = E} (Ok n) ≡ Got n
some-come E zero some = absurd (omega (arith, some))
some-come E (suc n) some = refl

-- A step that got something got a byte or more,
pub got-some : {E : Type 0} (got : Result ℕ E) → GotSome (step_of got)
got-some (Err e) = tt
got-some (Ok zero) = tt
got-some (Ok (suc n)) = omega arith

-- and no more bytes come than there is room for.
pub bytes_fit : {E : Type 0} (got : Result ℕ E) (room : ℕ) → IfOk got (λ n. n ≤ room) → bytes_of (step_of got) ≤ room
bytes_fit (Err e) room moved = omega arith
bytes_fit (Ok zero) room moved = omega arith
bytes_fit (Ok (suc n)) room moved = moved

-- So one read into what is left of a text stays within it.
pub is_read_within : {E : Type 0} (text : List ℕ) (at : ℕ) (got : Result ℕ E) → at < length text
    → IfOk got (λ n. n ≤ length (take (length text - at) (drop at text))) → at + bytes_of (step_of got) ≤ length text
is_read_within text at got inside moved =
    omega (arith, bytes_fit got _ moved, length-take (length text - at) (drop at text), length-drop at text)

-- Where something is left after a step, all of the room is.
left-whole : (s : Step) (left : ℕ) → 0 < left_after s left → left_after s left ≡ left
left-whole (Got n) left some = refl
left-whole Ended left some = absurd (omega arith)
left-whole Failed left some = absurd (omega arith)

pub left-inside : (r : Reading) (room : List ℕ) → 0 < room_left r room → r.at < length room
left-inside r room some = omega (arith, left-whole r.last (length room - r.at) some)

-- Each read leaves less.
less-after : (s : Step) (from to room : ℕ) → to ≡ from + bytes_of s → GotSome s → from < room → left_after s (room - to) < room - from
less-after (Got n) from to room counted some inside = omega arith
less-after Ended from to room counted some inside = omega arith
less-after Failed from to room counted some inside = omega arith

pub left-falls : (r next : Reading) (room after : List ℕ) → 0 < room_left r room → length after ≡ length room → ReadBehind r.at room next after
    → room_left next after < room_left r room
left-falls r next room after some same onward =
    omega (
      arith,
      left-whole r.last (length room - r.at) some,
      less-after next.last r.at next.at (length after) onward.counted onward.some (omega (arith, left-inside r room some)),
    )

-- Reads that brought bytes or have not begun, and one more read into what is left of the room.
module _ {E : Type 0} {start room after : List ℕ} {at last : ℕ} (reads : InputReads start (record { at = at; last = Got last }) room)
    (inside : at < length room) (got : Result ℕ E) (behind : ReadBehind at room (after_read at got) after) where
  read-more : {given : Result ℕ E} → got ≡ given → InputReads start (after_read at given) after
  read-more is = subst (λ (g : Result ℕ E). InputReads start (after_read at g) after) is (once_more reads (omega arith) behind)

  within : {given : Result ℕ E} → got ≡ given → at + bytes_of (step_of given) ≤ length after
  within is = subst (λ (g : Result ℕ E). at + bytes_of (step_of g) ≤ length after) is behind.within

  -- Where it fails, reading came to a read that failed,
  pub failed-to : {has_failed : Type 0} {e : E} → got ≡ Err e → OnErr got has_failed → FailedRead has_failed start after
  failed-to {has_failed} {e} is failed =
      record {
        reading = after_read at (Err e);
        reads = read-more is;
        finished = record { within = within is; over = refl };
        failed = refl;
        source_failed = subst (λ (g : Result ℕ E). OnErr g has_failed) is failed;
      }

  -- where it brings nothing, to the end of the input,
  pub ended-at : {n : ℕ} → got ≡ Ok n → n ≡ 0 → AllRead start after at
  ended-at is none =
      let ended = is ∙ ap Ok none in
      record {
        last = Ended;
        reads = subst (λ (to : ℕ). InputReads start (record { at = to; last = Ended }) after) (add-zero at) (read-more ended);
        finished = record { within = omega (arith, within ended); over = refl };
        sound = tt;
      }

  -- and else so far.
  pub come-to : {n : ℕ} → got ≡ Ok n → (n ≡ 0 → ⊥)
      → (at + n ≤ length after) × ((k : ℕ) × InputReads start (record { at = at + n; last = Got k }) after)
  come-to {n = zero} is some = absurd (some refl)
  come-to {n = suc n} is some = (within is, (suc n, read-more is))

-- What it brings stands behind what was brought before, and is what the reader lost.
pub brought-more : (a b c : Option (List ℕ)) (at n : ℕ) (before after : List ℕ) → Consumes a b (take at before)
    → take at after ≡ take at before → Consumes b c (take n (drop at after)) → Consumes a c (take (at + n) after)
brought-more a b c at n before after brought kept got =
    subst (Consumes a c) (ap (λ (front : List ℕ). front ++ take n (drop at after)) (sym kept) ∙ sym (take-add at n after))
    (Consumes-trans a b c _ _ brought got)
