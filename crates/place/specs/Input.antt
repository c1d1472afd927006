-- Reading the input: what an answer of a read means, and what reading leaves in the room. The contract of the trait Read says that a read
-- gives an error or how many bytes it brought, no more than there is room for. None are the end of the input.
-- Assumes nothing.
use Rattle.std.specs.Prelude.{List, ◌≡◌, ℕ, zero, suc, ◌+◌, ◌-◌, ◌<◌, ◌≤◌, Result, Ok, Err, length, take}

-- What one read did: it brought so many bytes, or found the end of the input, or failed.
pub data Step : Type 0 where
  Got : ℕ → Step
  Ended : Step
  Failed : Step

-- How far reading came: how many bytes stand in the room, and what the last read did. Before the first read that is `Got 0`.
pub record Reading : Type 0 where
  pub at : ℕ
  pub last : Step

-- With an error the read failed, with no bytes the input has ended, and any other answer is that many bytes.
abbrev pub step_of : {E : Type 0} → Result ℕ E → Step
step_of (Err e) = Failed
step_of (Ok zero) = Ended
step_of (Ok (suc n)) = Got (suc n)

-- What is left after a step: nothing where the input ended or a read failed.
abbrev pub left_after : Step → ℕ → ℕ
left_after (Got n) left = left
left_after Ended left = 0
left_after Failed left = 0

-- How many bytes the next read may bring.
abbrev pub room_left : Reading → List ℕ → ℕ
room_left r room = left_after r.last (length room - r.at)

-- How many bytes a step brought.
abbrev pub bytes_of : Step → ℕ
bytes_of (Got n) = n
bytes_of Ended = 0
bytes_of Failed = 0

-- A step that got something got a byte or more.
abbrev pub GotSome : Step → Type 0
GotSome (Got n) = 0 < n
GotSome Ended = Unit {0}
GotSome Failed = Unit {0}

-- How far reading came after a read from `from` on.
abbrev pub after_read : {E : Type 0} → (from : ℕ) → Result ℕ E → Reading
after_read from got = record { at = from + bytes_of (step_of got); last = step_of got }

-- One read from `from` on: its bytes are counted and lie within the room, those before them stay, and there is one or more, or none
-- will come.
pub record ReadBehind (from : ℕ) (before : List ℕ) (r : Reading) (room : List ℕ) : Type 0 where
  pub counted : r.at ≡ from + bytes_of r.last
  pub within : r.at ≤ length room
  pub kept : take from room ≡ take from before
  pub some : GotSome r.last

-- Reads one after another, into a room that is empty at the start: while bytes may come, one read more, which puts its bytes behind those
-- before it and leaves these as they were.
pub data InputReads (start : List ℕ) : Reading → List ℕ → Type 0 where
  none_yet : InputReads start (record { at = 0; last = Got 0 }) start
  once_more : {r next : Reading} {room after : List ℕ} → InputReads start r room → 0 < room_left r room → ReadBehind r.at room next after
      → InputReads start next after

-- Reading is over: the bytes lie within the room, and the room is full, or the input ended, or a read failed.
pub record Finished (r : Reading) (room : List ℕ) : Type 0 where
  pub within : r.at ≤ length room
  pub over : room_left r room ≡ 0

-- The step is no failure.
abbrev pub Sound : Step → Type 0
Sound (Got n) = Unit {0}
Sound Ended = Unit {0}
Sound Failed = ⊥

-- Reading came to its end with so many bytes, and no read failed.
pub record AllRead (start room : List ℕ) (n : ℕ) : Type 0 where
  pub last : Step
  pub reads : InputReads start (record { at = n; last = last }) room
  pub finished : Finished (record { at = n; last = last }) room
  pub sound : Sound last

-- Reading came to a read that failed; and it was so that the source's last read failed, as `has_failed` says.
pub record FailedRead (has_failed : Type 0) (start room : List ℕ) : Type 0 where
  pub reading : Reading
  pub reads : InputReads start reading room
  pub finished : Finished reading room
  pub failed : reading.last ≡ Failed
  pub source_failed : has_failed

-- What came of reading, by the room before and afterwards: so many bytes, or an error, which only a source gives whose last read failed.
abbrev pub ReadTo : {E : Type 0} → (has_failed : Type 0) → (start : List ℕ) → Result ℕ E → (room : List ℕ) → Type 0
ReadTo has_failed start (Ok n) room = AllRead start room n
ReadTo has_failed start (Err e) room = FailedRead has_failed start room
