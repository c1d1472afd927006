-- The output for the bytes read is the output for the whole input, and the program's answer can be written.
-- Assumes nothing.
use Rattle.std.specs.Prelude.{◌≡◌, refl, List, [], ◌∷◌, ◌++◌, ◌⊎◌, ℕ, ◌+◌, ◌<◌, ◌≤◌, Option, None, Some, IfSome, Err, length, get_or, take, drop}
use Rattle.std.specs.Io.KnownBytes.{Consumes, IsAtEnd}
use Rattle.std.proofs.Common.{sym, ap, ◌∙◌, subst, inl, inr, arith, length-take, take_all, take_at, append-nil}
use Rattle.std.proofs.Math.Decide.{dec_lt}
use Rattle.placing.specs.declared.units.Side.{Side}
use Rattle.placing.specs.declared.way.Way.{Way}
use Rattle.plan.specs.rules.List.{longest_text}
use Rattle.plan.specs.rules.Sheet.{sheet_with}
use Rattle.plan.specs.rules.Calls.{filled_with}
use Rattle.plan.specs.Demands.{ListRefused, RefusedAt, Answered, is_refusal_line, list_sheet, AnsweredAt, refusal_at, is_sheet_at}
use Rattle.plan.specs.theorems.Longer.{output-first, output-first-at}
use Rattle.plan.specs.theorems.Output.{output_within}
use Rattle.plan.proofs.Guaranteed.{output-answered, output-answered-at}
use Rattle.place.specs.declared.answer.Answer.{Answer}
use Rattle.place.specs.Input.{Reading, Step, Failed, room_left, bytes_of, InputReads, none_yet, once_more, Finished, Sound}
use Rattle.place.specs.Reply.{output_by, AnsweredBy, OutputFor, Whole, Replied, IsRefused, Writable}

-- What `output` leaves for the bytes read is the output for every input that starts with them.
pub is_output_for : {n : ℕ} {after : List ℕ} (way : Way) (at : Option Side) (read buffer : List ℕ) → n ≡ length (output_by way at read)
    → after ≡ filled_with (output_by way at read) buffer → OutputFor way at read n after
is_output_for {n} {after} way at read buffer size is =
    record {
      within = output_within (output_by way at read) buffer size is;
      output = whole;
      answered = λ input first. subst (AnsweredBy way at input) (sym (whole input first)) (by-answered at input);
    }
  where
    by_first : (a : Option Side) (input : List ℕ) → take longest_text input ≡ read → output_by way a read ≡ output_by way a input
    by_first None input first = output-first way input read first
    by_first (Some side) input first = output-first-at way side input read first

    by-answered : (a : Option Side) (input : List ℕ) → AnsweredBy way a input (output_by way a input)
    by-answered None input = output-answered way input
    by-answered (Some side) input = output-answered-at way side input

    whole : (input : List ℕ) → take longest_text input ≡ read → take n after ≡ output_by way at input
    whole input first =
        ap (take n) is ∙ take_at (output_by way at read) (drop (length (output_by way at read)) buffer) n (sym size) ∙ by_first at input first

-- The bytes read are the first of the input, which ends behind them where there is room for more.
front-decides : (most n : ℕ) (room rest : List ℕ) → n ≤ length room → length room ≡ most → (n < length room → rest ≡ [])
    → take most (take n room ++ rest) ≡ take n room
front-decides most n room rest within full ends = by (dec_lt n (length room))
  where
    by : Dec (n < length room) → take most (take n room ++ rest) ≡ take n room
    by (yes short) =
        ap (λ (behind : List ℕ). take most (take n room ++ behind)) (ends short)
        ∙ ap (take most) (append-nil (take n room))
        ∙ take_all most (take n room) (omega (arith, length-take n room))
    by (no filled) = take_at (take n room) rest most (omega (arith, length-take n room))

-- What starts with the letter s does not start with r.
first_differs : (output rest : List ℕ) → take 1 output ≡ 114 ∷ [] → output ≡ 115 ∷ rest → ⊥
first_differs output rest letter is =
    absurd (omega (arith, ap (λ (bytes : List ℕ). get_or bytes 0 0) (sym letter ∙ ap (take 1) is)))

-- A sheet starts with the letter s, of the word side; so what starts with another is the line of a refusal.
letter-refuses : (way : Way) (at : Option Side) (text output : List ℕ) → AnsweredBy way at text output → Writable way at text output
unfolding sheet_with
letter-refuses way None text output (is_refusal_line {number} refused line) letter = (number, refused)
letter-refuses way None text output (list_sheet for) letter = absurd (first_differs output _ letter for.right.prints)
letter-refuses way (Some side) text output (refusal_at {number} refused line) letter = (number, refused)
letter-refuses way (Some side) text output (is_sheet_at for) letter = absurd (first_differs output _ letter for.placed.prints)

module _ {way : Way} {at : Option Side} {start room : List ℕ} {answer : Answer} {buffer : List ℕ}
    (replied : Whole way at start room answer buffer) where
  -- What `Replied` says of an answer. The bytes read lie within the room, and the output within the buffer.
  pub replied-within : (answer.read ≤ length room) × (answer.written ≤ length buffer)
  replied-within = (replied.all_read.finished.within, replied.is_output_for.within)

  -- They are no more than 5,061 bytes.
  read-first : take longest_text (take answer.read room) ≡ take answer.read room
  read-first =
      take_all longest_text (take answer.read room) (omega (arith, length-take answer.read room, replied.size))

  -- What was answered for the bytes read can be written.
  pub replied-writable : Writable way at (take answer.read room) (take answer.written buffer)
  replied-writable = letter-refuses way at _ _ (replied.is_output_for.answered (take answer.read room) read-first)

  -- ---- what a reply says

  module _ (input : List ℕ) (first : take longest_text input ≡ take answer.read room) where
    -- For every input that starts with the bytes read it is the output, by the way and at the side asked for,
    pub replied-output : take answer.written buffer ≡ output_by way at input
    replied-output = replied.is_output_for.output input first

    -- which meets the demands: at the side found,
    pub replied-found : at ≡ None → Answered way input (take answer.written buffer)
    replied-found is = rw is at (replied.is_output_for.answered input first)

    -- and at a given side.
    pub replied-given : {side : Side} → at ≡ Some side → AnsweredAt way side input (take answer.written buffer)
    replied-given is = rw is at (replied.is_output_for.answered input first)

  -- Reads brought it, one after another, until reading was over, and none failed.
  pub replied-read : (last : Step)
      × (InputReads start (record { at = answer.read; last = last }) room
      × (Finished (record { at = answer.read; last = last }) room × Sound last))
  replied-read = (replied.all_read.last, (replied.all_read.reads, (replied.all_read.finished, replied.all_read.sound)))

  -- Of an input whose bytes are known it is the output.
  pub replied-known : (known left : Option (List ℕ)) → Consumes known left (take answer.read room)
      → (answer.read < length room → IsAtEnd left) → IfSome known (λ input. take answer.written buffer ≡ output_by way at input)
  replied-known None left brought ends = tt
  replied-known (Some input) None brought ends = absurd brought
  replied-known (Some input) (Some rest) brought ends =
      replied-output input
      (ap (take longest_text) brought
      ∙ front-decides longest_text answer.read room rest replied.all_read.finished.within replied.size ends)

-- Where there is no output, reading came to a read that failed, the last of the source.
pub replied-unread : {E has_failed : Type 0} (way : Way) (at : Option Side) {start room : List ℕ} (e : E) (buffer : List ℕ)
    → Replied has_failed way at start room (Err e) buffer
    → has_failed × ((reading : Reading) × (InputReads start reading room × (reading.last ≡ Failed)))
replied-unread way at e buffer replied =
    let failed = replied.failed_read in
    (failed.source_failed, (failed.reading, (failed.reads, failed.failed)))

-- Reading before its last read: bytes might still come, those that had come stay, and those of the last read are counted.
pub record BeforeLast (start : List ℕ) (reading : Reading) (room : List ℕ) : Type 0 where
  pub before : Reading
  pub room_before : List ℕ
  pub reads : InputReads start before room_before
  pub some_left : 0 < room_left before room_before
  pub stays : take before.at room ≡ take before.at room_before
  pub counted : reading.at ≡ before.at + bytes_of reading.last

-- Every reading is at its start, or has a last read.
pub last-read : {start room : List ℕ} {reading : Reading} → InputReads start reading room
    → ((room ≡ start) × (reading.at ≡ 0)) ⊎ BeforeLast start reading room
last-read none_yet = inl (refl, refl)
last-read (once_more {r = r} {room = before} reads left behind) =
    inr (record {
      before = r;
      room_before = before;
      reads = reads;
      some_left = left;
      stays = behind.kept;
      counted = behind.counted;
    })

-- What is explained is a refused list: without a side it is refused, and at a side there.
pub explained-refused : {way : Way} (at : Option Side) {text : List ℕ} → IsRefused way at text
    → ((at ≡ None → (number : ℕ) × ListRefused text number)
    × ((side : Side) → at ≡ Some side → (number : ℕ) × RefusedAt way side text number))
explained-refused {way} at {text} refused = (
  λ is. subst (λ (a : Option Side). IsRefused way a text) is refused,
  λ side is. subst (λ (a : Option Side). IsRefused way a text) is refused,
)
