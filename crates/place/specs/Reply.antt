-- What the program answers with: the output for its whole input, or nothing where a read failed.
-- Assumes nothing.
use Rattle.std.specs.Prelude.{◌≡◌, List, [], ◌∷◌, ℕ, ◌≤◌, Option, None, Some, Result, Ok, Err, length, take}
use Rattle.placing.specs.declared.units.Side.{Side}
use Rattle.placing.specs.declared.way.Way.{Way}
use Rattle.plan.specs.rules.List.{longest_text}
use Rattle.plan.specs.deciding.Output.{output_of, output_at}
use Rattle.plan.specs.Demands.{ListRefused, RefusedAt, Answered, AnsweredAt}
use Rattle.place.specs.declared.answer.Answer.{Answer}
use Rattle.place.specs.Input.{AllRead, FailedRead}

-- The output for a text, by the way and at the side asked for, and what the demands say of it.
abbrev pub output_by : Way → Option Side → List ℕ → List ℕ
output_by way None text = output_of way text
output_by way (Some side) text = output_at way side text

abbrev pub AnsweredBy : Way → Option Side → (text output : List ℕ) → Type 0
AnsweredBy way None text output = Answered way text output
AnsweredBy way (Some side) text output = AnsweredAt way side text output

-- The first n bytes of the buffer are the output for every input of which the bytes read are the first 5,061: "these already decide
-- every longer text". It meets the demands.
pub record OutputFor (way : Way) (at : Option Side) (read : List ℕ) (n : ℕ) (buffer : List ℕ) : Type 0 where
  pub within : n ≤ length buffer
  pub output : (input : List ℕ) → take longest_text input ≡ read → take n buffer ≡ output_by way at input
  pub answered : (input : List ℕ) → take longest_text input ≡ read → AnsweredBy way at input (take n buffer)

-- The room came with the bytes `start`. The input was read into it, by reads one after another, until reading was over; "at most 5,061
-- bytes". No read failed, and the buffer has the output for what was read.
pub record Whole (way : Way) (at : Option Side) (start room : List ℕ) (answer : Answer) (buffer : List ℕ) : Type 0 where
  pub all_read : AllRead start room answer.read
  pub size : length room ≡ longest_text
  pub is_output_for : OutputFor way at (take answer.read room) answer.written buffer

-- The last read failed.
pub record CutShort (has_failed : Type 0) (start room : List ℕ) : Type 0 where
  pub failed_read : FailedRead has_failed start room
  pub size : length room ≡ longest_text

-- The answer, by whether the source's last read failed, the room before and afterwards and the buffer afterwards.
abbrev pub Replied : {E : Type 0} → (has_failed : Type 0) → Way → Option Side → (start room : List ℕ) → Result Answer E → List ℕ → Type 0
Replied has_failed way at start room (Ok answer) buffer = Whole way at start room answer buffer
Replied has_failed way at start room (Err e) buffer = CutShort has_failed start room

-- The list is refused, with some number.
abbrev pub IsRefused : Way → Option Side → List ℕ → Type 0
IsRefused way None text = (number : ℕ) × ListRefused text number
IsRefused way (Some side) text = (number : ℕ) × RefusedAt way side text number

-- What can be written for a list: where it starts with the letter r, of the word refused, the list is refused.
abbrev pub Writable : Way → Option Side → (list output : List ℕ) → Type 0
Writable way at list output = take 1 output ≡ 114 ∷ [] → IsRefused way at list
