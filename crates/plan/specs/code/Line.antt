-- Where a line and its fields end, as places in a text, and what becomes of them.
-- Assumes nothing.
use Rattle.std.specs.Prelude.{◌≡◌, true, List, ◌≢◌, ℕ, ◌+◌, ◌-◌, ◌≤◌, ◌<◌, length, get_or, take, drop, Option, Some, None, Ok, Err}
use Rattle.std.specs.Prelude as rattle
use Rattle.plan.specs.declared.refusal.Refusal.{Refusal}
use Rattle.plan.specs.declared.plan.Plan.{Plan}
use Rattle.plan.specs.declared.plan.SiteRead.{SiteRead}
use Rattle.plan.specs.rules.Refusal.{Result, accepted, refused, after_tests}
use Rattle.plan.specs.rules.List.{Site, entered, with_site, most_line_bytes, wanted_in, TextLine, FirstLine, fields_tests, line_entered}
use Rattle.plan.specs.calls.Plan.{unplaced_plan, sites_in}
use Rattle.plan.specs.code.Entering.{SiteFits, wanted_read}

-- No byte b in a text from a place on up to another.
pub record NoByte (b : ℕ) (text : List ℕ) (at end : ℕ) : Type 0 where
  pub after : at ≤ end
  pub within : end ≤ length text
  pub passed : (i : ℕ) → at ≤ i → i < end → get_or text i 0 ≢ b

-- The bytes of a text from a place on up to another.
abbrev pub between : List ℕ → ℕ → ℕ → List ℕ
between text at end = take (end - at) (drop at text)

-- The line that starts at a place and ends before another.
abbrev pub line_at : List ℕ → ℕ → ℕ → TextLine
line_at text at end = record { bytes = between text at end; ended = true; rest = drop (end + 1) text }

-- That is the first line from its start on, and no longer than a line may be.
pub record LineAt (text : List ℕ) (at end : ℕ) : Type 0 where
  pub first : FirstLine (drop at text) (line_at text at end)
  pub short : length (between text at end) ≤ most_line_bytes
  pub after : at ≤ end
  pub inside : end < length text

-- The end of the line that starts at a place. It is missing where the first line from there on, if any, is not ended or is longer.
abbrev pub LineEnds : List ℕ → ℕ → Option ℕ → Type 0
LineEnds text at (Some end) = LineAt text at end
LineEnds text at None = (line : TextLine) → FirstLine (drop at text) line → line.ended ≡ true → most_line_bytes < length line.bytes

-- The sites after entering the fields of a line.
abbrev pub entered_fields : List Site → List (List ℕ) → Result (List Site)
entered_fields sites fields = after_tests (fields_tests sites fields) (with_site sites (wanted_in fields))

-- What is read of fields: entering it comes to what entering them does.
pub record FieldsRead (fields : List (List ℕ)) (read : SiteRead) : Type 0 where
  pub fits : SiteFits read
  pub enters : (sites : List Site) → entered_fields sites fields ≡ entered sites (wanted_read read)

-- What is read of a line with these fields, where there are three.
abbrev pub LineReads : List (List ℕ) → Option SiteRead → Type 0
LineReads fields (Some read) = FieldsRead fields read
LineReads fields None = length fields ≢ 3

-- What comes of entering the line that starts at a place: its refusal, with the plan as it came, or its end, with its site in the plan.
pub data LineEntered (text : List ℕ) (at : ℕ) (plan : Plan) : rattle.Result ℕ Refusal → Plan → Type 0 where
  line_refused : {line : TextLine} {why : Refusal} → FirstLine (drop at text) line → line_entered (sites_in plan) line ≡ refused why
      → LineEntered text at plan (Err why) plan
  line_accepted : {end : ℕ} {next : List Site} → LineAt text at end → line_entered (sites_in plan) (line_at text at end) ≡ accepted next
      → LineEntered text at plan (Ok end) (unplaced_plan next)
