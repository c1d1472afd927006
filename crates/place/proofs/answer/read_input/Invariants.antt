-- Each turn is one read more, which brings a byte or more.
use Rattle.std.proofs.Common.{◌≤◌, ◌-◌, ℕ, length, take}
use Rattle.std.specs.Io.KnownBytes.{Consumes}
use Rattle.place.specs.Input.{InputReads, Got}
use Rattle.place.proofs.answer.read_input.Given as goal

-- The bytes lie within the room, and reads that brought them left what the reader has.
abbrev pub invariant-loop-at : goal.invariant-loop-at
invariant-loop-at g l =
    record {
      within : l.at ≤ length l.text;
      reads : (n : ℕ) × InputReads l.fn.text (record { at = l.at; last = Got n }) l.text;
      bytes : Consumes (g.S.Read.remaining l.fn.input) (g.S.Read.remaining l.input) (take l.at l.text);
    }

abbrev pub decreases-loop-at : goal.decreases-loop-at
decreases-loop-at g l = length l.text - l.at
