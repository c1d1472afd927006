-- Reading a list as a function: the first line of a text, and line after line. `theorems/Reading` has that it meets the rule.
-- Assumes nothing.
use Rattle.std.specs.Prelude.{true, false, List, [], ◌∷◌, ℕ, zero, suc, eqb, length}
use Rattle.plan.specs.rules.Refusal.{Result, accepted, refused}
use Rattle.plan.specs.rules.Text.{line_feed}
use Rattle.plan.specs.rules.List.{Site, TextLine, line_entered}

-- A line that starts with one byte more.
abbrev pub with_byte : ℕ → TextLine → TextLine
with_byte b line = record { bytes = b ∷ line.bytes; ended = line.ended; rest = line.rest }

-- The first line of a text.
unfoldable pub cut_line : List ℕ → TextLine
cut_line [] = record { bytes = []; ended = false; rest = [] }
cut_line (b ∷ text) =
    elim (eqb b line_feed) [ true ↦ record { bytes = []; ended = true; rest = text } | false ↦ with_byte b (cut_line text) ]

-- What follows a line: nothing where it is refused.
abbrev pub read_on : (List Site → List ℕ → Result (List Site)) → TextLine → Result (List Site) → Result (List Site)
read_on follow line (accepted next) = follow next line.rest
read_on follow line (refused why) = refused why

-- The end of a text, or its first line and what follows.
abbrev pub read_next : (List Site → List ℕ → Result (List Site)) → List Site → List ℕ → Result (List Site)
read_next follow sites [] = accepted sites
read_next follow sites (b ∷ text) = read_on follow (cut_line (b ∷ text)) (line_entered sites (cut_line (b ∷ text)))

-- Reading at most k lines.
unfoldable pub read_within : ℕ → List Site → List ℕ → Result (List Site)
read_within zero sites text = accepted sites
read_within (suc k) sites text = read_next (read_within k) sites text

-- A text has at most as many lines as bytes.
unfoldable pub read_list : List ℕ → Result (List Site)
read_list text = read_within (length text) [] text
