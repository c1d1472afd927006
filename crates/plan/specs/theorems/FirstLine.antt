-- The first refused line: whoever finds a line that is refused behind accepted lines finds the same one, with the same number; a text
-- that is accepted has none; and reading stops there.
-- Assumes nothing.
use Rattle.std.specs.Prelude.{◌≡◌, refl, true, List, [], ◌∷◌, ◌++◌, ℕ, suc, ◌<◌, length, Some, None}
use Rattle.std.proofs.Common.{sym, ap, ◌∙◌, append_assoc, append-nil, arith, length-append, length-drop}
use Rattle.std.proofs.Math.Option.{Option, some, none}
use Rattle.std.proofs.Math.Seq.{append_snoc}
use Rattle.plan.specs.declared.list.RefusedLine.{RefusedLine}
use Rattle.plan.specs.declared.refusal.Refusal.{Refusal}
use Rattle.plan.specs.rules.Refusal.{number_of, first_refusal, refusal_number, Result, accepted, refused, unless}
use Rattle.plan.specs.rules.Text.{line_feed}
use Rattle.plan.specs.rules.List.{Site, ByRules, Listed, list_line, list_text, line_tests, line_entered}
use Rattle.plan.specs.rules.List.{TextLine, FirstLine, with_feed, Reads, end, refused_line, accepted_line}
use Rattle.plan.specs.deciding.Reading.{cut_line, read_list}
use Rattle.plan.specs.Demands.{FirstRefused, StopsAt, StopTold, at_a_line, at_no_line, Accepts, ListRefused, at_line, of_no_sites}
use Rattle.plan.specs.theorems.Tables.{refused-not-accepted}
use Rattle.plan.specs.theorems.Sites.{listed-site}
use Rattle.plan.specs.theorems.Entering.{listed-passed}
use Rattle.plan.specs.theorems.Reading.{first-line-cut, rest-shorter, reads-list, reads-are, lines-read, read-listed, line-without, line-passes}

-- ---- its number

-- It is refused, with that number.
pub refused_why : {text : List ℕ} {n : ℕ} (f : FirstRefused text n)
    → (why : Refusal) × (line_entered f.before f.line ≡ refused why) × (n ≡ number_of why)
refused_why {n = n} f = by_first (first_refusal (line_tests f.before f.line)) _ f.number_is
  where
    by_first : (first : Option Refusal) (value : List Site) → n ≡ refusal_number first
        → (why : Refusal) × (unless first value ≡ refused why) × (n ≡ number_of why)
    by_first none value is = absurd (omega (arith, f.some_number))
    by_first (some why) value is = (why, refl, is)

-- The lines before it are by the rules.
pub before-listed : {text : List ℕ} {n : ℕ} (f : FirstRefused text n) → Listed f.before
before-listed f = read-listed _ f.before (reads-are f.accepted_before)

-- So the text is refused for that.
refused-read : {text : List ℕ} {n : ℕ} (f : FirstRefused text n) → read_list text ≡ refused (refused_why f).0
refused-read f =
    ap read_list f.parts ∙ reads-are (lines-read [] f.before (before-listed f) (refused_line f.line_is (refused_why f).1))

-- A text that is accepted has none.
pub refused-not-read : {text : List ℕ} {n : ℕ} {sites : List Site} → FirstRefused text n → read_list text ≡ accepted sites → ⊥
refused-not-read f read = refused-not-accepted (sym (refused-read f) ∙ read)

-- What is refused is not accepted.
pub refused-list-not-accepted : {text : List ℕ} {n : ℕ} {sites : List Site} → ListRefused text n → Accepts text sites → ⊥
refused-list-not-accepted (at_line first) accepts = refused-not-read first (reads-are accepts.read)
refused-list-not-accepted {sites = sites} (of_no_sites empty) accepts =
    let none : accepted [] ≡ accepted sites = sym (reads-are (rw empty end)) ∙ reads-are accepts.read in
    let same : [] ≡ sites = cc in
    omega (arith, accepts.some_sites, ap length same)

-- ---- its place

-- How many lines are accepted.
line_count : {sites : List Site} {text : List ℕ} {result : Result (List Site)} → Reads sites text result → ℕ
line_count end = 0
line_count (refused_line first is) = 0
line_count (accepted_line first is further) = suc (line_count further)

-- What is left of the text behind them.
rest_behind : {sites : List Site} {text : List ℕ} {result : Result (List Site)} → Reads sites text result → List ℕ
rest_behind end = []
rest_behind {text} (refused_line first is) = text
rest_behind (accepted_line first is further) = rest_behind further

-- The first line of a text that starts with the line of a site is that line.
site-first : {text : List ℕ} {line : TextLine} {site : Site} {rest : List ℕ} → ByRules site → FirstLine text line
    → text ≡ list_line site ++ (line_feed ∷ rest) → line ≡ record { bytes = list_line site; ended = true; rest = rest }
site-first {site = site} rules first parts =
    sym (first-line-cut first) ∙ ap cut_line parts ∙ first-line-cut (with_feed (line-without site rules))

-- A line is not both accepted and refused.
apart : (sites : List Site) {next : List Site} {one other : TextLine} {why : Refusal} → one ≡ other → line_entered sites one ≡ accepted next
    → line_entered sites other ≡ refused why → ⊥
apart sites same passes refuses = refused-not-accepted (sym refuses ∙ sym (ap (line_entered sites) same) ∙ passes)

-- They are as many as stand before a line that is refused, where those before it are by the rules, and that line starts what is left.
accepted_before : {sites : List Site} {text : List ℕ} {result : Result (List Site)} (reads : Reads sites text result) (added : List Site)
    {rest : List ℕ} {line : TextLine} {why : Refusal} → text ≡ list_text added ++ rest → Listed (sites ++ added) → FirstLine rest line
    → line_entered (sites ++ added) line ≡ refused why → (length added ≡ line_count reads) × (rest ≡ rest_behind reads)
unfolding line_count rest_behind list_text
accepted_before end added {rest} parts listed stop refuses =
    absurd (omega (arith, rest-shorter stop, ap length parts, length-append (list_text added) rest))
accepted_before (refused_line first is) [] parts listed stop refuses = (refl, sym parts)
accepted_before {sites} (refused_line first is) (site ∷ added) {rest} parts listed stop refuses =
    let rules = listed-site sites site added listed in
    let same = site-first rules first (parts ∙ append_assoc (list_line site) (line_feed ∷ list_text added) rest) in
    absurd (apart sites (sym same) (line-passes site rules (list_text added ++ rest) (listed-passed sites site added listed)) is)
accepted_before {sites} (accepted_line first is further) [] parts listed stop refuses =
    let same = sym (first-line-cut first) ∙ ap cut_line parts ∙ first-line-cut stop in
    absurd (apart sites same is (rw append-nil at refuses))
accepted_before {sites} (accepted_line {next} first is further) (site ∷ added) {rest} {line} {why} parts listed stop refuses =
    let rules = listed-site sites site added listed in
    let same = site-first rules first (parts ∙ append_assoc (list_line site) (line_feed ∷ list_text added) rest) in
    let passes = line-passes site rules (list_text added ++ rest) (listed-passed sites site added listed) in
    let both : accepted next ≡ accepted (sites ++ (site ∷ [])) = sym is ∙ ap (line_entered sites) same ∙ passes in
    let this : next ≡ sites ++ (site ∷ []) = cc in
    let sites-are : next ++ added ≡ sites ++ (site ∷ added) = ap (λ (s : List Site). s ++ added) this ∙ append_snoc sites site added in
    let behind =
    accepted_before further added {rest = rest} {line = line} {why = why} (ap (λ (l : TextLine). l.rest) same) (rw sites-are listed) stop
    (rw sites-are refuses)
    in
    (ap suc behind.0, behind.1)

-- So no text has two first refused lines, nor one with two numbers, nor one that starts at two places.
pub first-refused-one : {text : List ℕ} {n m : ℕ} (f : FirstRefused text n) (g : FirstRefused text m)
    → (f.line_number ≡ g.line_number) × (n ≡ m) × (f.rest ≡ g.rest)
first-refused-one {text} f g =
    let why-f = refused_why f in
    let why-g = refused_why g in
    let both : refused why-f.0 ≡ refused why-g.0 = sym (refused-read f) ∙ refused-read g in
    let same : why-f.0 ≡ why-g.0 = cc in
    let place-f = accepted_before (reads-list text) f.before f.parts (before-listed f) f.line_is why-f.1 in
    let place-g = accepted_before (reads-list text) g.before g.parts (before-listed g) g.line_is why-g.1 in (
      omega (arith, f.line_number_is, g.line_number_is, place-f.0, place-g.0),
      why-f.2 ∙ ap number_of same ∙ sym why-g.2,
      place-f.1 ∙ sym place-g.1,
    )

-- They are one line, byte for byte.
pub first-refused-line : {text : List ℕ} {n m : ℕ} (f : FirstRefused text n) (g : FirstRefused text m) → f.line ≡ g.line
first-refused-line f g = sym (first-line-cut f.line_is) ∙ ap cut_line (first-refused-one f g).2 ∙ first-line-cut g.line_is

-- ---- where reading stops

-- It stops at a byte of the text.
pub stop-inside : {text : List ℕ} {stop : RefusedLine} → StopsAt text stop → stop.at < length text
stop-inside {text} {stop} stops =
    let some_byte = rest-shorter stops.first.line_is in
    omega (arith, some_byte, ap length stops.starts, length-drop stop.at text)

-- The line is told in one way: its number, its refusal's and where it starts.
pub stop-one : {text : List ℕ} {one other : RefusedLine} → StopTold text (Some one) → StopTold text (Some other)
    → (one.number ≡ other.number) × (number_of one.why ≡ number_of other.why) × (one.at ≡ other.at)
stop-one {text} {one} {other} (at_a_line first) (at_a_line second) =
    let (line_same, number_same, rest-same) = first-refused-one first.first second.first in
    let onward = ap length (first.starts ∙ rest-same ∙ sym second.starts) in (
      first.number_is ∙ line_same ∙ sym second.number_is,
      number_same,
      omega (arith, onward, length-drop one.at text, length-drop other.at text, stop-inside first, stop-inside second),
    )

-- Where it stops at a line, not every line is accepted.
pub stop-or-nowhere : {text : List ℕ} {stop : RefusedLine} → StopTold text (Some stop) → StopTold text None → ⊥
stop-or-nowhere (at_a_line stops) (at_no_line reads) = refused-not-read stops.first (reads-are reads)
