-- Document 01: a list has at most 240 lines of at most 21 bytes each, with its line feed. So a longer text is refused, and its
-- first 5,061 bytes decide why: 240 lines and one more.
-- Assumes nothing.
use Rattle.std.specs.Prelude.{◌≡◌, refl, true, List, [], ◌∷◌, ◌++◌, ℕ, zero, suc, ◌+◌, ◌-◌, ◌*◌, ◌≤◌, ◌<◌, length, take}
use Rattle.std.proofs.Common.{sym, ap, ◌∙◌, arith, lt-ltb, length-append, take_all}
use Rattle.std.proofs.Math.Decide.{dec_le, dec_lt}
use Rattle.std.proofs.Math.Seq.{append_snoc, take-append-add}
use Rattle.std.proofs.lemmas.List.{take-append-le}
use Rattle.placing.specs.rules.Units.{most_sites}
use Rattle.placing.specs.declared.units.Side.{Side}
use Rattle.placing.specs.declared.way.Way.{Way}
use Rattle.plan.specs.declared.refusal.Refusal.{Refusal}
use Rattle.plan.specs.declared.refusal.Refusal.TheVariants.{BadLine}
use Rattle.plan.specs.rules.Refusal.{Result, refused}
use Rattle.plan.specs.rules.Text.{line_feed, Without}
use Rattle.plan.specs.rules.List.{Site, Listed, list_line, list_text, most_line_bytes, longest_text, line_entered}
use Rattle.plan.specs.rules.List.{TextLine, FirstLine, with_feed, without_feed, Reads, end, refused_line, accepted_line}
use Rattle.plan.specs.rules.Calls.{to_place, to_place_at}
use Rattle.plan.specs.deciding.Output.{sheet_of, sheet_at, output_for, output_of, exists_at, output_at}
use Rattle.plan.specs.deciding.Reading.{read_list}
use Rattle.plan.specs.Demands.{FirstRefused}
use Rattle.plan.specs.theorems.Tables.{refused-not-accepted}
use Rattle.plan.specs.theorems.Sites.{listed-site}
use Rattle.plan.specs.theorems.Reading.{line-short, entered-line, reads-list, reads-are, first-refused}
use Rattle.plan.specs.theorems.FirstLine.{refused_why, before-listed, first-refused-one}

-- Bytes without a line feed: their first m are refused for want of it.
without-take : (m : ℕ) (bytes : List ℕ) → Without line_feed bytes → Without line_feed (take m bytes)
without-take zero bytes without = tt
without-take (suc m) [] without = tt
without-take (suc m) (b ∷ bytes) without = (without.0, without-take m bytes without.1)

-- A text whose first line is refused.
abbrev Stops : List Site → List ℕ → Refusal → Type 0
Stops sites text why = (line : TextLine) × FirstLine text line × (line_entered sites line ≡ refused why)

unended-refused : (m : ℕ) (sites : List Site) (bytes : List ℕ) → Without line_feed bytes → 1 ≤ m → 1 ≤ length bytes
    → Stops sites (take m bytes) BadLine
unended-refused zero sites bytes without some-taken some_byte = absurd (omega arith)
unended-refused (suc m) sites [] without some-taken some_byte = absurd (omega arith)
unended-refused (suc m) sites (b ∷ bytes) without some-taken some_byte =
    (_, without_feed (without-take (suc m) (b ∷ bytes) without), refl)

-- A line with its line feed among the first m bytes of a text is the first line of those.
first_taken : (m : ℕ) (bytes rest : List ℕ) → Without line_feed bytes → length bytes < m
    → FirstLine (take m (bytes ++ (line_feed ∷ rest))) (record { bytes = bytes; ended = true; rest = take (m - suc (length bytes)) rest })
first_taken m bytes rest without inside =
    let left : ℕ = m - suc (length bytes) in
    let parts : m ≡ length bytes + suc left = omega arith in
    let taken : take m (bytes ++ (line_feed ∷ rest)) ≡ bytes ++ (line_feed ∷ take left rest) =
    ap (λ (k : ℕ). take k (bytes ++ (line_feed ∷ rest))) parts ∙ take-append-add bytes (line_feed ∷ rest) (suc left) in
    rw taken (with_feed without)

-- A refused first line is refused in the first m bytes for the same reason, where these are more than a line's.
refused-taken : (m : ℕ) (sites : List Site) {text : List ℕ} {line : TextLine} {why : Refusal} → FirstLine text line
    → line_entered sites line ≡ refused why → most_line_bytes < m → Stops sites (take m text) why
refused-taken m sites {why = why} (without_feed {b} {bytes} without) is long =
    let same : BadLine ≡ why = cc in rw (← same) (unended-refused m sites (b ∷ bytes) without (omega arith) (omega arith))
refused-taken m sites {why = why} (with_feed {bytes} {rest} without) is long = by_length (dec_lt (length bytes) m)
  where
    by_length : Dec (length bytes < m) → Stops sites (take m (bytes ++ (line_feed ∷ rest))) why
    by_length (yes inside) = (_, first_taken m bytes rest without inside, is)
    by_length (no past) =
        let past-m : m ≤ length bytes = omega arith in
        let because : refused BadLine ≡ refused why = rw (lt-ltb most_line_bytes (length bytes) (omega arith)) at is in
        let same : BadLine ≡ why = cc in
        rw (take-append-le, ← same) (unended-refused m sites bytes without (omega arith) (omega arith))

-- Where at most `left` more sites find room, a text of so many lines and one more is refused, as are its first m bytes: a refused line
-- decides both, an accepted one takes at most 21 bytes and the room of one site.
long-refused : {sites : List Site} {text : List ℕ} {result : Result (List Site)} → Reads sites text result → (m left : ℕ)
    → most_sites ≤ length sites + left → suc most_line_bytes * left + suc most_line_bytes ≤ length text
    → suc most_line_bytes * left + suc most_line_bytes ≤ m
    → (why : Refusal) × (result ≡ refused why) × Reads sites (take m text) (refused why)
long-refused end m left full long longer = absurd (omega arith)
long-refused {sites} (refused_line {why} first is) m left full long longer =
    let (line, taken, refuses) = refused-taken m sites first is (omega arith) in (why, refl, refused_line taken refuses)
long-refused (accepted_line (without_feed without) is further) m left full long longer = absurd (refused-not-accepted is)
long-refused {sites} (accepted_line (with_feed {bytes} {rest} without) is further) m left full long longer =
    let of = entered-line {sites = sites} {line = record { bytes = bytes; ended = true; rest = rest }} is in
    let short = of.short in
    let room = of.room in
    let one_more = ap length of.next_is ∙ length-append sites (of.site ∷ []) in
    let size = length-append bytes (line_feed ∷ rest) in
    let (why, result-is, reads) =
    long-refused further (m - suc (length bytes)) (left - 1) (omega arith) (omega arith) (omega arith) in
    (why, result-is, accepted_line {result = refused why} (first_taken m bytes rest without (omega arith)) is reads)

-- A text of 5,061 bytes or more is refused, and its first 5,061 bytes decide why.
pub longer-refused : (text : List ℕ) → longest_text ≤ length text
    → (why : Refusal) × (read_list text ≡ refused why) × (read_list (take longest_text text) ≡ refused why)
longer-refused text long =
    let (why, refuses, reads) = long-refused (reads-list text) longest_text most_sites (omega arith) (omega arith) (omega arith) in
    (why, refuses, reads-are reads)

-- Whatever its length, a text is read as its first 5,061 bytes are, and has their output: of an input of which only these are read, they
-- decide the output.
pub read_first : (input read : List ℕ) → take longest_text input ≡ read → read_list read ≡ read_list input
read_first input read is = ap read_list (sym is) ∙ by_length (dec_le longest_text (length input))
  where
    by_length : Dec (longest_text ≤ length input) → read_list (take longest_text input) ≡ read_list input
    by_length (yes long) = let both = longer-refused input long in both.2 ∙ sym both.1
    by_length (no short) = ap read_list (take_all longest_text input (omega arith))

pub output-first : (way : Way) (input read : List ℕ) → take longest_text input ≡ read → output_of way read ≡ output_of way input
unfolding output_of
output-first way input read is = ap (λ (r : Result (List Site)). output_for (sheet_of way) (to_place r)) (read_first input read is)

-- So it does at a given side.
pub output-first-at : (way : Way) (side : Side) (input read : List ℕ) → take longest_text input ≡ read
    → output_at way side read ≡ output_at way side input
unfolding output_at
output-first-at way side input read is =
    ap (λ (r : Result (List Site)). output_for (sheet_at way side) (to_place_at side (exists_at way side) r)) (read_first input read is)

-- ---- its first refused line

-- The lines of sites by the rules take at most 21 bytes each.
lines-short : (before after : List Site) → Listed (before ++ after) → length (list_text after) ≤ suc most_line_bytes * length after
unfolding list_text
lines-short before [] listed = omega arith
lines-short before (site ∷ after) listed =
    let behind = lines-short (before ++ (site ∷ [])) after (rw (append_snoc before site after) listed) in
    omega (
      arith,
      behind,
      line-short site (listed-site before site after listed),
      length-append (list_line site) (line_feed ∷ list_text after),
    )

-- The first refused line of a text is that of its first 5,061 bytes, by its number and its refusal's: at most 240 lines stand before it,
-- and of the bytes from it on more than 20 are left.
pub line_first : (text : List ℕ) {n m : ℕ} (f : FirstRefused text n) (g : FirstRefused (take longest_text text) m)
    → (f.line_number ≡ g.line_number) × (n ≡ m)
unfolding first-refused
line_first text f g =
    let (why, refuses, number) = refused_why f in
    let listed = before-listed f in
    let short = lines-short [] f.before listed in
    let left : ℕ = longest_text - length (list_text f.before) in
    let parts : longest_text ≡ length (list_text f.before) + left = omega (arith, short, listed.few) in
    let taken : take longest_text text ≡ list_text f.before ++ take left f.rest =
    ap (take longest_text) f.parts
    ∙ ap (λ (k : ℕ). take k (list_text f.before ++ f.rest)) parts
    ∙ take-append-add (list_text f.before) f.rest left in
    let (line, first, is) = refused-taken left f.before f.line_is refuses (omega (arith, short, listed.few)) in
    let same = first-refused-one (first-refused f.before (take left f.rest) taken listed first is) g in
    (f.line_number_is ∙ same.0, number ∙ same.1)
