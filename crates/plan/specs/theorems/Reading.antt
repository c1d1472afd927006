-- Laws of reading a list: the functions meet the rule and nothing else does, a list that is accepted is the list of its sites, and one that
-- is refused has a first refused line.
-- Assumes nothing.
use Rattle.std.specs.Prelude.{◌≡◌, refl, Bool, true, false, ◌≢◌, ℕ, zero, suc, ◌+◌, ◌≤◌, ◌<◌, eqb, length, get_or}
use Rattle.std.proofs.Common.{sym, ap, ap₂, ◌∙◌, subst, le-leb, le-ltb, ltb-false, eqb-true, ne_eqb}
use Rattle.std.proofs.lemmas.Bool.{false≢true, eqb-false, not-false}
use mathlib.Core.List.{List, [], ◌∷◌, ◌++◌, append_assoc, append-nil}
use Rattle.std.proofs.Math.Option.{Option, some, none}
use native.Mathlib.Omega.{arith}
use Rattle.std.proofs.Math.ListN.{length-append}
use Rattle.std.proofs.Math.Seq.{append_snoc}
use Rattle.placing.specs.rules.Units.{greatest_coordinate, most_sites, along, X, Y}
use Rattle.plan.specs.declared.refusal.Refusal.{Refusal}
use Rattle.plan.specs.rules.Refusal.{number_of, first_refusal, refusal_number, Result, accepted, refused}
use Rattle.plan.specs.rules.Text.{tab, line_feed, Without, fields_of, number_in, decimal, or_zero}
use Rattle.plan.specs.rules.List.{Site, ByRules, Listed, list_line, list_text, entered, most_line_bytes, is_coordinate, wanted_in, line_tests, line_entered}
use Rattle.plan.specs.rules.List.{TextLine, FirstLine, with_feed, without_feed, Reads, end, refused_line, accepted_line}
use Rattle.plan.specs.rules.Sheet.{joined}
use Rattle.plan.specs.deciding.Reading.{with_byte, cut_line, read_on, read_within, read_list}
use Rattle.plan.specs.calls.Plan.{unplaced_plan, Valid}
use Rattle.plan.specs.calls.Answers.{started, handed, read_from, Planned}
use Rattle.plan.specs.Demands.{FirstRefused, ReadTold, read_refused, read_all}
use Rattle.plan.specs.theorems.Text.{and_both, name-without, name-short, without-append, parted-one, parted-more, fields-joined, number-decimal, decimal-number, decimal-without, decimal-short}
use Rattle.plan.specs.theorems.Tables.{rows_none, rest-none, number-some, unless-accepted, unless-refused}
use Rattle.plan.specs.theorems.Sites.{listed-site, listed-none}
use Rattle.plan.specs.theorems.Entering.{Passed, tests-passed, passed-entered, listed-passed, wanted-listed}

-- ---- the first line of a text

-- A line is cut at its line feed, or at the end of a text without one.
cut-feed : (bytes rest : List ℕ) → Without line_feed bytes
    → cut_line (bytes ++ (line_feed ∷ rest)) ≡ record { bytes = bytes; ended = true; rest = rest }
unfolding cut_line
cut-feed [] rest without = refl
cut-feed (b ∷ bytes) rest without = rw (ne_eqb b line_feed without.0, cut-feed bytes rest without.1, cut_line)

cut-end : (bytes : List ℕ) → Without line_feed bytes → cut_line bytes ≡ record { bytes = bytes; ended = false; rest = [] }
unfolding cut_line
cut-end [] without = refl
cut-end (b ∷ bytes) without = rw (ne_eqb b line_feed without.0, cut-end bytes without.1, cut_line)

-- So the first line is what is cut ..
pub first-line-cut : {text : List ℕ} {line : TextLine} → FirstLine text line → cut_line text ≡ line
first-line-cut (with_feed {bytes} {rest} without) = cut-feed bytes rest without
first-line-cut (without_feed {b} {bytes} without) = cut-end (b ∷ bytes) without

-- A byte more in front that is no line feed.
first-line-more : {b : ℕ} {text : List ℕ} {line : TextLine} → b ≢ line_feed → FirstLine text line → FirstLine (b ∷ text) (with_byte b line)
first-line-more {b} no-feed (with_feed {bytes} without) = with_feed {bytes = b ∷ bytes} (no-feed, without)
first-line-more no-feed (without_feed without) = without_feed (no-feed, without)

-- .. and what is cut is the first line.
pub cut-first-line : (text : List ℕ) → 1 ≤ length text → FirstLine text (cut_line text)
unfolding cut_line
cut-first-line [] some_byte = absurd (omega arith)
cut-first-line (b ∷ text) some_byte = by-feed (eqb b line_feed) refl (on text (cut-first-line text))
  where
    on : (text : List ℕ) → (1 ≤ length text → FirstLine text (cut_line text)) → b ≢ line_feed
        → FirstLine (b ∷ text) (with_byte b (cut_line text))
    on [] further no-feed = without_feed (no-feed, tt)
    on (c ∷ text) further no-feed = first-line-more no-feed (further (omega arith))

    by-feed : (ends : Bool) → eqb b line_feed ≡ ends → (b ≢ line_feed → FirstLine (b ∷ text) (with_byte b (cut_line text)))
        → FirstLine (b ∷ text) (elim ends [ true ↦ record { bytes = []; ended = true; rest = text } | false ↦ with_byte b (cut_line text) ])
    by-feed true is further = rw (eqb-true b line_feed is) (with_feed tt)
    by-feed false is further = further (eqb-false b line_feed is)

-- What follows it is shorter than the text.
pub rest-shorter : {text : List ℕ} {line : TextLine} → FirstLine text line → length line.rest < length text
rest-shorter (with_feed {bytes} {rest} without) = simp length-append (omega arith)
rest-shorter (without_feed without) = omega arith

-- Where it is ended, it is the text up to its line feed.
pub first-line-whole : {text : List ℕ} {line : TextLine} → FirstLine text line → line.ended ≡ true
    → text ≡ line.bytes ++ (line_feed ∷ line.rest)
first-line-whole (with_feed without) ended = refl
first-line-whole (without_feed without) ended = absurd (false≢true ended)

-- ---- reading is by the rule, and the rule gives one result

-- A text with a first line is read by that.
read_next : (k : ℕ) (sites : List Site) {text : List ℕ} {line : TextLine} → FirstLine text line
    → read_within (suc k) sites text ≡ read_on (read_within k) line (line_entered sites line)
unfolding read_within
read_next k sites {text} first =
    by-text text (rest-shorter first) ∙ ap (λ (l : TextLine). read_on (read_within k) l (line_entered sites l)) (first-line-cut first)
  where
    by-text : (text : List ℕ) {m : ℕ} → m < length text
        → read_within (suc k) sites text ≡ read_on (read_within k) (cut_line text) (line_entered sites (cut_line text))
    by-text [] some_byte = absurd (omega arith)
    by-text (b ∷ text) some_byte = refl

-- Reading at most k lines is reading, where k is large enough ..
within-reads : (k : ℕ) (sites : List Site) (text : List ℕ) → length text ≤ k → Reads sites text (read_within k sites text)
unfolding read_within
within-reads zero sites [] enough = end
within-reads zero sites (b ∷ text) enough = absurd (omega arith)
within-reads (suc k) sites [] enough = end
within-reads (suc k) sites (b ∷ text) enough = by_result (within-reads k) (line_entered sites (cut_line (b ∷ text))) refl
  where
    first : FirstLine (b ∷ text) (cut_line (b ∷ text))
    first = cut-first-line (b ∷ text) (omega arith)

    by_result : ((sites : List Site) (text : List ℕ) → length text ≤ k → Reads sites text (read_within k sites text))
        → (result : Result (List Site)) → line_entered sites (cut_line (b ∷ text)) ≡ result
        → Reads sites (b ∷ text) (read_on (read_within k) (cut_line (b ∷ text)) result)
    by_result further (accepted next) is = accepted_line first is (further next _ (omega (arith, rest-shorter first)))
    by_result further (refused why) is = refused_line first is

pub reads-list : (text : List ℕ) → Reads [] text (read_list text)
unfolding read_list
reads-list text = within-reads (length text) [] text (omega arith)

-- .. and nothing else is.
reads-within : {sites : List Site} {text : List ℕ} {result : Result (List Site)} → Reads sites text result → (k : ℕ) → length text ≤ k
    → read_within k sites text ≡ result
unfolding read_within
reads-within end zero enough = refl
reads-within end (suc k) enough = refl
reads-within (refused_line first is) zero enough = absurd (omega (arith, rest-shorter first))
reads-within {sites} (refused_line {line} first is) (suc k) enough = read_next k sites first ∙ ap (read_on (read_within k) line) is
reads-within (accepted_line first is further) zero enough = absurd (omega (arith, rest-shorter first))
reads-within {sites} (accepted_line {line} first is further) (suc k) enough =
    read_next k sites first ∙ ap (read_on (read_within k) line) is ∙ reads-within further k (omega (arith, rest-shorter first))

pub reads-unique : {sites : List Site} {text : List ℕ} {one other : Result (List Site)} → Reads sites text one → Reads sites text other
    → one ≡ other
reads-unique {text = text} first second =
    sym (reads-within first (length text) (omega arith)) ∙ reads-within second (length text) (omega arith)

pub reads-are : {text : List ℕ} {result : Result (List Site)} → Reads [] text result → read_list text ≡ result
reads-are {text} reads = reads-unique (reads-list text) reads

pub reads_so : {text : List ℕ} {result : Result (List Site)} → read_list text ≡ result → Reads [] text result
reads_so {text} is = subst (Reads [] text) is (reads-list text)

-- ---- one line

-- The text of a coordinate is what writes its number.
coordinate-written : (text : List ℕ) → is_coordinate (number_in text) ≡ true → text ≡ decimal (or_zero (number_in text))
coordinate-written text = by_number (number_in text) refl
  where
    by_number : (number : Option ℕ) → number_in text ≡ number → is_coordinate number ≡ true → text ≡ decimal (or_zero number)
    by_number none is writes = absurd (false≢true writes)
    by_number (some n) is writes = decimal-number text n is

-- Three fields of which the second and third write coordinates are a line of the site that they want.
fields-line : (fields : List (List ℕ)) → length fields ≡ 3 → (wanted_in fields).in_range ≡ true
    → joined fields ≡ list_line (wanted_in fields).site
unfolding list_line
fields-line [] three inside = absurd (omega arith)
fields-line (name ∷ []) three inside = absurd (omega arith)
fields-line (name ∷ x ∷ []) three inside = absurd (omega arith)
fields-line (name ∷ x ∷ y ∷ []) three inside =
    let both = and_both (is_coordinate (number_in x)) (is_coordinate (number_in y)) inside in
    rw append_assoc
    (ap₂ (λ (a b : List ℕ). name ++ (tab ∷ (a ++ (tab ∷ b)))) (coordinate-written x both.0) (coordinate-written y both.1))
fields-line (name ∷ x ∷ y ∷ other ∷ fields) three inside = absurd (omega arith)

-- What a line is that is accepted: ended and short enough, the line of a site for which there is room. It stands last in the sites
-- afterwards, which are by the rules.
pub record LineOf (sites : List Site) (line : TextLine) (next : List Site) : Type 0 where
  pub site : Site
  pub ended : line.ended ≡ true
  pub short : length line.bytes ≤ most_line_bytes
  pub written : line.bytes ≡ list_line site
  pub room : length sites < most_sites
  pub next_is : next ≡ sites ++ (site ∷ [])
  pub next_listed : Listed sites → Listed next

pub entered-line : {sites next : List Site} {line : TextLine} → line_entered sites line ≡ accepted next → LineOf sites line next
entered-line {sites} {line = line} is =
    let fields = fields_of line.bytes in
    let told = unless-accepted (first_refusal (line_tests sites line)) is in
    let rows = rows_none (line_tests sites line) told.0 in
    let three = eqb-true (length fields) 3 (not-false (eqb (length fields) 3) (rows.none_holds 2 (omega arith))) in
    let passed : Passed sites (wanted_in fields) = tests-passed (rest-none 3 (line_tests sites line) told.0) in
    record {
      site = (wanted_in fields).site;
      ended = not-false line.ended (rows.none_holds 0 (omega arith));
      short = ltb-false most_line_bytes (length line.bytes) (rows.none_holds 1 (omega arith));
      written = sym (fields-joined line.bytes) ∙ fields-line fields three passed.is_inside;
      room = passed.room;
      next_is = told.1;
      next_listed = λ listed. rw told.1 (wanted-listed _ (number_in (get_or fields 1 [])) (number_in (get_or fields 2 [])) listed passed);
    }

-- The line of a site by the rules.
module _ (site : Site) (rules : ByRules site) where
  -- It has at most 20 bytes.
  pub line-short : length (list_line site) ≤ most_line_bytes
  unfolding list_line
  line-short =
      simp length-append (omega (
        arith,
        name-short site.name rules.named,
        decimal-short (along X site.place) (omega arith),
        decimal-short (along Y site.place) (omega arith),
      ))

  -- It holds no line feed.
  pub line-without : Without line_feed (list_line site)
  unfolding list_line
  line-without =
      without-append line_feed (site.name ++ (tab ∷ decimal (along X site.place))) (tab ∷ decimal (along Y site.place))
      (without-append line_feed site.name (tab ∷ decimal (along X site.place))
      (name-without site.name line_feed (omega arith) rules.named)
      (omega arith, decimal-without (along X site.place) line_feed (omega arith)))
      (omega arith, decimal-without (along Y site.place) line_feed (omega arith))

  -- Its fields are name, x, y.
  line-fields : fields_of (list_line site) ≡ site.name ∷ decimal (along X site.place) ∷ decimal (along Y site.place) ∷ []
  unfolding list_line
  line-fields =
      rw (
        append_assoc site.name (tab ∷ decimal (along X site.place)) (tab ∷ decimal (along Y site.place)),
        parted-more tab site.name _ (name-without site.name tab (omega arith) rules.named),
        parted-more tab (decimal (along X site.place)) (decimal (along Y site.place)) (decimal-without (along X site.place) tab (omega arith)),
        parted-one tab (decimal (along Y site.place)) (decimal-without (along Y site.place) tab (omega arith)),
      )

  -- They want this site.
  fields-want : wanted_in (site.name ∷ decimal (along X site.place) ∷ decimal (along Y site.place) ∷ [])
      ≡ record { named = true; in_range = true; site = site }
  fields-want =
      rw (
        rules.named,
        number-decimal (along X site.place),
        number-decimal (along Y site.place),
        le-leb (along X site.place) greatest_coordinate rules.on_plan.on_x,
        le-leb (along Y site.place) greatest_coordinate rules.on_plan.on_y,
      )

  -- It is accepted where the site passes the tests of entering.
  pub line-passes : {sites : List Site} (rest : List ℕ) → Passed sites (record { named = true; in_range = true; site = site })
      → line_entered sites (record { bytes = list_line site; ended = true; rest = rest }) ≡ accepted (sites ++ (site ∷ []))
  line-passes {sites} rest passed =
      rw
      (le-ltb most_line_bytes (length (list_line site)) line-short, line-fields)
      (ap (entered sites) fields-want ∙ passed-entered passed)

-- ---- a text

-- The lines of sites that stand in a list by the rules are read as these.
pub lines-read : (before after : List Site) {rest : List ℕ} {result : Result (List Site)} → Listed (before ++ after)
    → Reads (before ++ after) rest result → Reads before (list_text after ++ rest) result
unfolding list_text
lines-read before [] listed further = rw append-nil at further
lines-read before (site ∷ after) {rest} {result} listed further =
    let rules = listed-site before site after listed in
    let one_more = append_snoc before site after in
    let behind = lines-read (before ++ (site ∷ [])) after {rest = rest} {result = result} (rw one_more listed) (rw one_more further) in
    let passes = line-passes site rules (list_text after ++ rest) (listed-passed before site after listed) in
    rw (append_assoc (list_line site) (line_feed ∷ list_text after) rest)
    (accepted_line (with_feed {bytes = list_line site} (line-without site rules)) passes behind)

-- One line more behind those of some sites.
pub list-one-more : (sites : List Site) (site : Site) (rest : List ℕ)
    → list_text sites ++ (list_line site ++ (line_feed ∷ rest)) ≡ list_text (sites ++ (site ∷ [])) ++ rest
unfolding list_text
list-one-more [] site rest = sym (append_assoc (list_line site) (line_feed ∷ []) rest)
list-one-more (first ∷ sites) site rest =
    append_assoc (list_line first) (line_feed ∷ list_text sites) (list_line site ++ (line_feed ∷ rest))
    ∙ ap (λ (l : List ℕ). list_line first ++ (line_feed ∷ l)) (list-one-more sites site rest)
    ∙ sym (append_assoc (list_line first) (line_feed ∷ list_text (sites ++ (site ∷ []))) rest)

-- Where reading ends: at the end of the text, or at a line that is refused.
data Ends (sites : List Site) : List ℕ → Result (List Site) → Type 0 where
  at_end : Ends sites [] (accepted sites)
  at_line : {rest : List ℕ} {line : TextLine} {why : Refusal} → FirstLine rest line → line_entered sites line ≡ refused why
      → Ends sites rest (refused why)

-- A text is the lines of some sites, and then what reading ends at.
record ReadTo (sites : List Site) (text : List ℕ) (result : Result (List Site)) : Type 0 where
  added : List Site
  rest : List ℕ
  parts : text ≡ list_text added ++ rest
  listed : Listed (sites ++ added)
  ends : Ends (sites ++ added) rest result

read_here : {sites : List Site} {text : List ℕ} {result : Result (List Site)} → Listed sites → Ends sites text result
    → ReadTo sites text result
unfolding list_text
read_here {sites} {text} listed ends =
    record { added = []; rest = text; parts = refl; listed = rw append-nil listed; ends = rw append-nil ends }

read-to : {sites : List Site} {text : List ℕ} {result : Result (List Site)} → Listed sites → Reads sites text result
    → ReadTo sites text result
unfolding list_text
read-to listed end = read_here listed at_end
read-to listed (refused_line first is) = read_here listed (at_line first is)
read-to {sites} {text} {result} listed (accepted_line {line} first is further) =
    let of = entered-line {sites = sites} {line = line} is in
    let to = read-to (of.next_listed listed) further in
    let one_more = ap (λ (s : List Site). s ++ to.added) of.next_is ∙ append_snoc sites of.site to.added in
    record {
      added = of.site ∷ to.added;
      rest = to.rest;
      parts =
          first-line-whole first of.ended
          ∙ ap₂ (λ (bytes rest : List ℕ). bytes ++ (line_feed ∷ rest)) of.written to.parts
          ∙ sym (append_assoc (list_line of.site) (line_feed ∷ list_text to.added) to.rest);
      listed = rw one_more at to.listed;
      ends = rw one_more at to.ends;
    }

-- The list of sites by the rules is read as these.
pub list_read : (sites : List Site) → Listed sites → read_list (list_text sites) ≡ accepted sites
list_read sites listed = reads-are (rw append-nil at (lines-read [] sites listed end))

-- A line that is refused behind those of sites by the rules is the first that is.
unfoldable pub first-refused : {text : List ℕ} (before : List Site) (rest : List ℕ) {line : TextLine} {why : Refusal}
    → text ≡ list_text before ++ rest → Listed before → FirstLine rest line → line_entered before line ≡ refused why → FirstRefused text (number_of why)
first-refused before rest {line} {why} parts listed first is =
    record {
      line_number = length before + 1;
      before = before;
      rest = rest;
      line = line;
      line_number_is = refl;
      parts = parts;
      accepted_before = reads_so (list_read before listed);
      line_is = first;
      some_number = number-some why;
      number_is = sym (ap refusal_number (unless-refused (first_refusal (line_tests before line)) _ is));
    }

-- What is read into sites is the list of them, and they are by the rules; what is refused has a first refused line.
abbrev Came : List ℕ → Result (List Site) → Type 0
Came text (accepted sites) = Listed sites × (list_text sites ≡ text)
Came text (refused why) = FirstRefused text (number_of why)

read-came : (text : List ℕ) → Came text (read_list text)
read-came text = by_end _ (read-to listed-none (reads-list text))
  where
    by-ends : (added : List Site) (rest : List ℕ) (result : Result (List Site)) → text ≡ list_text added ++ rest → Listed added
        → Ends added rest result → Came text result
    by-ends added rest result parts listed at_end = (listed, sym (parts ∙ append-nil (list_text added)))
    by-ends added rest result parts listed (at_line first is) = first-refused added rest parts listed first is

    by_end : (result : Result (List Site)) → ReadTo [] text result → Came text result
    by_end result to = by-ends to.added to.rest result to.parts to.listed to.ends

pub read-listed : (text : List ℕ) (sites : List Site) → read_list text ≡ accepted sites → Listed sites
read-listed text sites is = (subst (Came text) is (read-came text)).0

pub read-list : (text : List ℕ) (sites : List Site) → read_list text ≡ accepted sites → list_text sites ≡ text
read-list text sites is = (subst (Came text) is (read-came text)).1

pub read-condition : (text : List ℕ) (why : Refusal) → read_list text ≡ refused why → FirstRefused text (number_of why)
read-condition text why is = subst (Came text) is (read-came text)

-- So reading tells that line's number and hands back an empty plan; accepted, every line of the text is a site of the plan.
pub read_told : {r : Planned} (text : List ℕ) → (r ≡ read_from text) × Valid r.plan
    → (r ≡ read_from text) × (Valid r.plan × ReadTold text r)
read_told text both = (both.0, (both.1, subst (ReadTold text) (sym both.0) (by_result (read_list text) refl)))
  where
    by_result : (result : Result (List Site)) → read_list text ≡ result → ReadTold text (handed unplaced_plan started result)
    by_result (accepted sites) is =
        read_all (record { sites = sites; read = reads_so is; every_line = read-list text sites is; plan_is = refl }) refl
    by_result (refused why) is = read_refused (read-condition text why is) refl
