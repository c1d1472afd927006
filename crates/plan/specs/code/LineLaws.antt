-- Laws on the line that starts at a place in a text: its end, its fields, and entering it.
-- Assumes nothing.
use Rattle.std.specs.Prelude.{◌≡◌, Bool, true, false, ◌≢◌, List, [], ◌∷◌, ◌++◌, ℕ, suc, ◌+◌, ◌-◌, ◌≤◌, ◌<◌, length, get_or, take, drop, min, cond, eqb, MatchOption, Option, Some, None, Ok, Err}
use Rattle.std.specs.List.{AllWithin, HoldsAt, slice_split, onto_first}
use Rattle.std.proofs.Common.{sym, ap, ◌∙◌, subst, add-one, arith, length-append, length-drop, take-append-drop, drop-cons, drop-drop, get_or-drop, get_or-take, length-take-le, ne_eqb, le-ltb, lt-ltb}
use Rattle.std.specs.Option.{is_some, option_map}
use Rattle.std.proofs.lemmas.Bool.{false≢true}
use Rattle.std.proofs.Math.Path.{refl}
use Rattle.std.proofs.lemmas.List.{length-take}
use Rattle.std.proofs.Math.Decide.{dec_lt}
use Rattle.std.proofs.Math.Seq.{get_or-append_seam}
use Rattle.std.proofs.lemmas.Iterator.{YieldsList}
use Rattle.placing.specs.declared.units.Units.{Units}
use Rattle.plan.specs.declared.plan.Plan.{Plan}
use Rattle.plan.specs.declared.plan.SiteRead.{SiteRead}
use Rattle.plan.specs.declared.refusal.Refusal.{Refusal}
use Rattle.plan.specs.declared.refusal.Refusal.TheVariants.{BadLine}
use Rattle.plan.specs.rules.Refusal.{Result, accepted, refused}
use Rattle.plan.specs.rules.Text.{tab, line_feed, number_in, Without, with_first, parted, fields_of}
use Rattle.plan.specs.rules.List.{Site, entered, most_line_bytes, TextLine, FirstLine, with_feed, line_entered}
use Rattle.plan.specs.deciding.Reading.{cut_line}
use Rattle.plan.specs.calls.Plan.{unplaced_plan, sites_in}
use Rattle.plan.specs.calls.Answers.{Planned, handed}
use Rattle.plan.specs.theorems.Reading.{first-line-whole, cut-first-line}
use Rattle.plan.specs.calls.Given.{coordinate_read}
use Rattle.plan.specs.code.NameRead.{name_read}
use Rattle.plan.specs.code.Coordinate.{place_read}
use Rattle.plan.specs.code.Entering.{wanted_read, PlaceIs, place_read_lem, name_fits, entered-as-read}
use Rattle.plan.specs.code.Line.{NoByte, between, line_at, LineAt, LineEnds, entered_fields, FieldsRead, LineEntered, line_refused, line_accepted}

-- ---- the bytes up to a byte

-- The bytes of a text from a place on, at most k of them, before which none is this one.
no-byte-before : {b : ℕ} {text : List ℕ} {at : ℕ} (k n : ℕ) → at ≤ length text → n ≤ length (take k (drop at text))
    → AllWithin (λ c. c ≢ b) (take k (drop at text)) 0 n → NoByte b text at (at + n)
no-byte-before {text = text} {at = at} k n inside few none =
    let size = length-drop at text in
    let taken = length-take k (drop at text) in
    record {
      after = omega arith;
      within = omega arith;
      passed = λ i from to e.
          let below : i - at < k = omega arith in
          let there : at + (i - at) ≡ i = omega arith in
          none (i - at) 0 (omega arith) (omega arith)
          (get_or-take k (drop at text) (i - at) 0 below ∙ get_or-drop at text (i - at) 0 ∙ ap (λ (j : ℕ). get_or text j 0) there ∙ e);
    }

-- A text is without a byte that stands at no place of it.
without_at : (b : ℕ) (bytes : List ℕ) → ((i : ℕ) → i < length bytes → get_or bytes i 0 ≢ b) → Without b bytes
without_at b [] nowhere = tt
without_at b (c ∷ bytes) nowhere = (nowhere 0 (omega arith), without_at b bytes (λ i inside. nowhere (suc i) (omega arith)))

module _ {b : ℕ} {text : List ℕ} {at end : ℕ} (so_far : NoByte b text at end) where
  -- How many bytes were passed,
  between-length : length (between text at end) ≡ end - at
  between-length = length-take-le (end - at) (drop at text) (omega (arith, so_far.after, so_far.within, length-drop at text))

  -- none of them is this one,
  between-without : Without b (between text at end)
  between-without =
      without_at b (between text at end) (λ i inside e.
      let below : i < end - at = omega (arith, between-length) in
      so_far.passed (at + i) (omega arith) (omega arith) (sym (get_or-take (end - at) (drop at text) i 0 below ∙ get_or-drop at text i 0) ∙ e))

  -- and where it follows, they stand in front of it.
  between-then : end < length text → get_or text end 0 ≡ b → drop at text ≡ between text at end ++ (b ∷ drop (end + 1) text)
  between-then inside found =
      let after : at ≤ end = so_far.after in
      let seam : at + (end - at) ≡ end = omega arith in
      let rest : drop (end - at) (drop at text) ≡ b ∷ drop (end + 1) text =
      drop-drop (end - at) at text ∙ rw (seam, drop-cons text end 0 inside, found, add-one end) in
      sym (take-append-drop (end - at) (drop at text)) ∙ ap (λ (bytes : List ℕ). between text at end ++ bytes) rest

-- ---- the end of a line

module _ {text : List ℕ} {at end : ℕ} (so_far : NoByte line_feed text at end) where
  -- A line feed is the line's end.
  pub line-here : end < length text → get_or text end 0 ≡ line_feed → end ≤ at + most_line_bytes → LineAt text at end
  line-here inside feed few =
      record {
        first =
            subst (λ (l : List ℕ). FirstLine l (line_at text at end)) (sym (between-then so_far inside feed))
            (with_feed (between-without so_far));
        short = omega (arith, between-length so_far);
        after = so_far.after;
        inside = inside;
      }

  -- Where the first line is ended, that is no sooner, and within the text.
  pub feed-later : (line : TextLine) → FirstLine (drop at text) line → line.ended ≡ true
      → (end ≤ at + length line.bytes) × (at + length line.bytes < length text)
  feed-later line first ended = by_place (dec_lt (at + length line.bytes) end)
    where
      whole : drop at text ≡ line.bytes ++ (line_feed ∷ line.rest)
      whole = first-line-whole first ended

      inside : at + length line.bytes < length text
      inside =
          let size = sym (length-drop at text) ∙ ap length whole ∙ length-append line.bytes (line_feed ∷ line.rest) in
          omega (arith, so_far.after, so_far.within)

      feed : get_or text (at + length line.bytes) 0 ≡ line_feed
      feed =
          sym (get_or-drop at text (length line.bytes) 0) ∙ ap (λ (l : List ℕ). get_or l (length line.bytes) 0) whole
          ∙ get_or-append_seam line.bytes line_feed line.rest 0

      by_place : Dec (at + length line.bytes < end) → (end ≤ at + length line.bytes) × (at + length line.bytes < length text)
      by_place (yes sooner) = absurd (so_far.passed (at + length line.bytes) (omega arith) sooner feed)
      by_place (no later) = (omega arith, inside)

-- The first line feed among some bytes, if there is one.
abbrev pub FeedFound : List ℕ → Option ℕ → Type 0
FeedFound bytes found =
    MatchOption found (AllWithin (λ c. c ≢ line_feed) bytes 0 (length bytes))
    (λ n. (n < length bytes) × HoldsAt (λ c. c ≡ line_feed) bytes n × AllWithin (λ c. c ≢ line_feed) bytes 0 n)

-- Among as many bytes as a line may have and one more, it is the line's end.
pub end-found : (text : List ℕ) (at k : ℕ) {rest : List ℕ} → most_line_bytes < k → k ≤ most_line_bytes + 1 → at ≤ length text → rest ≡ drop at text
    → (found : Option ℕ) → FeedFound (take k rest) found → LineEnds text at (option_map (λ n. at + n) found)
end-found text at k enough few inside same found told =
    by_found found (subst (λ (rest : List ℕ). FeedFound (take k rest) found) same told)
  where
    size : length (take k (drop at text)) ≡ min k (length text - at)
    size = length-take k (drop at text) ∙ ap (λ (n : ℕ). min k n) (length-drop at text)

    by_found : (found : Option ℕ) → FeedFound (take k (drop at text)) found → LineEnds text at (option_map (λ n. at + n) found)
    by_found None none = λ line first ended.
        let later = feed-later (no-byte-before k _ inside (omega arith) none) line first ended in
        omega (arith, later, size)
    by_found (Some n) (short, feed, none) =
        line-here (no-byte-before k n inside (omega arith) none) (omega (arith, size))
        (sym (get_or-take k (drop at text) n 0 (omega (arith, size)) ∙ get_or-drop at text n 0) ∙ feed 0) (omega (arith, size))

-- ---- the fields of a line

-- The parts of a text between tabs: those into which the library splits it.
pub fields-split : (line : List ℕ) → slice_split (λ (b : ℕ). eqb b tab) line ≡ fields_of line
unfolding parted
fields-split [] = refl
fields-split (b ∷ line) = by-test (eqb b tab) (slice_split (λ (c : ℕ). eqb c tab) line) (fields_of line) (fields-split line)
  where
    onto : (parts others : List (List ℕ)) → parts ≡ others → onto_first b parts ≡ with_first b others
    onto [] others same = ap (with_first b) same
    onto (part ∷ parts) others same = ap (with_first b) same

    by-test : (t : Bool) (parts others : List (List ℕ)) → parts ≡ others
        → cond t ([] ∷ parts) (onto_first b parts) ≡ elim t [ true ↦ [] ∷ others | false ↦ with_first b others ]
    by-test true parts others same = ap (λ (l : List (List ℕ)). [] ∷ l) same
    by-test false parts others same = onto parts others same

-- What an iterator gives next is the first of the list that it gives,
next-some : {S A B : Type 0} {steps : S → Option A → S → Type 0} {v : A → B} {s u : S} {all : List B} {r : Option A} {x : A}
    → YieldsList steps v s all → steps s r u → r ≡ Some x → (rest : List B) × (all ≡ v x ∷ rest) × YieldsList steps v u rest
next-some {steps = steps} {s = s} {u = u} {all = []} {x = x} road step is =
    absurd (road.runs x u (subst (λ (r : Option _). steps s r u) is step))
next-some {steps = steps} {s = s} {u = u} {all = first ∷ rest} {x = x} road step is =
    let told = road.runs.1 x u (subst (λ (r : Option _). steps s r u) is step) in
    (rest, ap (λ (b : _). b ∷ rest) (sym told.0), record { runs = told.1 })

-- and where it gives none the list is empty.
next-none : {S A B : Type 0} {steps : S → Option A → S → Type 0} {v : A → B} {s u : S} {all : List B} {r : Option A}
    → YieldsList steps v s all → steps s r u → r ≡ None → all ≡ []
next-none {all = []} road step is = refl
next-none {steps = steps} {s = s} {u = u} {all = first ∷ rest} road step is =
    absurd (road.runs.0 u (subst (λ (r : Option _). steps s r u) is step))

is-none : {A : Type 0} (o : Option A) → is_some o ≡ false → o ≡ None
is-none None none = refl
is-none (Some x) none = absurd (false≢true (sym none))

some-value : {A : Type 0} (o : Option A) → is_some o ≡ true → (x : A) × (o ≡ Some x)
some-value None there = absurd (false≢true there)
some-value (Some x) there = (x, refl)

-- So a list that gives one, two or more than three does not have three, and one that gives three is these.
module _ {S A B : Type 0} {steps : S → Option A → S → Type 0} {v : A → B} {s : S} {all : List B} (road : YieldsList steps v s all)
    {t u : S} {p q : Option A} {a : A} (first : steps s p t) (is-first : p ≡ Some a) (second : steps t q u) where
  pub gave-one : q ≡ None → length all ≢ 3
  gave-one none three =
      let one = next-some road first is-first in
      omega (arith, three, ap length one.1, ap length (next-none one.2 second none))

  module _ {w : S} {r : Option A} {b : A} (is-second : q ≡ Some b) (third : steps u r w) where
    pub gave-two : r ≡ None → length all ≢ 3
    gave-two none three =
        let one = next-some road first is-first in
        let two = next-some one.2 second is-second in
        omega (arith, three, ap length one.1, ap length two.1, ap length (next-none two.2 third none))

    module _ {z : S} {o : Option A} {c : A} (is-third : r ≡ Some c) (fourth : steps w o z) where
      pub gave-more : is_some o ≡ true → length all ≢ 3
      gave-more more three =
          let one = next-some road first is-first in
          let two = next-some one.2 second is-second in
          let third-of = next-some two.2 third is-third in
          let four = next-some third-of.2 fourth (some-value o more).1 in
          omega (arith, three, ap length one.1, ap length two.1, ap length third-of.1, ap length four.1)

      pub gave-three : is_some o ≡ false → all ≡ v a ∷ v b ∷ v c ∷ []
      gave-three none =
          let one = next-some road first is-first in
          let two = next-some one.2 second is-second in
          let three = next-some two.2 third is-third in
          one.1
          ∙ ap (λ (l : List B). v a ∷ l)
          (two.1 ∙ ap (λ (l : List B). v b ∷ l) (three.1 ∙ ap (λ (l : List B). v c ∷ l) (next-none three.2 fourth (is-none o none))))

-- Three fields are read as a name and two coordinates.
pub fields-read : (name x y : List ℕ) {across up : Option Units} {read : SiteRead} → read.name ≡ name_read name
    → across ≡ coordinate_read (number_in x) → up ≡ coordinate_read (number_in y) → read.place ≡ place_read across up
    → FieldsRead (name ∷ x ∷ y ∷ []) read
fields-read name x y {read = read} name-is x-is y-is place_is =
    let place : PlaceIs (number_in x) (number_in y) read.place = place_read_lem (number_in x) (number_in y) x-is y-is place_is in
    record {
      fits = record { name_fits = name_fits name name-is; place_fits = place.fits };
      enters = λ sites. entered-as-read sites name (number_in x) (number_in y) name-is place;
    }

-- ---- entering a line

-- What a call hands back tells what entering came to.
handed-refused : (plan : Plan) (came : Result (List Site)) {new : Plan} {why : Refusal}
    → record { outcome = Err why; plan = new } ≡ handed unplaced_plan plan came → (came ≡ refused why) × (new ≡ plan)
handed-refused plan (accepted next) is =
    let no = ap (λ (p : Planned). p.outcome) is in let z : ◌≡◌ {A = ℕ} 0 1 = cc in absurd (omega arith)
handed-refused plan (refused other) {why = why} is =
    let outcome = ap (λ (p : Planned). p.outcome) is in
    let same : other ≡ why = cc in
    (ap refused same, ap (λ (p : Planned). p.plan) is)

handed-accepted : (plan : Plan) (came : Result (List Site)) {new : Plan}
    → record { outcome = Ok tt; plan = new } ≡ handed unplaced_plan plan came
    → (next : List Site) × (came ≡ accepted next) × (new ≡ unplaced_plan next)
handed-accepted plan (accepted next) is = (next, refl, ap (λ (p : Planned). p.plan) is)
handed-accepted plan (refused other) is =
    let no = ap (λ (p : Planned). p.outcome) is in let z : ◌≡◌ {A = ℕ} 0 1 = cc in absurd (omega arith)

-- Without a whole line from a place on, what stands there is refused.
pub line-missing : {text : List ℕ} {at : ℕ} {plan : Plan} → at < length text → LineEnds text at None → LineEntered text at plan (Err BadLine) plan
line-missing {text} {at} {plan} further missing =
    let line = cut_line (drop at text) in
    let first = cut-first-line (drop at text) (omega (arith, length-drop at text)) in
    line_refused first (by_end line.ended line.bytes line.rest (missing line first))
  where
    by_end : (ended : Bool) (bytes rest : List ℕ) → (ended ≡ true → most_line_bytes < length bytes)
        → line_entered (sites_in plan) (record { bytes = bytes; ended = ended; rest = rest }) ≡ refused BadLine
    by_end false bytes rest long = refl
    by_end true bytes rest long = rw (lt-ltb most_line_bytes (length bytes) (long refl))

-- A whole line comes to what its fields do.
module _ {text : List ℕ} {at end : ℕ} (found : LineAt text at end) (plan : Plan) where
  line_comes : line_entered (sites_in plan) (line_at text at end) ≡ entered_fields (sites_in plan) (fields_of (between text at end))
  line_comes = rw (le-ltb most_line_bytes (length (between text at end)) found.short)

  pub fields_missing : length (fields_of (between text at end)) ≢ 3 → LineEntered text at plan (Err BadLine) plan
  fields_missing other = line_refused found.first (line_comes ∙ rw (ne_eqb (length (fields_of (between text at end))) 3 other))

  module _ {read : SiteRead} (reads : FieldsRead (fields_of (between text at end)) read) {new : Plan} where
    pub site_refused : {why : Refusal} → record { outcome = Err why; plan = new } ≡ handed unplaced_plan plan (entered (sites_in plan) (wanted_read read))
        → LineEntered text at plan (Err why) new
    site_refused {why} is =
        let came = handed-refused plan (entered (sites_in plan) (wanted_read read)) is in
        subst (LineEntered text at plan (Err why)) (sym came.1) (line_refused found.first (line_comes ∙ reads.enters (sites_in plan) ∙ came.0))

    pub site_entered : record { outcome = Ok tt; plan = new } ≡ handed unplaced_plan plan (entered (sites_in plan) (wanted_read read))
        → LineEntered text at plan (Ok end) new
    site_entered is =
        let came = handed-accepted plan (entered (sites_in plan) (wanted_read read)) is in
        subst (LineEntered text at plan (Ok end)) (sym came.2) (line_accepted found (line_comes ∙ reads.enters (sites_in plan) ∙ came.1))
