-- Reading a list line after line: what holds of the plan so far and of the text that is left.
-- Assumes nothing.
use Rattle.std.specs.Prelude.{◌≡◌, refl, List, [], ◌∷◌, ◌++◌, ℕ, ◌+◌, ◌≤◌, length, drop, Some, Ok, Err}
use Rattle.std.specs.Prelude as rattle
use Rattle.std.specs.Result.{result_err}
use Rattle.std.proofs.Common.{sym, subst, ◌∙◌, arith, drop_of_length-le}
use Rattle.std.proofs.Math.Path.{ap}
use Rattle.placing.specs.rules.Units.{most_sites}
use Rattle.plan.specs.declared.list.RefusedLine.{RefusedLine}
use Rattle.plan.specs.declared.refusal.Refusal.{Refusal}
use Rattle.plan.specs.declared.plan.Plan.{Plan}
use Rattle.plan.specs.rules.Refusal.{Result, accepted, refused}
use Rattle.plan.specs.rules.Text.{line_feed}
use Rattle.plan.specs.rules.List.{Site, Listed, list_text, TextLine, FirstLine, line_entered}
use Rattle.plan.specs.rules.List.{Reads, end, refused_line, accepted_line}
use Rattle.plan.specs.calls.Plan.{unplaced_plan, sites_in, Valid, is_unplaced}
use Rattle.plan.specs.calls.Answers.{started, counted, handed, read_from}
use Rattle.plan.specs.Demands.{StopTold, at_a_line, at_no_line}
use Rattle.plan.specs.theorems.Sites.{listed-none}
use Rattle.plan.specs.theorems.Reading.{first-line-whole, LineOf, entered-line, list-one-more}
use Rattle.plan.specs.theorems.Reading.{first-refused, reads-are}
use Rattle.plan.specs.theorems.Plan.{sites-unplaced, valid-holding}
use Rattle.plan.specs.code.Line.{line_at, LineEntered, line_refused, line_accepted}
use Rattle.plan.specs.code.CallLaws.{refusal-of}

-- The lines up to a place are entered in a plan, and what reading the rest after them comes to, reading the whole text does.
pub record Reading (text : List ℕ) (plan : Plan) (at : ℕ) : Type 0 where
  pub sites : List Site
  pub held : plan ≡ unplaced_plan sites
  pub listed : Listed sites
  pub within : at ≤ length text
  pub parts : text ≡ list_text sites ++ drop at text
  pub onward : (result : Result (List Site)) → Reads sites (drop at text) result → Reads [] text result

-- What reading line after line comes to: where it stops, at a line that is refused or nowhere.
abbrev pub Stopped : Type 0
Stopped = rattle.Result (Unit {0}) RefusedLine

-- Reading is over: at a line that is refused, or at the text's end.
pub data LinesReads (text : List ℕ) : Stopped → Plan → Type 0 where
  stops : {plan : Plan} {line : TextLine} {stop : RefusedLine} (so_far : Reading text plan stop.at) → stop.number ≡ plan.count + 1
      → FirstLine (drop stop.at text) line → line_entered so_far.sites line ≡ refused stop.why → LinesReads text (Err stop) plan
  ends : {plan : Plan} {at : ℕ} → Reading text plan at → length text ≤ at → LinesReads text (Ok tt) plan

-- At the start, with the empty plan.
pub reading-starts : (text : List ℕ) (plan : Plan) → plan ≡ started → Reading text plan 0
unfolding list_text
reading-starts text plan empty =
    record { sites = []; held = empty; listed = listed-none; within = omega arith; parts = refl; onward = λ result reads. reads }

module _ {text : List ℕ} {plan : Plan} {at : ℕ} (so_far : Reading text plan at) where
  -- The plan so far is one that the calls hand back.
  pub reading-valid : Valid plan
  reading-valid = rw so_far.held (is_unplaced so_far.sites so_far.listed)

  -- It holds at most 240 sites.
  pub reading-few : plan.count ≤ most_sites
  unfolding unplaced_plan
  reading-few = omega (arith, so_far.listed.few, ap (λ (p : Plan). p.count) so_far.held)

  -- At the text's end, every line is accepted.
  reading-all : length text ≤ at → Reads [] text (accepted so_far.sites)
  reading-all past = so_far.onward (accepted so_far.sites) (rw (drop_of_length-le text past) end)

  -- The sites so far are those that the plan holds.
  sites_so_far : sites_in plan ≡ so_far.sites
  sites_so_far = ap sites_in so_far.held ∙ sites-unplaced so_far.sites

  -- The number of the line behind them.
  one_behind : {n : ℕ} → n ≡ counted plan → n + 1 ≡ plan.count + 1
  one_behind count = ap (λ (m : ℕ). m + 1) (count ∙ sym (valid-holding reading-valid).count)

  -- Before it, reading stops at a line that is refused,
  pub reading-refused : {new : Plan} {n : ℕ} {why : Refusal} → n ≡ counted plan → LineEntered text at plan (Err why) new
      → LinesReads text (Err (record { number = n + 1; at = at; why = why })) new
  reading-refused count (line_refused {line} first refuses) =
      stops so_far (one_behind count) first (ap (λ (sites : List Site). line_entered sites line) (sym sites_so_far) ∙ refuses)

  -- and with an accepted one it goes on behind that line.
  pub reading-on : {new : Plan} {last : ℕ} → LineEntered text at plan (Ok last) new → Reading text new (last + 1)
  reading-on (line_accepted {end = last} {next = next} found accepts) =
      let comes : line_entered so_far.sites (line_at text at last) ≡ accepted next =
      ap (λ (sites : List Site). line_entered sites (line_at text at last)) (sym sites_so_far) ∙ accepts in
      let of : LineOf so_far.sites (line_at text at last) next = entered-line comes in
      record {
        sites = next;
        held = refl;
        listed = of.next_listed so_far.listed;
        within = omega (arith, found.inside);
        parts =
            so_far.parts
            ∙ ap (λ (l : List ℕ). list_text so_far.sites ++ l) (first-line-whole found.first refl)
            ∙ ap (λ (l : List ℕ). list_text so_far.sites ++ (l ++ (line_feed ∷ drop (last + 1) text))) of.written
            ∙ list-one-more so_far.sites of.site (drop (last + 1) text)
            ∙ ap (λ (s : List Site). list_text s ++ drop (last + 1) text) (sym of.next_is);
        onward = λ result reads. so_far.onward result (accepted_line found.first comes reads);
      }

-- ---- reading is over

module _ {text : List ℕ} where
  -- Where it stopped at a line, the text is refused, and a refusal hands back an empty plan.
  pub lines-refused : {stop : RefusedLine} {plan fresh : Plan} → LinesReads text (Err stop) plan → fresh ≡ started
      → (refusal-of fresh stop.why ≡ read_from text) × Valid fresh
  lines-refused (stops {stop = stop} so_far number first refuses) empty =
      let all = reads-are (so_far.onward (refused stop.why) (refused_line first refuses)) in
      (ap (λ (p : Plan). refusal-of p stop.why) empty ∙ ap (handed unplaced_plan started) (sym all), subst Valid (sym empty) (is_unplaced [] listed-none))

  -- The line where it stopped is the first refused one,
  lines-stop : {stop : RefusedLine} {plan : Plan} → LinesReads text (Err stop) plan → StopTold text (Some stop)
  unfolding first-refused unplaced_plan
  lines-stop (stops so_far number first refuses) =
      at_a_line (record {
        first = first-refused so_far.sites _ so_far.parts so_far.listed first refuses;
        number_is = number ∙ ap (λ (p : Plan). p.count + 1) so_far.held;
        starts = refl;
      })

  -- and where it stopped nowhere, every line is accepted.
  pub lines-told : {result : Stopped} {plan : Plan} → LinesReads text result plan → StopTold text (result_err result)
  lines-told {result = Err stop} lines = lines-stop lines
  lines-told {result = Ok done} (ends so_far past) = at_no_line (reading-all so_far past)

  -- The whole text is then read into the plan.
  pub lines-done : {plan : Plan} → LinesReads text (Ok tt) plan → (record { outcome = Ok tt; plan = plan } ≡ read_from text) × Valid plan
  lines-done (ends so_far past) = (
    ap (λ (p : Plan). record { outcome = Ok tt; plan = p }) so_far.held
        ∙ ap (handed unplaced_plan started) (sym (reads-are (reading-all so_far past))),
    reading-valid so_far,
  )
