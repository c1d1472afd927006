-- What the page of demands promises of the bytes of a sheet, and so of an output: the theorems that rest on what each way guarantees, demand 3
-- and what stands for it above the spot. They stand here and not in specs/, so that a wrong guarantee is refused where it is not met.
-- Assumes nothing.
use Rattle.std.specs.Prelude.{true, ◌≡◌, refl, List, ◌++◌, ℕ, ◌*◌, ◌≤◌, ◌<◌, length, drop, Ok}
use Rattle.std.proofs.Common.{sym, ap, ◌∙◌, subst, arith}
use Rattle.std.proofs.Math.Option.{some}
use Rattle.placing.specs.declared.units.Side.{Side}
use Rattle.placing.specs.declared.way.Way.{Way}
use Rattle.placing.specs.declared.way.Way.TheVariants.{Usual, Above}
use Rattle.placing.specs.rules.Choice.{Corners, UpperCorners, MeetingPair}
use Rattle.placing.specs.rules.Answer.{Answer, IsAnswer, IsChosen}
use Rattle.placing.specs.deciding.Answer.{answer_of, chosen_at}
use Rattle.placing.specs.theorems.FactorTwo.{answer-twice}
use Rattle.placing.specs.theorems.ExactSide.{answer-exact}
use Rattle.plan.specs.rules.List.{Site, places_of, Listed}
use Rattle.plan.specs.rules.Sheet.{sheet_with, carried}
use Rattle.plan.specs.deciding.Output.{sheet_of, sheet_at, output_of, output_at, output_for}
use Rattle.plan.specs.Demands.{Guarantee, Accepts, RightSheet, PlacedSheet, SheetFor, Answered, is_refusal_line, list_sheet, SheetForAt, AnsweredAt, refusal_at, is_sheet_at}
use Rattle.plan.specs.theorems.Reading.{reads-are, read-listed, read-list}
use Rattle.plan.specs.theorems.Sheet.{Lined, chosen-lined, answer-listed}
use Rattle.placing.specs.theorems.Answer.{answer-is}
use Rattle.plan.specs.rules.Refusal.{Result, accepted}
use Rattle.plan.specs.rules.Calls.{filled_with}
use Rattle.plan.specs.calls.Plan.{sites_in, Valid}
use Rattle.plan.specs.calls.Answers.{sheet_for}
use Rattle.plan.specs.theorems.ReadOff.{sheet-carries, sheet-again, sheet-again-at, sheet-apart, side-on-sheet, number_read, spots-on-sheet, of-sheet}
use Rattle.std.proofs.Math.ListN.{take}
use Rattle.std.proofs.Math.Seq.{take_at}
use borrow.Author.Tests.{le-ltb}
use Rattle.plan.specs.declared.plan.Plan.{Plan}
use Rattle.plan.specs.theorems.Plan.{valid-holding, valid-for}
use Rattle.plan.specs.theorems.Output.{ToPlace, not_placed, to_be_placed, text-to-place, prints-found, ToPlaceAt, not_placed_at, is_placed_at, text-to-place-at}
use Rattle.plan.specs.code.Filling.{WritePromised, promised, placed-some}

-- A sheet with the answer has what its way guarantees: at sides greater than twice its number every rival has two labels that meet; above
-- the spot, at sides greater than the number itself, every rival with corners 1 and 2.
pub guaranteed : (way : Way) {a : Answer} {sites : List Site} → IsAnswer way (places_of sites) a → Lined sites a.corners
    → Guarantee way (sheet_with sites a)
guaranteed Usual is_answer each =
    record {
      rivals_meet = λ number p q is.
          of-sheet (λ h ps. 1 ≤ q → 2 * h * q < p → (corners : List ℕ) → Corners (length ps) corners → MeetingPair p q ps corners)
          (λ h cs answer. answer-twice answer p q) is_answer each is;
    }
guaranteed Above is_answer each =
    record {
      rivals_meet = λ number p q is some-q.
          of-sheet (λ h ps. h * q < p → (corners : List ℕ) → UpperCorners (length ps) corners → MeetingPair p q ps corners)
          (λ h cs answer. answer-exact answer p q) is_answer each is;
    }

-- Demands 2 and 3 of the sheet of some sites, with what stands for the third above the spot.
pub sheet-right : (way : Way) (sites : List Site) → Listed sites → 1 ≤ length sites → RightSheet way sites (sheet_of way sites)
unfolding sheet_of
sheet-right way sites listed some_sites =
    let answer = answer_of way (places_of sites) in
    let is_answer = answer-is way (places_of sites) listed.places_distinct in
    let chosen = answer-listed way sites listed in
    let each = chosen-lined sites listed chosen in
    record {
      answer = answer;
      is_answer = is_answer;
      prints = refl;
      number = number_read answer each;
      spots = spots-on-sheet answer each;
      list = sheet-carries answer each;
      again = sheet-again way sites listed some_sites;
      free_apart = sheet-apart sites listed chosen;
      guarantee = guaranteed way is_answer each;
    }

-- The sheet of some sites at a side.
pub sheet-placed : {way : Way} {a : Answer} (sites : List Site) → Listed sites → 1 ≤ length sites → IsChosen way (places_of sites) a
    → PlacedSheet way sites a.side (sheet_with sites a)
sheet-placed {way} {a} sites listed some_sites chosen =
    let each = chosen-lined sites listed chosen in
    record {
      corners = a.corners;
      is_chosen = chosen;
      prints = refl;
      prints_side = side-on-sheet a each;
      spots = spots-on-sheet a each;
      list = sheet-carries a each;
      again = λ printed is.
          let side : some a.side ≡ some printed = sym (side-on-sheet a each) ∙ is in
          let same : a.side ≡ printed = cc in
          subst (λ (s : Side). output_at way s (carried (sheet_with sites a)) ≡ sheet_with sites a) same (sheet-again-at sites listed some_sites chosen);
      free_apart = sheet-apart sites listed chosen;
      right_at_found = λ prints.
          subst (RightSheet way sites) (sym (prints-found sites listed chosen prints)) (sheet-right way sites listed some_sites);
    }

-- A list that is accepted has that sheet, and the sheet carries the list.
pub sheet-for : (way : Way) (text : List ℕ) (sites : List Site) → Accepts text sites → SheetFor way text (sheet_of way sites)
sheet-for way text sites accepts =
    let listed = read-listed text sites (reads-are accepts.read) in
    record {
      sites = sites;
      accepts = accepts;
      right = sheet-right way sites listed accepts.some_sites;
      gives_back =
          (sheet-right way sites listed accepts.some_sites).list ∙ read-list text sites (reads-are accepts.read);
    }

-- At a side too.
pub sheet-for-at : {way : Way} {a : Answer} (text : List ℕ) (sites : List Site) → Accepts text sites → IsChosen way (places_of sites) a
    → SheetForAt way a.side text (sheet_with sites a)
sheet-for-at text sites accepts chosen =
    let placed = sheet-placed sites (read-listed text sites (reads-are accepts.read)) accepts.some_sites chosen in
    record {
      sites = sites;
      accepts = accepts;
      placed = placed;
      gives_back = placed.list ∙ read-list text sites (reads-are accepts.read);
    }

-- The output for every text is the line with its number, or its sheet.
pub output-answered : (way : Way) (text : List ℕ) → Answered way text (output_of way text)
unfolding output_of
output-answered way text = by-sites (text-to-place text)
  where
    by-sites : {sites : Result (List Site)} → ToPlace text sites → Answered way text (output_for (sheet_of way) sites)
    by-sites (not_placed reason) = is_refusal_line reason refl
    by-sites (to_be_placed {sites} accepts) = list_sheet (sheet-for way text sites accepts)

-- The output for every text at a given side is the line with its number, or its sheet.
pub output-answered-at : (way : Way) (side : Side) (text : List ℕ) → AnsweredAt way side text (output_at way side text)
unfolding output_at sheet_at chosen_at
output-answered-at way side text = by-sites (text-to-place-at way side text)
  where
    by-sites : {sites : Result (List Site)} → ToPlaceAt way side text sites → AnsweredAt way side text (output_for (sheet_at way side) sites)
    by-sites (not_placed_at reason) = refusal_at reason refl
    by-sites (is_placed_at {sites} accepts chosen) = is_sheet_at (sheet-for-at text sites accepts chosen)

-- ---- writing

module _ {plan : Plan} (valid : Valid plan) (is-placed : plan.placed ≡ true) {buffer : List ℕ} where
  -- The sheet was made in an array of its own, and its bytes are copied.
  pub write-copied : {text copy : List ℕ} {n : ℕ} → text ≡ sheet_for plan → n ≡ length text
      → n ≤ length buffer → copy ≡ text → WritePromised plan buffer (Ok n) (copy ++ drop n buffer)
  unfolding sites_in sheet_at chosen_at
  write-copied {copy = copy} {n} text_is size-is room is =
      let sheet = sheet_for plan in
      let size : length sheet ≡ n = sym (size-is ∙ ap length text_is) in
      let same : copy ≡ sheet = is ∙ text_is in
      let front : copy ++ drop n buffer ≡ filled_with sheet buffer = λ k. same k ++ drop (sym size k) buffer in
      let taken : take n (copy ++ drop n buffer) ≡ sheet = ap (take n) front ∙ take_at sheet (drop (length sheet) buffer) n size in
      promised plan buffer (accepted n) (rw (is-placed, le-ltb (length buffer) (length sheet) (omega arith)) (ap accepted size)) front
      (subst (PlacedSheet plan.way (sites_in plan) plan.side) (sym taken)
      (sheet-placed (sites_in plan) (valid-holding valid).listed (placed-some valid is-placed) (valid-for valid is-placed)))
