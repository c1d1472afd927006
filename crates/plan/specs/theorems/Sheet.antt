-- Laws of a sheet: what its answer's part is, its lines, and how long it is.
-- Assumes nothing.
use Rattle.std.specs.Prelude.{◌≡◌, refl, true, List, [], ◌∷◌, ℕ, suc, ◌+◌, ◌*◌, ◌≤◌, ◌<◌, length, get_or}
use Rattle.std.proofs.Common.{ap, ◌∙◌, arith, ne_eqb, length-append}
use Rattle.std.proofs.lemmas.List.{length-map}
use Rattle.placing.specs.declared.units.Place.{Place}
use Rattle.placing.specs.declared.units.Side.{Side}
use Rattle.placing.specs.declared.units.Side.TheVariants.{Number, Free}
use Rattle.placing.specs.declared.way.Way.{Way}
use Rattle.placing.specs.declared.way.Way.TheVariants.{Usual, Above}
use Rattle.placing.specs.rules.Units.{free_side, along, X, Y}
use Rattle.placing.specs.rules.Corner.{Corner}
use Rattle.placing.specs.rules.Crowd.{Crowded}
use Rattle.placing.specs.rules.Choice.{Corners, corner_at, Allowed, uncrowded, upper, Good}
use Rattle.placing.specs.rules.Answer.{Answer, is_side, IsAnswer, is_free, is_number, IsChosen}
use Rattle.placing.specs.deciding.Answer.{answer_of}
use Rattle.placing.specs.theorems.Answer.{answer-is}
use Rattle.placing.specs.theorems.Given.{number-range, answer-chosen}
use Rattle.plan.specs.rules.Text.{tab, line_feed, Without, decimal}
use Rattle.plan.specs.rules.List.{Site, places_of, place_of, no_site, Listed, ByRules, list_line}
use Rattle.plan.specs.rules.Sheet.{side_word, side_text, side_line, site_line, site_lines, sheet_with, lines_of}
use Rattle.plan.specs.rules.Calls.{to_place, to_place_at}
use Rattle.plan.specs.deciding.Output.{sheet_of, sheet_at, output_for, output_of, exists_at, output_at}
use Rattle.plan.specs.rules.Refusal.{Result, accepted}
use Rattle.plan.specs.deciding.Reading.{read_list}
use Rattle.plan.specs.theorems.Text.{without-append, lines_more, lines_none, decimal-without, decimal-short, decimal-some, decimal_digit, name-short, name-some}
use Rattle.plan.specs.calls.Lengths.{most_digits, longest_site_line, shortest_site_line, longest_sheet, shortest_sheet, shortest_sheet_at}
use Rattle.plan.specs.theorems.Reading.{line-without}

-- ---- what the side and the corners on a sheet are

-- What is chosen at a side is one corner for each site.
pub chosen-corners : {way : Way} {ps : List Place} {a : Answer} → IsChosen way ps a → Corners (length ps) a.corners
chosen-corners chosen = chosen.first.good.corners

-- A side that can be given is written in at most five bytes,
side-short : (side : Side) → is_side side ≡ true → length (side_text side) ≤ most_digits
side-short (Number side) given = decimal-short side.0 (omega (arith, (number-range side.0 given).1))
side-short Free given = omega arith

-- in one at least,
side-some : (side : Side) → 1 ≤ length (side_text side)
side-some (Number side) = decimal-some side.0
side-some Free = omega arith

-- and none of them is below the digits: no tab and no line feed.
pub side-without : (b : ℕ) → b < 48 → (side : Side) → Without b (side_text side)
side-without b below (Number side) = decimal-without side.0 b below
side-without b below Free = (omega arith, (omega arith, (omega arith, (omega arith, tt))))

-- A label that is alone is good at every side.
alone-good : (way : Way) (h : ℕ) (p : Place) → Good way h (p ∷ []) (1 ∷ [])
alone-good way h p =
    record {
      corners = record { one_each = refl; corner = λ i listed. rw (first i listed) (record { least = omega arith; most = omega arith }) };
      allowed = λ i listed. rw (first i listed) (allowed way);
      apart = λ pair. omega (arith, pair.first_listed, pair.second_listed, pair.different);
    }
  where
    first : (i : ℕ) → i < 1 → i ≡ 0
    first i listed = omega arith

    allowed : (way : Way) → Allowed way h (p ∷ []) 0 1
    allowed Usual = uncrowded (λ (crowded : Crowded h (p ∷ []) 0 1). crowded.different (omega (arith, crowded.listed)))
    allowed Above = upper {c = 1} (omega arith)

-- So the side of one site is the word free.
alone-free : {way : Way} {p : Place} {a : Answer} → IsAnswer way (p ∷ []) a → 4 ≤ length (side_text a.side)
alone-free (is_free first) = omega arith
alone-free {way} {p} (is_number none_free least most first above) = absurd (none_free (1 ∷ []) (alone-good way free_side p))

-- ---- the lines of a sheet

-- Sites by the rules, and a corner for each.
pub data Lined : List Site → List ℕ → Type 0 where
  no_line : Lined [] []
  one_more : {site : Site} {sites : List Site} {corner : ℕ} {corners : List ℕ} → ByRules site → Corner corner → Lined sites corners
      → Lined (site ∷ sites) (corner ∷ corners)

-- They are such from their numbers in list order.
lined : (sites : List Site) (corners : List ℕ) → length corners ≡ length sites
    → ((i : ℕ) → i < length sites → ByRules (get_or sites i no_site)) → ((i : ℕ) → i < length sites → Corner (corner_at corners i))
    → Lined sites corners
lined [] [] same rules corner = no_line
lined [] (c ∷ corners) same rules corner = absurd (omega arith)
lined (site ∷ sites) [] same rules corner = absurd (omega arith)
lined (site ∷ sites) (c ∷ corners) same rules corner =
    one_more (rules 0 (omega arith)) (corner 0 (omega arith))
    (lined sites corners (omega arith) (λ i l. rules (suc i) (omega arith)) (λ i l. corner (suc i) (omega arith)))

-- The sites of a plan with the corners that are chosen for them.
pub chosen-lined : {way : Way} {a : Answer} (sites : List Site) → Listed sites → IsChosen way (places_of sites) a → Lined sites a.corners
chosen-lined {a = a} sites listed chosen =
    lined sites a.corners (corners.one_each ∙ length-map sites place_of) listed.by_rules
    (λ i below. corners.corner i (omega (arith, length-map sites place_of)))
  where
    corners : Corners (length (places_of sites)) a.corners
    corners = chosen-corners chosen

-- Those of the answer are.
pub answer-listed : (way : Way) (sites : List Site) → Listed sites → IsChosen way (places_of sites) (answer_of way (places_of sites))
answer-listed way sites listed = answer-chosen (answer-is way (places_of sites) listed.places_distinct)

-- One line for each site.
unfoldable pub line_of_each : List Site → List ℕ → List (List ℕ)
line_of_each [] corners = []
line_of_each (site ∷ sites) [] = []
line_of_each (site ∷ sites) (corner ∷ corners) = site_line site corner ∷ line_of_each sites corners

-- No line has a line feed in it: not the first,
side-line-whole : (side : Side) → Without line_feed (side_line side)
side-line-whole side =
    without-append line_feed side_word (tab ∷ side_text side) (omega arith, (omega arith, (omega arith, (omega arith, tt))))
    (omega arith, side-without line_feed (omega arith) side)

-- and not that of a site.
site-line-whole : {site : Site} (corner : ℕ) → ByRules site → Without line_feed (site_line site corner)
site-line-whole {site} corner rules =
    without-append line_feed (list_line site) (tab ∷ decimal corner) (line-without site rules)
    (omega arith, decimal-without corner line_feed (omega arith))

-- The lines under the first are those of the sites.
site-lines : {sites : List Site} {corners : List ℕ} → Lined sites corners → lines_of (site_lines sites corners) ≡ line_of_each sites corners
unfolding site_lines line_of_each
site-lines no_line = lines_none
site-lines (one_more {site} {sites} {corner} {corners} rules c rest) =
    lines_more (site_line site corner) (site_lines sites corners) (site-line-whole corner rules)
    ∙ ap (λ (l : List (List ℕ)). site_line site corner ∷ l) (site-lines rest)

-- A sheet's lines are its side's, then one for each site.
pub sheet-lines : {sites : List Site} (a : Answer) → Lined sites a.corners
    → lines_of (sheet_with sites a) ≡ side_line a.side ∷ line_of_each sites a.corners
unfolding sheet_with
sheet-lines {sites} a each =
    lines_more (side_line a.side) (site_lines sites a.corners) (side-line-whole a.side)
    ∙ ap (λ (l : List (List ℕ)). side_line a.side ∷ l) (site-lines each)

-- ---- how long a sheet is

-- How many bytes the line of a site has, with its line feed.
record Sized (n : ℕ) : Type 0 where
  least : shortest_site_line ≤ n + 1
  most : n + 1 ≤ longest_site_line

-- The names, coordinates and corners by the rules make it so.
line-sized : {site : Site} {corner : ℕ} → ByRules site → Corner corner → Sized (length (site_line site corner))
unfolding list_line
line-sized {site} {corner} rules c =
    let one : length (decimal corner) ≡ 1 = ap length (decimal_digit corner (omega arith)) in
    let x = decimal-short (along X site.place) (omega arith) in
    let y = decimal-short (along Y site.place) (omega arith) in
    let x-some = decimal-some (along X site.place) in
    let y-some = decimal-some (along Y site.place) in
    let name = name-short site.name rules.named in
    let name-is-some = name-some site.name rules.named in
    record { least = simp length-append (omega arith); most = simp length-append (omega arith) }

-- So the lines of the sites have at most 23 bytes each, with their line feeds,
lines-longest : {sites : List Site} {corners : List ℕ} → Lined sites corners → length (site_lines sites corners) ≤ longest_site_line * length sites
unfolding site_lines
lines-longest no_line = omega arith
lines-longest (one_more {site} {sites} {corner} {corners} rules c rest) =
    let line = line-sized rules c in
    let more = lines-longest rest in
    omega (arith, length-append (site_line site corner) (line_feed ∷ site_lines sites corners))

-- and at least 8.
lines-shortest : {sites : List Site} {corners : List ℕ} → Lined sites corners → shortest_site_line * length sites ≤ length (site_lines sites corners)
unfolding site_lines
lines-shortest no_line = omega arith
lines-shortest (one_more {site} {sites} {corner} {corners} rules c rest) =
    let line = line-sized rules c in
    let more = lines-shortest rest in
    omega (arith, length-append (site_line site corner) (line_feed ∷ site_lines sites corners))

-- The longest sheet.
pub sheet-longest : {way : Way} {a : Answer} (sites : List Site) → Listed sites → IsChosen way (places_of sites) a
    → length (sheet_with sites a) ≤ longest_sheet
unfolding sheet_with
sheet-longest {a = a} sites listed chosen =
    let side = side-short a.side chosen.given in
    let lines = lines-longest (chosen-lined sites listed chosen) in
    simp length-append (omega (arith, listed.few))

-- The shortest.
pub sheet-shortest-at : {way : Way} {a : Answer} (sites : List Site) → Listed sites → 1 ≤ length sites → IsChosen way (places_of sites) a
    → shortest_sheet_at ≤ length (sheet_with sites a)
unfolding sheet_with
sheet-shortest-at {a = a} sites listed nonempty chosen =
    let side = side-some a.side in
    let lines = lines-shortest (chosen-lined sites listed chosen) in
    simp length-append (omega arith)

-- At the side found, one site is free, and more sites have more lines.
pub sheet-shortest : (way : Way) (sites : List Site) → Listed sites → 1 ≤ length sites → shortest_sheet ≤ length (sheet_of way sites)
unfolding sheet_of sheet_with
sheet-shortest way [] listed nonempty = absurd (omega arith)
sheet-shortest way (site ∷ []) listed nonempty =
    let side = alone-free (answer-is way (places_of (site ∷ [])) listed.places_distinct) in
    let lines = lines-shortest (chosen-lined (site ∷ []) listed (answer-listed way (site ∷ []) listed)) in
    simp length-append (omega arith)
sheet-shortest way (site ∷ next ∷ sites) listed nonempty =
    let side = side-some (answer_of way (places_of (site ∷ next ∷ sites))).side in
    let lines = lines-shortest (chosen-lined (site ∷ next ∷ sites) listed (answer-listed way (site ∷ next ∷ sites) listed)) in
    simp length-append (omega arith)

-- ---- the output

-- A list of some sites is placed.
pub some-to-place : (sites : List Site) → 1 ≤ length sites → to_place (accepted sites) ≡ accepted sites
some-to-place sites nonempty = rw (ne_eqb (length sites) 0 (λ zero. omega arith))

-- So the output for a text that is read as some sites is their sheet.
pub output-sheet : (way : Way) (text : List ℕ) (sites : List Site) → read_list text ≡ accepted sites → 1 ≤ length sites
    → output_of way text ≡ sheet_of way sites
unfolding output_of
output-sheet way text sites read nonempty =
    ap (λ (r : Result (List Site)). output_for (sheet_of way) (to_place r)) read ∙ ap (output_for (sheet_of way)) (some-to-place sites nonempty)

-- At a given side that has a good choice likewise.
pub some-to-place-at : (way : Way) (side : Side) (sites : List Site) → is_side side ≡ true → 1 ≤ length sites
    → exists_at way side sites ≡ true → to_place_at side (exists_at way side) (accepted sites) ≡ accepted sites
some-to-place-at way side sites given nonempty there = rw (given, ne_eqb (length sites) 0 (λ zero. omega arith), there)

pub output-sheet-at : (way : Way) (side : Side) (text : List ℕ) (sites : List Site) → read_list text ≡ accepted sites → is_side side ≡ true
    → 1 ≤ length sites → exists_at way side sites ≡ true → output_at way side text ≡ sheet_at way side sites
unfolding output_at
output-sheet-at way side text sites read given nonempty there =
    ap (λ (r : Result (List Site)). output_for (sheet_at way side) (to_place_at side (exists_at way side) r)) read
    ∙ ap (output_for (sheet_at way side)) (some-to-place-at way side sites given nonempty there)
