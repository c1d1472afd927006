-- Writing a sheet line by line: what a placed plan holds at each site, and the lines of its first sites.
-- Assumes nothing.
use Rattle.std.specs.Prelude.{◌≡◌, refl, true, ℕ, zero, suc, ◌+◌, ◌*◌, ◌≤◌, ◌<◌, length, get_or, take}
use Rattle.std.proofs.Common.{sym, ◌∙◌, not-suc-le-zero, le_of_suc-le-suc, add-one, arith, length-take}
use Rattle.std.proofs.Math.Path.{ap, ap₂}
use Rattle.std.proofs.lemmas.Bool.{false≢true}
use mathlib.Core.List.{List, [], ◌∷◌, ◌++◌, map, append_assoc, append-nil}
use Rattle.std.proofs.Math.ListN.{length-append, length-map, get_or-append}
use Rattle.std.proofs.Math.Seq.{take-length}
use Rattle.placing.specs.declared.units.Place.{Place}
use Rattle.placing.specs.declared.units.Side.{Side}
use Rattle.placing.specs.declared.units.Side.TheVariants.{Number, Free}
use Rattle.placing.specs.declared.way.Way.{Way}
use Rattle.placing.specs.rules.Units.{OnPlan, nowhere, along, X, Y, most_sites}
use Rattle.placing.specs.rules.Corner.{Corner}
use Rattle.placing.specs.rules.Choice.{Corners}
use Rattle.placing.specs.rules.Answer.{Answer, is_side, IsChosen}
use Rattle.placing.specs.theorems.Given.{number-range, is-chosen-at}
use Rattle.plan.specs.declared.name.Name.{Name}
use Rattle.plan.specs.declared.plan.Plan.{Plan}
use Rattle.plan.specs.rules.Text.{tab, line_feed, decimal, most_name_bytes}
use Rattle.plan.specs.rules.List.{Site, place_of, places_of, no_site, Listed, list_line}
use Rattle.plan.specs.rules.Sheet.{side_text, site_lines, sheet_with}
use Rattle.plan.specs.deciding.Output.{sheet_at}
use Rattle.plan.specs.calls.Plan.{name_held, name_record, placed_with, unplaced_plan, sites_in, Valid, is_placed, is_unplaced}
use Rattle.plan.specs.theorems.Text.{decimal-short, decimal_digit, name-short}
use Rattle.plan.specs.calls.Answers.{sheet_for}
use Rattle.plan.specs.theorems.Sheet.{chosen-corners}
use Rattle.plan.specs.calls.Lengths.{longest_side_line, longest_site_line, longest_sheet}
use Rattle.plan.specs.theorems.Plan.{sites-placed}
use Rattle.plan.specs.code.SheetParts.{side_line_ended, site_line_ended, SideSmall, past_names, site_held, line_held}
use Rattle.plan.specs.code.Taken.{site_of}
use Rattle.plan.specs.code.Entering.{name-held}

-- ---- the lengths of the parts of a line

-- A side is at most five bytes.
pub side-text-short : (side : Side) → SideSmall side → length (side_text side) ≤ 5
side-text-short (Number h) small = decimal-short h.0 (omega arith)
side-text-short Free small = omega arith

-- A name is no longer than its record says.
pub name-text-short : (name : Name) → name.len ≤ most_name_bytes → length (name_held name) ≤ most_name_bytes
name-text-short name short = rw length-take (omega arith)

-- A corner is one byte.
pub corner-text-short : (corner : ℕ) → Corner corner → length (decimal corner) ≤ 1
corner-text-short corner is = rw (decimal_digit corner (omega arith)) (omega arith)

-- So the first line is at most 11 bytes,
pub side-line-short : (side : Side) → SideSmall side → length (side_line_ended side) ≤ longest_side_line
side-line-short side small = let short = side-text-short side small in simp length-append (omega arith)

-- and the line of a site at most 23.
site-line-short : (name : Name) (place : Place) (corner : ℕ) → name.len ≤ most_name_bytes → OnPlan place → Corner corner
    → length (site_line_ended (site_of name place) corner) ≤ longest_site_line
unfolding list_line
site-line-short name place corner short on is =
    let name-short = name-text-short name short in
    let x-short = decimal-short (along X place) (omega arith) in
    let y-short = decimal-short (along Y place) (omega arith) in
    let corner-short = corner-text-short corner is in
    simp length-append (omega arith)

-- ---- the lines of a sheet

-- The lines of one site more.
site-lines-more : (sites : List Site) (corners : List ℕ) (i : ℕ) → i < length sites → i < length corners
    → site_lines (take (suc i) sites) corners ≡ site_lines (take i sites) corners ++ site_line_ended (get_or sites i no_site) (get_or corners i 0)
unfolding site_lines
site-lines-more [] corners i in-sites in-corners = absurd (not-suc-le-zero in-sites)
site-lines-more (site ∷ sites) [] i in-sites in-corners = absurd (not-suc-le-zero in-corners)
site-lines-more (site ∷ sites) (corner ∷ corners) zero in-sites in-corners = refl
site-lines-more (site ∷ sites) (corner ∷ corners) (suc i) in-sites in-corners =
    rw (site-lines-more sites corners i (le_of_suc-le-suc in-sites) (le_of_suc-le-suc in-corners), site_lines)
    (sym (append_assoc (list_line site ++ (tab ∷ decimal corner)) (line_feed ∷ site_lines (take i sites) corners)
    (site_line_ended (get_or sites i no_site) (get_or corners i 0))))

-- Corners past the last site do not matter.
lines-past : (sites : List Site) (corners more : List ℕ) → length sites ≤ length corners
    → site_lines sites (corners ++ more) ≡ site_lines sites corners
unfolding site_lines
lines-past [] corners more enough = refl
lines-past (site ∷ sites) [] more enough = absurd (not-suc-le-zero enough)
lines-past (site ∷ sites) (corner ∷ corners) more enough =
    rw (lines-past sites corners more (le_of_suc-le-suc enough), site_lines)

-- A sheet is its first line and then the others.
sheet-of-lines : (sites : List Site) (answer : Answer)
    → side_line_ended answer.side ++ site_lines sites answer.corners ≡ sheet_with sites answer
unfolding sheet_with
sheet-of-lines sites answer = simp append_assoc

-- The line of a site behind a text, part by part.
pub line-parts : (text : List ℕ) (site : Site) (corner : ℕ)
    → text ++ site.name ++ (tab ∷ []) ++ decimal (along X site.place) ++ (tab ∷ []) ++ decimal (along Y site.place) ++ (tab ∷ []) ++ decimal corner
    ++ (line_feed ∷ [])
    ≡ text ++ site_line_ended site corner
unfolding list_line
line-parts text site corner = simp append_assoc

-- ---- a placed plan, site by site

-- The lines of the first i sites of a plan.
pub lines_to : Plan → ℕ → List ℕ
lines_to plan i = site_lines (take i (sites_in plan)) plan.corners

-- What a sheet is written from: each site and corner fits its line, each line adds to those before it, and all are the sheet.
pub record Printable (plan : Plan) : Type 0 where
  pub few : plan.count ≤ most_sites
  pub side_small : SideSmall plan.side
  pub name_fits : (i : ℕ) → i < plan.count → (get_or plan.names i past_names).len ≤ most_name_bytes
  pub on_plan : (i : ℕ) → i < plan.count → OnPlan (get_or plan.places i nowhere)
  pub corner : (i : ℕ) → i < plan.count → Corner (get_or plan.corners i 0)
  pub no_line : lines_to plan 0 ≡ []
  pub one_line : (i : ℕ) → i < plan.count → lines_to plan (suc i) ≡ lines_to plan i ++ line_held plan i
  pub whole : side_line_ended plan.side ++ lines_to plan plan.count ≡ sheet_for plan

-- What a list's elements were made to, with more behind it, at the number of an element.
held_at : {A B : Type 0} (f : A → B) (l : List A) (more : List B) (i : ℕ) (d : B) (e : A) → i < length l
    → get_or (map f l ++ more) i d ≡ f (get_or l i e)
held_at f [] more i d e listed = absurd (not-suc-le-zero listed)
held_at f (a ∷ l) more zero d e listed = refl
held_at f (a ∷ l) more (suc i) d e listed = held_at f l more i d e (le_of_suc-le-suc listed)

-- A side that can be given is one that a sheet can print.
given-small : (side : Side) → is_side side ≡ true → SideSmall side
given-small (Number side) given = (number-range side.0 given).1
given-small Free given = tt

module _ (sites : List Site) (way : Way) (answer : Answer) (listed : Listed sites) (chosen : IsChosen way (places_of sites) answer) where
  -- The name's record that is held at a number,
  name-at : (i : ℕ) → i < length sites → get_or (placed_with sites way answer).names i past_names ≡ name_record (get_or sites i no_site)
  unfolding placed_with
  name-at i below = held_at name_record sites _ i past_names no_site below

  -- the place,
  place-held : (i : ℕ) → i < length sites → get_or (placed_with sites way answer).places i nowhere ≡ (get_or sites i no_site).place
  unfolding placed_with
  place-held i below = held_at place_of sites _ i nowhere no_site below

  -- and so the site.
  site-held : (i : ℕ) → i < length sites → site_held (placed_with sites way answer) i ≡ get_or sites i no_site
  site-held i below =
      ap₂ site_of (name-at i below) (place-held i below)
      ∙ ap (λ (name : List ℕ). record { name = name; place = (get_or sites i no_site).place })
      (name-held (get_or sites i no_site).name)

  -- The corners chosen, one for each site.
  held-corners : Corners (length (places_of sites)) answer.corners
  held-corners = chosen-corners chosen

  -- So there are as many as sites,
  corners-enough : length answer.corners ≡ length sites
  corners-enough = held-corners.one_each ∙ length-map sites place_of

  -- and the one that is held at a number is a corner.
  corner-held : (i : ℕ) → i < length sites → Corner (get_or (placed_with sites way answer).corners i 0)
  unfolding placed_with
  corner-held i below =
      rw (get_or-append answer.corners _ 0 i (omega (arith, corners-enough)))
      (held-corners.corner i (omega (arith, length-map sites place_of)))

  -- The place at a number is in range.
  on-plan-held : (i : ℕ) → i < length sites → OnPlan (get_or (placed_with sites way answer).places i nowhere)
  on-plan-held i below = rw (place-held i below) (listed.by_rules i below).on_plan

  -- The lines of the first sites are those of the list.
  lines-held : (i : ℕ) → lines_to (placed_with sites way answer) i ≡ site_lines (take i sites) (placed_with sites way answer).corners
  unfolding lines_to
  lines-held i = ap (λ (l : List Site). site_lines (take i l) (placed_with sites way answer).corners) (sites-placed sites way answer)

  -- One site more is one line more,
  one-line-held : (i : ℕ) → i < length sites
      → lines_to (placed_with sites way answer) (suc i) ≡ lines_to (placed_with sites way answer) i
      ++ site_line_ended (site_held (placed_with sites way answer) i) (get_or (placed_with sites way answer).corners i 0)
  unfolding placed_with
  one-line-held i below =
      lines-held (suc i)
      ∙ site-lines-more sites (placed_with sites way answer).corners i below
      (simp length-append (omega (arith, corners-enough)))
      ∙ ap₂ (λ (lines : List ℕ) (site : Site). lines ++ site_line_ended site (get_or (placed_with sites way answer).corners i 0)) (sym (lines-held i))
      (sym (site-held i below))

  -- and all lines, with the first, are the sheet.
  whole-held : side_line_ended (placed_with sites way answer).side ++ lines_to (placed_with sites way answer) (length sites) ≡ sheet_for (placed_with sites way answer)
  unfolding placed_with sheet_at
  whole-held =
      ap (λ (lines : List ℕ). side_line_ended (placed_with sites way answer).side ++ lines)
      (lines-held (length sites)
      ∙ ap (λ (l : List Site). site_lines l (placed_with sites way answer).corners) (take-length sites)
      ∙ lines-past sites answer.corners _ (omega (arith, corners-enough)))
      ∙ sheet-of-lines sites answer
      ∙ ap (sheet_with sites) (is-chosen-at chosen)
      ∙ ap (sheet_at way answer.side) (sym (sites-placed sites way answer))

  -- So the plan of some sites can be printed.
  placed-printable : Printable (placed_with sites way answer)
  unfolding placed_with lines_to site_lines
  placed-printable =
      record {
        few = listed.few;
        side_small = given-small answer.side chosen.given;
        name_fits = λ i below. rw (name-at i below) (name-short (get_or sites i no_site).name (listed.by_rules i below).named);
        on_plan = on-plan-held;
        corner = corner-held;
        no_line = refl;
        one_line = one-line-held;
        whole = whole-held;
      }

-- A valid plan that is placed can be printed.
pub printable : {plan : Plan} → Valid plan → plan.placed ≡ true → Printable plan
unfolding unplaced_plan
printable (is_unplaced sites listed) placed = absurd (false≢true placed)
printable (is_placed sites way answer listed nonempty chosen) placed = placed-printable sites way answer listed chosen

-- ---- the lines written so far

-- After the first line and the lines of the first i sites: no more than 23 bytes for each.
pub record Composed (plan : Plan) (page : List ℕ) (i : ℕ) : Type 0 where
  pub counted : i ≤ plan.count
  pub near : length page ≤ longest_side_line + longest_site_line * i
  pub lines : page ≡ side_line_ended plan.side ++ lines_to plan i

-- Behind the first line.
pub composed-start : {plan : Plan} {page : List ℕ} → Printable plan → page ≡ [] ++ side_line_ended plan.side → Composed plan page 0
composed-start {plan} print is =
    record {
      counted = omega arith;
      near = omega (arith, ap length is, side-line-short plan.side print.side_small);
      lines = is ∙ sym (append-nil (side_line_ended plan.side)) ∙ ap (λ (l : List ℕ). side_line_ended plan.side ++ l) (sym print.no_line);
    }

module _ {plan : Plan} {page : List ℕ} {i : ℕ} (print : Printable plan) (so_far : Composed plan page i) where
  -- There is room for the next line,
  pub composed-room : i < plan.count → length page + longest_site_line ≤ longest_sheet
  composed-room more = omega (arith, so_far.near, print.few)

  -- with it there is one line more,
  pub composed-more : {later : List ℕ} → i < plan.count → later ≡ page ++ line_held plan i → Composed plan later (i + 1)
  composed-more more is =
      let short = site-line-short (get_or plan.names i past_names) (get_or plan.places i nowhere) (get_or plan.corners i 0)
      (print.name_fits i more) (print.on_plan i more) (print.corner i more) in
      record {
        counted = omega arith;
        near = omega (arith, so_far.near, short, ap length is, length-append page (line_held plan i));
        lines =
            is ∙ ap (λ (l : List ℕ). l ++ line_held plan i) so_far.lines
            ∙ append_assoc (side_line_ended plan.side) (lines_to plan i) (line_held plan i)
            ∙ rw (add-one i, print.one_line i more) refl;
      }

  -- and after the last line the sheet is written.
  pub composed-end : plan.count ≤ i → page ≡ sheet_for plan
  composed-end done =
      let last : i ≡ plan.count = omega (arith, so_far.counted) in
      so_far.lines ∙ ap (λ (k : ℕ). side_line_ended plan.side ++ lines_to plan k) last ∙ print.whole
