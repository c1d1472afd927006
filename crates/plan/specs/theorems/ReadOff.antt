-- What is read off a sheet is what was written on it: demand 2's list, demand 3's number and spots. What each way guarantees of them stands in
-- proofs/Guaranteed.
-- Assumes nothing.
use Rattle.std.specs.Prelude.{Bool, true, false, ◌≡◌, refl, List, [], ◌∷◌, ◌++◌, ℕ, ◌≤◌, length, get_or, drop}
use Rattle.std.proofs.Common.{sym, ap, ◌∙◌, subst, append_assoc, arith}
use Rattle.std.proofs.Math.Option.{Option, some, none, none-ne-some}
use Rattle.placing.specs.declared.units.Place.{Place}
use Rattle.placing.specs.declared.units.Side.{Side}
use Rattle.placing.specs.declared.units.Side.TheVariants.{Number, Free}
use Rattle.placing.specs.declared.way.Way.{Way}
use Rattle.placing.specs.rules.Units.{along, X, Y}
use Rattle.placing.specs.rules.Choice.{MeetingPair, Good}
use Rattle.placing.specs.rules.Answer.{Answer, judged_at, side_number, numbered, IsAnswer, is_free, is_number, IsChosen}
use Rattle.placing.specs.deciding.Answer.{is_some}
use Rattle.placing.specs.theorems.Choice.{free_apart}
use Rattle.placing.specs.theorems.Given.{chosen-found, is-chosen-at}
use Rattle.plan.specs.rules.Text.{tab, fields_of, Without, number_in, digits_after, decimal, same_bytes}
use Rattle.plan.specs.rules.List.{Site, places_of, wanted_in, Listed, ByRules, list_line, list_text}
use Rattle.plan.specs.rules.Sheet.{side_word, free_word, side_text, numbered_side, side_in, side_line, site_line, sheet_with, side_on_fields, side_on, number_printed, number_on, spots_on_lines, spots_on, carried_lines, carried, joined, but_last}
use Rattle.plan.specs.deciding.Output.{sheet_of, sheet_at, output_of, output_at}
use Rattle.plan.specs.Demands.{FreeApart}
use Rattle.plan.specs.theorems.Text.{parted-one, parted-more, same-bytes-same, same-bytes-refl, number-decimal, decimal-number, decimal-without, name-without}
use Rattle.plan.specs.theorems.Sites.{listed-in-range}
use Rattle.plan.specs.theorems.Reading.{list_read}
use Rattle.plan.specs.theorems.Sheet.{line_of_each, Lined, no_line, one_more, chosen-lined, answer-listed, side-without, sheet-lines, output-sheet, output-sheet-at}

-- ---- fields

-- The first line's fields are the word side and the side.
side-fields : (side : Side) → fields_of (side_line side) ≡ side_word ∷ side_text side ∷ []
side-fields side =
    parted-more tab side_word (side_text side) (omega arith, (omega arith, (omega arith, (omega arith, tt))))
    ∙ ap (λ (fields : List (List ℕ)). side_word ∷ fields) (parted-one tab (side_text side) (side-without tab (omega arith) side))

-- A site line's fields are name, x, y and corner.
line-fields : {site : Site} (corner : ℕ) → ByRules site
    → fields_of (site_line site corner) ≡ site.name ∷ decimal (along X site.place) ∷ decimal (along Y site.place) ∷ decimal corner ∷ []
unfolding list_line
line-fields {site} corner rules =
    rw (
      append_assoc (site.name ++ (tab ∷ x)) (tab ∷ y) (tab ∷ decimal corner),
      append_assoc site.name (tab ∷ x) ((tab ∷ y) ++ (tab ∷ decimal corner)),
      parted-more tab site.name (x ++ (tab ∷ (y ++ (tab ∷ decimal corner)))) (name-without site.name tab (omega arith) rules.named),
      parted-more tab x (y ++ (tab ∷ decimal corner)) (number (along X site.place)),
      parted-more tab y (decimal corner) (number (along Y site.place)),
      parted-one tab (decimal corner) (number corner),
    )
  where
    x : List ℕ
    x = decimal (along X site.place)

    y : List ℕ
    y = decimal (along Y site.place)

    number : (n : ℕ) → Without tab (decimal n)
    number n = decimal-without n tab (omega arith)

-- ---- the list that a sheet carries

-- A site line without its corner is the site's line of the list.
line-carried : {site : Site} (corner : ℕ) → ByRules site → joined (but_last (fields_of (site_line site corner))) ≡ list_line site
unfolding list_line
line-carried {site} corner rules =
    ap (λ (fields : List (List ℕ)). joined (but_last fields)) (line-fields corner rules)
    ∙ sym (append_assoc site.name (tab ∷ decimal (along X site.place)) (tab ∷ decimal (along Y site.place)))

-- So the site lines carry the list.
lines-carried : {sites : List Site} {corners : List ℕ} → Lined sites corners → carried_lines (line_of_each sites corners) ≡ list_text sites
unfolding carried_lines line_of_each list_text
lines-carried no_line = refl
lines-carried (one_more {site} {sites} {corner} {corners} rules c rest) = rw (line-carried corner rules, lines-carried rest)

-- Demand 2: "Leaving out the first line and, of each other line, the last field with the tab before it gives the list back."
pub sheet-carries : {sites : List Site} (a : Answer) → Lined sites a.corners → carried (sheet_with sites a) ≡ list_text sites
sheet-carries a each =
    ap (λ (lines : List (List ℕ)). carried_lines (drop 1 lines)) (sheet-lines a each) ∙ lines-carried each

-- That list, read again, placed the same way and written, gives the same bytes,
pub sheet-again : (way : Way) (sites : List Site) → Listed sites → 1 ≤ length sites
    → output_of way (carried (sheet_of way sites)) ≡ sheet_of way sites
unfolding sheet_of
sheet-again way sites listed nonempty =
    ap (output_of way) (sheet-carries _ (chosen-lined sites listed (answer-listed way sites listed)))
    ∙ output-sheet way (list_text sites) sites (list_read sites listed) nonempty

-- at a given side when it is placed there again.
pub sheet-again-at : {way : Way} {a : Answer} (sites : List Site) → Listed sites → 1 ≤ length sites → IsChosen way (places_of sites) a
    → output_at way a.side (carried (sheet_with sites a)) ≡ sheet_with sites a
unfolding sheet_at
sheet-again-at {way} {a} sites listed nonempty chosen =
    ap (output_at way a.side) (sheet-carries a (chosen-lined sites listed chosen))
    ∙ output-sheet-at way a.side (list_text sites) sites (list_read sites listed) chosen.given nonempty (ap is_some (chosen-found chosen))
    ∙ ap (sheet_with sites) (sym (is-chosen-at chosen))

-- ---- the side, the number and the spots

-- A side is read as it was written: digits are no word free.
pub side-in-text : (side : Side) → side_in (side_text side) ≡ some side
unfolding number_in digits_after
side-in-text (Number side) = by-test (same_bytes (decimal side.0) free_word) refl
  where
    by-test : (t : Bool) → same_bytes (decimal side.0) free_word ≡ t
        → elim t [ true ↦ some Free | false ↦ numbered_side (number_in (decimal side.0)) ] ≡ some (Number side)
    by-test true is =
        absurd (none-ne-some side.0 (sym (ap number_in (same-bytes-same _ _ is)) ∙ number-decimal side.0))
    by-test false is = ap numbered_side (number-decimal side.0)
side-in-text Free = rw (same-bytes-refl free_word, side_in)

-- A side can be written in one way only: whatever is read as a side is what a sheet prints for it.
pub text_in-side : (text : List ℕ) (side : Side) → side_in text ≡ some side → text ≡ side_text side
text_in-side text side = by-test (same_bytes text free_word) refl (number_in text) refl
  where
    by-test : (t : Bool) → same_bytes text free_word ≡ t → (o : Option ℕ) → number_in text ≡ o
        → elim t [ true ↦ some Free | false ↦ numbered_side o ] ≡ some side → text ≡ side_text side
    by-test true same o read is =
        let it : Free ≡ side = cc in same-bytes-same text free_word same ∙ ap side_text it
    by-test false other none read is = absurd (none-ne-some side is)
    by-test false other (some n) read is =
        let it : Number (record { 0 = n }) ≡ side = cc in decimal-number text n read ∙ ap side_text it

-- The side on a sheet is the one that was written there,
pub side-on-sheet : {sites : List Site} (a : Answer) → Lined sites a.corners → side_on (sheet_with sites a) ≡ some a.side
unfolding same_bytes
side-on-sheet a each =
    ap (λ (lines : List (List ℕ)). side_on_fields (fields_of (get_or lines 0 []))) (sheet-lines a each)
    ∙ ap side_on_fields (side-fields a.side)
    ∙ side-in-text a.side

-- and so its number, where that side is a number.
pub number_read : {sites : List Site} (a : Answer) → Lined sites a.corners → number_on (sheet_with sites a) ≡ side_number a.side
number_read a each = ap number_printed (side-on-sheet a each)

-- The spot on a site line is the site's place.
line-spot : {site : Site} (corner : ℕ) → ByRules site → (wanted_in (fields_of (site_line site corner))).site.place ≡ site.place
line-spot {site} corner rules =
    rw (line-fields corner rules, number-decimal (along X site.place), number-decimal (along Y site.place))

-- So the spots on the site lines are the places.
lines-spots : {sites : List Site} {corners : List ℕ} → Lined sites corners → spots_on_lines (line_of_each sites corners) ≡ places_of sites
unfolding spots_on_lines line_of_each
lines-spots no_line = refl
lines-spots (one_more {site} {sites} {corner} {corners} rules c rest) = rw (line-spot corner rules, lines-spots rest)

-- The spots on a sheet are the places of the sites.
pub spots-on-sheet : {sites : List Site} (a : Answer) → Lined sites a.corners → spots_on (sheet_with sites a) ≡ places_of sites
spots-on-sheet a each = ap (λ (lines : List (List ℕ)). spots_on_lines (drop 1 lines)) (sheet-lines a each) ∙ lines-spots each

-- ---- free

-- Where a sheet prints free, the labels at what was chosen for it meet at no side.
pub sheet-apart : {way : Way} {a : Answer} (sites : List Site) → Listed sites → IsChosen way (places_of sites) a
    → FreeApart (sheet_with sites a) a.corners
sheet-apart {way} {a} sites listed chosen = record { none_meet = λ printed p q. by_side (is-free-side printed) p q }
  where
    is-free-side : side_on (sheet_with sites a) ≡ some Free → a.side ≡ Free
    is-free-side printed =
        let side : some a.side ≡ some Free = sym (side-on-sheet a (chosen-lined sites listed chosen)) ∙ printed in
        cc

    by_side : a.side ≡ Free → (p q : ℕ) → MeetingPair p q (spots_on (sheet_with sites a)) a.corners → ⊥
    by_side is p q =
        let good = subst (λ (side : Side). Good way (judged_at side) (places_of sites) a.corners) is chosen.first.good in
        rw (spots-on-sheet a (chosen-lined sites listed chosen)) (free_apart (listed-in-range listed) good p q)

-- ---- demand 3, and what stands for it above the spot

-- An answer whose side has a number is that number's.
numbered-answer : {way : Way} {ps : List Place} {a : Answer} {number : ℕ} → IsAnswer way ps a → side_number a.side ≡ some number
    → IsAnswer way ps (numbered number a.corners)
numbered-answer (is_free first) is = let z : ◌≡◌ {A = ℕ} 0 1 = cc in absurd (omega arith)
numbered-answer {way} {ps} {number = number} (is_number {h} {cs} none_free least most first above) is =
    let same : h ≡ number = cc in
    subst (λ (n : ℕ). IsAnswer way ps (numbered n cs)) same (is_number none_free least most first above)

-- What holds of the places for every such answer holds of the number and the spots on its sheet.
pub of-sheet : {way : Way} {a : Answer} {sites : List Site} {number : ℕ} (Q : ℕ → List Place → Type 0)
    → ((h : ℕ) (cs : List ℕ) → IsAnswer way (places_of sites) (numbered h cs) → Q h (places_of sites)) → IsAnswer way (places_of sites) a
    → Lined sites a.corners → number_on (sheet_with sites a) ≡ some number → Q number (spots_on (sheet_with sites a))
of-sheet {a = a} {number = number} Q holds is_answer each is =
    subst (Q number) (sym (spots-on-sheet a each)) (holds number a.corners (numbered-answer is_answer (sym (number_read a each) ∙ is)))
