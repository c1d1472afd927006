-- What demand 3, and what stands for it above the spot, means in the picture: the theorems that take it as a hypothesis. They stand here and not
-- in specs/, as those of `Guaranteed` do.
-- Assumes nothing.
use Rattle.std.specs.Prelude.{◌≡◌, List, ℕ, ◌*◌, ◌≤◌, ◌<◌, length, take, Ok}
use Rattle.std.proofs.Common.{◌∙◌, ap, subst, arith}
use Rattle.std.proofs.Math.Option.{some}
use Rattle.placing.specs.declared.units.Place.{Place}
use Rattle.placing.specs.declared.units.Side.{Side}
use Rattle.placing.specs.declared.way.Way.{Way}
use Rattle.placing.specs.declared.way.Way.TheVariants.{Usual, Above}
use Rattle.placing.specs.rules.Units.{Distinct}
use Rattle.placing.specs.rules.Choice.{Corners, UpperCorners}
use Rattle.placing.specs.rules.Answer.{Answer, numbered, side_number, IsAnswer}
use Rattle.placing.specs.theorems.Answer.{answer-unique}
use Rattle.plan.specs.rules.List.{Site, Listed, places_of}
use Rattle.plan.specs.rules.Sheet.{number_on, spots_on}
use Rattle.plan.specs.Demands.{NoRival, NoRivalAbove, Guarantee, RightSheet, PrintsFound, PlacedSheet, SheetWritten}
use Rattle.plan.specs.theorems.Rivals.{CommonPoint, meeting-common, Rival}

-- So do two labels of every rival, for every number that the sheet prints and every p/q greater than twice it. Demand 3 is a hypothesis here:
-- with a premise more it would not be enough.
pub rivals-common : {sheet : List ℕ} → NoRival sheet → Distinct (spots_on sheet) → (number p q : ℕ) → number_on sheet ≡ some number → 1 ≤ q
    → 2 * number * q < p → (corners : List ℕ) → Corners (length (spots_on sheet)) corners → CommonPoint p q (spots_on sheet) corners
rivals-common no_rival spots number p q printed some-q above corners each =
    meeting-common (omega arith) some-q spots (no_rival.rivals_meet number p q printed some-q above corners each)

-- The same above the spot, for every p/q greater than the number and corners 1 and 2.
pub rivals-common-above : {sheet : List ℕ} → NoRivalAbove sheet → Distinct (spots_on sheet) → (number p q : ℕ) → number_on sheet ≡ some number
    → 1 ≤ q → number * q < p → (corners : List ℕ) → UpperCorners (length (spots_on sheet)) corners → CommonPoint p q (spots_on sheet) corners
rivals-common-above no_rival spots number p q printed some-q above corners each =
    meeting-common (omega arith) some-q spots (no_rival.rivals_meet number p q printed some-q above corners each)

-- By each way two labels of every rival cover a common point.
guaranteed-common : (way : Way) (sheet : List ℕ) → Guarantee way sheet → Distinct (spots_on sheet) → (number p q : ℕ)
    → number_on sheet ≡ some number → 1 ≤ q → (corners : List ℕ) → Rival way number p q (length (spots_on sheet)) corners
    → CommonPoint p q (spots_on sheet) corners
guaranteed-common Usual sheet guarantee spots number p q printed some-q corners rival =
    rivals-common guarantee spots number p q printed some-q rival.0 corners rival.1
guaranteed-common Above sheet guarantee spots number p q printed some-q corners rival =
    rivals-common-above guarantee spots number p q printed some-q rival.0 corners rival.1

-- The same from the answer's own number: over a right sheet for some sites, every rival of the number of their answer draws two labels that
-- cover a common point.
pub right-common : {way : Way} {sites : List Site} {sheet : List ℕ} → Listed sites → RightSheet way sites sheet → {h : ℕ} {cs : List ℕ}
    → IsAnswer way (places_of sites) (numbered h cs) → (p q : ℕ) → 1 ≤ q → (corners : List ℕ)
    → Rival way h p q (length (places_of sites)) corners → CommonPoint p q (places_of sites) corners
right-common {way} {sheet = sheet} listed right {h} is p q some-q corners =
    let printed : number_on sheet ≡ some h = right.number ∙ ap (λ (a : Answer). side_number a.side) (answer-unique right.is_answer is) in
    let spots : Distinct (spots_on sheet) = rw right.spots listed.places_distinct in
    subst (λ (ps : List Place). Rival way h p q (length ps) corners → CommonPoint p q ps corners) right.spots
    (guaranteed-common way sheet right.guarantee spots h p q printed some-q corners)

-- Rivals of a sheet at whatever side, where it prints the side found for its spots.
pub placed-common : {way : Way} {sites : List Site} {side : Side} {sheet : List ℕ} → Listed sites → PlacedSheet way sites side sheet
    → PrintsFound way sheet → {h : ℕ} {cs : List ℕ} → IsAnswer way (places_of sites) (numbered h cs) → (p q : ℕ) → 1 ≤ q
    → (corners : List ℕ) → Rival way h p q (length (places_of sites)) corners → CommonPoint p q (places_of sites) corners
placed-common listed placed prints = right-common listed (placed.right_at_found prints)

-- What an accepted writing leaves in the buffer is such a sheet.
pub written-common : {way : Way} {sites : List Site} {side : Side} (n : ℕ) (buffer : List ℕ) → Listed sites
    → SheetWritten way sites side (Ok n) buffer → PrintsFound way (take n buffer) → {h : ℕ} {cs : List ℕ}
    → IsAnswer way (places_of sites) (numbered h cs) → (p q : ℕ) → 1 ≤ q → (corners : List ℕ)
    → Rival way h p q (length (places_of sites)) corners → CommonPoint p q (places_of sites) corners
written-common n buffer listed written prints = placed-common listed written prints
