-- `put_site` meets its contract: name, x, y and corner with a tab or line feed behind each. A line has room for 23 bytes.
-- Assumes nothing.
use Rattle.std.proofs.Common.{ℕ, ◌≤◌, ap, arith, length}
use Rattle.placing.specs.declared.units.Place.{Place}
use Rattle.placing.specs.rules.Units.{OnPlan}
use Rattle.placing.specs.rules.Corner.{Corner}
use Rattle.plan.specs.declared.name.Name.{Name}
use Rattle.plan.specs.rules.Text.{decimal, most_name_bytes}
use Rattle.plan.specs.calls.Plan.{name_held}
use Rattle.plan.specs.theorems.Text.{decimal-short}
use Rattle.plan.specs.code.Taken.{site_of}
use Rattle.plan.specs.code.Composing.{name-text-short, corner-text-short, line-parts}
use Rattle.plan.proofs.sheet.put_site.Goals as goal

-- How long the parts can be.
short : (name : Name) (place : Place) (corner : ℕ) → name.len ≤ most_name_bytes → OnPlan place → Corner corner
    → (length (name_held name) ≤ 8) × (length (decimal place.x.0) ≤ 5) × (length (decimal place.y.0) ≤ 5) × (length (decimal corner) ≤ 1)
short name place corner few on is =
    (name-text-short name few, decimal-short place.x.0 (omega arith), decimal-short place.y.0 (omega arith), corner-text-short corner is)

pub number-requires : goal.number-requires
number-requires c =
    let parts = short c.args.name c.args.place c.args.corner c.requires.0 c.requires.1 c.requires.2 in
    omega (arith, ap length c.text.ensures, parts)

pub byte-requires-2 : goal.byte-requires-2
byte-requires-2 c =
    let parts = short c.args.name c.args.place c.args.corner c.requires.0 c.requires.1 c.requires.2 in
    omega (arith, ap length c.text.ensures, parts)

pub number-requires-2 : goal.number-requires-2
number-requires-2 c =
    let parts = short c.args.name c.args.place c.args.corner c.requires.0 c.requires.1 c.requires.2 in
    omega (arith, ap length c.text.ensures, parts)

pub byte-requires-3 : goal.byte-requires-3
byte-requires-3 c =
    let parts = short c.args.name c.args.place c.args.corner c.requires.0 c.requires.1 c.requires.2 in
    omega (arith, ap length c.text.ensures, parts)

pub number-requires-3 : goal.number-requires-3
number-requires-3 c =
    let parts = short c.args.name c.args.place c.args.corner c.requires.0 c.requires.1 c.requires.2 in
    omega (arith, ap length c.text.ensures, parts, ap (λ (n : ℕ). length (decimal n)) c.from.ensures)

pub byte-requires-4 : goal.byte-requires-4
byte-requires-4 c =
    let parts = short c.args.name c.args.place c.args.corner c.requires.0 c.requires.1 c.requires.2 in
    omega (arith, ap length c.text.ensures, parts, ap (λ (n : ℕ). length (decimal n)) c.from.ensures)

pub returns : goal.returns
returns c =
    rw (
      c.byte-4.ensures.text,
      c.number-3.ensures.text,
      c.from.ensures,
      c.byte-3.ensures.text,
      c.number-2.ensures.text,
      c.byte-2.ensures.text,
      c.number.ensures.text,
      c.byte.ensures.text,
      c.put.ensures.text,
      c.text.ensures,
    )
    (line-parts c.args.page.now (site_of c.args.name c.args.place) c.args.corner)
