-- The limits as numbers: those that document 01 gives, and those that follow from them. A rule that gives a limit another value is refused
-- here.
-- Assumes nothing.
use Rattle.std.specs.Prelude.{◌≡◌, refl}
use Rattle.placing.specs.rules.Units.{most_sites, greatest_coordinate, greatest_side, free_side}
use Rattle.plan.specs.rules.Text.{most_name_bytes}
use Rattle.plan.specs.rules.List.{most_line_bytes, longest_text}
use Rattle.plan.specs.calls.Lengths.{full_table, longest_sheet, shortest_sheet, shortest_sheet_at}

-- Document 01's.
pub limits-given : (most_sites ≡ 240) × (greatest_coordinate ≡ 10000) × (greatest_side ≡ 20000) × (free_side ≡ 20001) × (most_name_bytes ≡ 8)
    × (most_line_bytes ≡ 20) × (longest_text ≡ 5061)
limits-given = (refl, refl, refl, refl, refl, refl, refl)

-- The work table of a full plan, and the bytes of a sheet.
pub limits-following : (full_table ≡ 57600) × (longest_sheet ≡ 5531) × (shortest_sheet ≡ 18) × (shortest_sheet_at ≡ 15)
limits-following = (refl, refl, refl, refl)
