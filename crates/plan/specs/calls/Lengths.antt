-- How long the parts of a sheet, a sheet and the line of a refusal can get, and the work table of a full plan: what the arrays of the
-- code have room for.
-- Assumes nothing.
use Rattle.std.specs.Prelude.{ℕ, ◌+◌, ◌*◌}
use Rattle.placing.specs.rules.Units.{most_sites}
use Rattle.plan.specs.rules.Text.{most_name_bytes}

-- The most digits of a coordinate or a side: both are below 100,000.
abbrev pub most_digits : ℕ
most_digits = 5

-- The most bytes of the first line: the word side, a tab, five digits, a line feed.
abbrev pub longest_side_line : ℕ
longest_side_line = 4 + 1 + most_digits + 1

-- The most bytes of the line of a site: a name, two numbers of five digits, a corner, each with a tab or line feed behind it.
abbrev pub longest_site_line : ℕ
longest_site_line = (most_name_bytes + 1) + 2 * (most_digits + 1) + (1 + 1)

-- The least: a byte for each of the four, with a tab or line feed behind it.
abbrev pub shortest_site_line : ℕ
shortest_site_line = 4 * (1 + 1)

-- No sheet is longer: a bound, which is never reached.
abbrev pub longest_sheet : ℕ
longest_sheet = longest_side_line + most_sites * longest_site_line

-- No sheet at the side found is shorter: the word side, a tab, the word free, a line feed, and the line of one site.
abbrev pub shortest_sheet : ℕ
shortest_sheet = 4 + 1 + 4 + 1 + shortest_site_line

-- Nor one at a given side, which may have one digit.
abbrev pub shortest_sheet_at : ℕ
shortest_sheet_at = 4 + 1 + 1 + 1 + shortest_site_line

-- No line of a refusal is longer: the word refused, a tab, a number, a line feed, with room for five digits where two are the most.
abbrev pub longest_refusal_line : ℕ
longest_refusal_line = 7 + 1 + most_digits + 1

-- The work table of a full plan: with it every plan has room.
abbrev pub full_table : ℕ
full_table = most_sites * most_sites
