-- `name_from` meets its contract: the bytes of a name are put over zeros.
-- Assumes nothing.
use Rattle.std.proofs.Common.{◌≡◌, Bool, true, List, ℕ, ◌≤◌, length, sym, ◌∙◌, length-take-le}
use Rattle.plan.specs.rules.Text.{is_name, most_name_bytes}
use Rattle.plan.specs.theorems.Text.{name-short}
use Rattle.plan.proofs.name.name_from.Goals as goal

-- A name has at most eight bytes.
short : (text : List ℕ) {is : Bool} → is ≡ is_name text → is ≡ true → length text ≤ most_name_bytes
short text says named = name-short text (sym says ∙ named)

pub slice_bounds-bytes-end : goal.slice_bounds-bytes-end
slice_bounds-bytes-end c =
    short _ c.is_name.ensures c.if-not-is_name.false

pub slice_bounds-copy_from_slice-end : goal.slice_bounds-copy_from_slice-end
slice_bounds-copy_from_slice-end c =
    sym (length-take-le _ _ (short _ c.is_name.ensures c.if-not-is_name.false))

pub copy_from_slice-requires : goal.copy_from_slice-requires
copy_from_slice-requires c =
    length-take-le _ _ (short _ c.is_name.ensures c.if-not-is_name.false)
