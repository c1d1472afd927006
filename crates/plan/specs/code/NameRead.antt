-- The record of a name, and what reading one hands back.
-- Assumes nothing.
use Rattle.std.specs.Prelude.{◌≡◌, Bool, true, false, List, [], ℕ, Option, Some, None}
use Rattle.plan.specs.declared.name.Name.{Name}
use Rattle.plan.specs.rules.Text.{is_name}
use Rattle.plan.specs.calls.Plan.{name_of, name_held}

-- A record of a name: past the name's bytes there are zeros.
abbrev pub Padded : Name → Type 0
Padded name = name ≡ name_of (name_held name)

-- The name of an empty slot.
abbrev pub no_name : Name
no_name = name_of []

-- The name, where the bytes are one.
abbrev pub name_where : Bool → List ℕ → Option Name
name_where true bytes = Some (name_of bytes)
name_where false bytes = None

abbrev pub name_read : List ℕ → Option Name
name_read bytes = name_where (is_name bytes) bytes
