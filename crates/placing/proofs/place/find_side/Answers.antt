-- `placing::place::find_side` meets its contract: the side, and the cleared table.
-- Assumes nothing.
use Prim.Native.Nat.{◌≤◌, ◌*◌}
use lib.ListN.{length}
use native.Mathlib.Omega.{arith}
use native.Mathlib.Nat.{mul-le-mul_right}
use borrow.Author.Rules.{rules}
use Prim.Native.Nat.{ℕ}
use Rattle.std.proofs.lemmas.List.{length-take}
use Rattle.std.proofs.lemmas.Slice.{drop-append-drop}
use Rattle.placing.proofs.place.find_side.Goals as goal

pub returns-clause-table : goal.returns-clause-table
returns-clause-table c =
    let n = length c.args.sites.now in
    let wide : 1 * n ≤ n * n = mul-le-mul_right n c.requires.some_sites in
    rw (drop-append-drop n c.args.table.now c.greatest_side-side.new.marks (n * n) (omega arith) (omega (arith, length-take {A = ℕ}))) (search rules)
