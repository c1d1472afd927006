-- `placing::place::choose_corners` meets its contract: the first choice, and the cleared table.
-- Assumes nothing.
use Prim.Native.Nat.{ℕ, ◌≤◌, ◌*◌}
use lib.ListN.{length}
use native.Mathlib.Omega.{arith}
use native.Mathlib.Nat.{mul-le-mul_right}
use borrow.Author.Rules.{rules}
use Rattle.std.proofs.lemmas.List.{length-take}
use Rattle.std.proofs.lemmas.Slice.{drop-append-drop}
use Rattle.placing.proofs.place.choose_corners.Goals as goal

pub returns-clause-table : goal.returns-clause-table
returns-clause-table c =
    let n = length c.args.sites.now in
    let wide : 1 * n ≤ n * n = mul-le-mul_right n c.requires.0.some_sites in
    rw (drop-append-drop n c.args.table.now c.first_choice-corners.new.marks (n * n) (omega arith) (omega (arith, length-take {A = ℕ}))) (search rules)
