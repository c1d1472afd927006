-- The chain goes over the numbers of all sites.
use Rattle.std.specs.Prelude.{◌≡◌, length, get_or, ⊤}
use Rattle.std.specs.List.{range_with_len}
use Rattle.std.proofs.Common.{rules, refl, arith, subst}
use Rattle.std.proofs.lemmas.Iterator.{cases_from_all, YieldsList-from_range}
use Rattle.std.proofs.lemmas.List.FromFn.{get_or-range_with_len, length-range_with_len}
use Rattle.placed_lists.specs.Ready.{Fresh}
use Rattle.placed_lists.proofs.ready.all_fresh.Goals as goal

pub returns : goal.returns
returns c passes i below =
    let sites = c.args.sites.now in
    let n = length sites in
    let each = cases_from_all _ _ _ (Fresh sites) (λ _. ⊤) c.all.ensures.ran (YieldsList-from_range 0 n n refl (omega arith)) (λ x q k. search rules) (λ x q k. tt) in
    let is : get_or (range_with_len 0 n) i 0 ≡ i = omega (arith, get_or-range_with_len 0 n i 0 below) in
    subst (Fresh sites) is ((rw passes at each) i 0 (omega arith) (rw (length-range_with_len 0 n) below))
