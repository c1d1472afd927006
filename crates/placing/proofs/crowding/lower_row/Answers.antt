-- `crowding::lower_row` meets its contract: the pairs come in list order, from the site after `i` on.
-- Assumes nothing.
use Rattle.std.specs.Prelude.{◌≡◌, ◌++◌, ◌∷◌, [], ℕ, ◌+◌, ◌-◌, ◌<◌, List, length, drop, get_or}
use Rattle.std.specs.List.{enumerate_from}
use Rattle.std.proofs.Common.{arith, sym, ap, subst, ◌∙◌}
use Rattle.std.proofs.lemmas.List.{get_or_default, get_or-drop, length-drop, length_push}
use Rattle.std.proofs.lemmas.List.FromFn.{get_or-enumerate_from, length-enumerate_from}
use Rattle.std.proofs.lemmas.Iterator.{YieldsList-from_slice}
use Rattle.std.proofs.lemmas.Iterator.Adapters.{YieldsList-from_skip}
use Rattle.std.proofs.lemmas.Iterator.Consumers.{YieldsList-at, YieldsList-from_enumerate, YieldsList-turn, YieldsList-end}
use Rattle.placing.specs.declared.units.Place.{Place}
use Rattle.placing.specs.rules.Units.{site_at, nowhere}
use Rattle.placing.specs.code.Pairs.{PairsBelow, ReachesOver, over-pair, row-starts, row_ends}
use Rattle.placing.proofs.crowding.lower_row.Goals as goal

-- The sites from number n on, each with its number.
abbrev from : List Place → ℕ → List (ℕ × Place)
from ps n = drop n (enumerate_from 0 ps)

size : (ps : List Place) (n : ℕ) → length (from ps n) ≡ length ps - n
size ps n = length-drop n (enumerate_from 0 ps) ∙ ap (λ m. m - n) (length-enumerate_from 0 ps)

module _ (ps : List Place) (n k j : ℕ) (t : Place) (turn : (k < length (from ps n)) × ((j, t) ≡ get_or (from ps n) k (j, t))) where
  inside : n + k < length ps
  inside = omega (arith, turn.0, size ps n)

  pair_is : ◌≡◌ {A = ℕ × Place} (j, t) (0 + (n + k), get_or ps (n + k) t)
  pair_is = turn.1 ∙ get_or-drop n (enumerate_from 0 ps) k (j, t) ∙ get_or-enumerate_from 0 ps (n + k) (j, t) inside

  number_is : j ≡ n + k
  number_is = omega (arith, ap (λ (p : ℕ × Place). p.0) pair_is)

  site_is : t ≡ site_at ps j
  site_is =
      ap (λ (p : ℕ × Place). p.1) pair_is ∙ get_or_default ps (n + k) t nowhere inside ∙ ap (site_at ps) (sym number_is)

pub loop-j-init : goal.loop-j-init
loop-j-init c = row-starts (omega arith) c.requires.2

pub loop-j-preserved : goal.loop-j-preserved
loop-j-preserved c =
    let ps = c.args.sites.now in
    let i = c.args.i in
    let k = length c.loop-j.yielded in
    let road = YieldsList-at c.into_iter-j-iterator.ensures.into_iter_gives
    (YieldsList-from_skip (i + 1)
    (YieldsList-at c.skip-j-items.ensures.source
    (YieldsList-from_enumerate (YieldsList-at c.enumerate.ensures.source (YieldsList-from_slice ps cc)) cc)) cc) in
    let turn = YieldsList-turn road c.loop-j.yielded _ c.loop-j.yielded_by _ _ (c.in-Some.j, c.in-Some.t) c.in-Some.is c.next.ensures.steps in
    let within = inside ps (i + 1) k c.in-Some.j c.in-Some.t.now turn in
    let number = number_is ps (i + 1) k c.in-Some.j c.in-Some.t.now turn in
    let site = site_is ps (i + 1) k c.in-Some.j c.in-Some.t.now turn in
    let next : c.in-Some.j + 1 ≡ i + 1 + length (c.loop-j.yielded ++ ((c.in-Some.j, c.in-Some.t) ∷ [])) =
    omega (arith, number, length_push c.loop-j.yielded (c.in-Some.j, c.in-Some.t)) in
    subst (λ m. ReachesOver ps c.args.top.0 (PairsBelow i m) c.lower_pair.new.reaches) next
    (over-pair (omega (arith, number)) (omega (arith, number, within))
    (subst (λ m. ReachesOver ps c.args.top.0 (PairsBelow i m) c.loop-j.reaches) (sym number) c.loop-j.invariant)
    (rw site at c.lower_pair.ensures))

pub returns : goal.returns
returns c =
    let ps = c.args.sites.now in
    let i = c.args.i in
    let road = YieldsList-at c.into_iter-j-iterator.ensures.into_iter_gives
    (YieldsList-from_skip (i + 1)
    (YieldsList-at c.skip-j-items.ensures.source
    (YieldsList-from_enumerate (YieldsList-at c.enumerate.ensures.source (YieldsList-from_slice ps cc)) cc)) cc) in
    let end = YieldsList-end road c.loop-j.yielded _ c.loop-j.yielded_by _ _ c.in-None.is c.next.ensures.steps in
    row_ends (omega (arith, end.1, size ps (i + 1))) c.loop-j.invariant
