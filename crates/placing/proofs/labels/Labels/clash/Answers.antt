-- `Labels::clash` meets its contract: sites far away along x do not meet; of the others `growth` tells, and then whether they are two
-- sites is left.
-- Assumes nothing.
use mathlib.Core.Path.{◌≡◌, ap, ◌∙◌}
use Prim.Native.Nat.{ℕ}
use native.Mathlib.Omega.{arith}
use Rattle.placing.specs.declared.corner.Directions.{Directions}
use Rattle.placing.specs.declared.geometry.Label.{Label}
use Rattle.placing.specs.declared.units.Growth.{Growth}
use Rattle.placing.specs.declared.units.Place.{Place}
use Rattle.placing.specs.rules.Units.{X, site_at}
use Rattle.placing.specs.rules.Corner.{directions_of}
use Rattle.placing.specs.code.Steps.{label_at}
use Rattle.placing.specs.deciding.Growth.{growth_of}
use Rattle.placing.specs.deciding.Decides.{decides-same, decides-no}
use Rattle.placing.specs.deciding.Tests.{at_most-decides, not-decides, eq-decides}
use Rattle.placing.specs.theorems.Label.{overlap-near}
use Rattle.placing.specs.theorems.Growth.{meet-exceeds}
use Rattle.placing.proofs.labels.Labels.clash.Goals as goal

pub returns-then-le : goal.returns-then-le
returns-then-le c a e own_is toward_is =
    let own = c.args.own in
    let far = (at_most-decides c.doubled.result.0 c.distance.result.0 c.le.ensures).yes_holds c.if-le.true in
    let apart = rw (ap (λ (l : Label). l.site) own_is) at c.distance.ensures in
    decides-no (λ clash. omega (arith, far, c.doubled.ensures, apart, overlap-near (clash.meets X)))

-- How far the labels of two sites grow, from what the pair test gives for the labels made of them.
grown : {own : Label} {s : Place} {toward : Directions} {growth : Growth} (t : Place) (a e : ℕ)
    → ((c d : ℕ) → own.toward ≡ directions_of c → toward ≡ directions_of d → growth ≡ growth_of own.site c t d)
    → own ≡ label_at s a → toward ≡ directions_of e → growth ≡ growth_of s a t e
grown t a e told own_is toward_is =
    told a e (ap (λ (l : Label). l.toward) own_is) toward_is
    ∙ ap (λ (x : Place). growth_of x a t e) (ap (λ (l : Label). l.site) own_is)

pub returns-then-exceeds : goal.returns-then-exceeds
returns-then-exceeds c a e own_is toward_is =
    let args = c.args in
    let sites = args.self.now.sites.now in
    let more = rw (grown _ a e c.growth.ensures own_is toward_is) at (c.exceeds.ensures.yes_holds c.if-exceeds.true) in
    decides-same (λ different. record { different = different; meets = (meet-exceeds args.self.now.side.0 1 (site_at sites args.k) a (site_at sites args.j) e).1 more })
    (λ clash. clash.different) (not-decides (eq-decides args.j args.k))

pub returns : goal.returns
returns c a e own_is toward_is =
    let args = c.args in
    let sites = args.self.now.sites.now in
    decides-no (λ clash.
    c.exceeds.ensures.no_fails c.if-exceeds.false
    (rw (grown _ a e c.growth.ensures own_is toward_is) ((meet-exceeds _ 1 (site_at sites args.k) a (site_at sites args.j) e).0 clash.meets)))
