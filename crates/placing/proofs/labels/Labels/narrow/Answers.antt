-- `Labels::narrow` meets its contract: the side tried is the next lower end where it has a good choice, else the next upper end.
-- Assumes nothing.
use mathlib.Core.Path.{sym, ◌∙◌}
use Rattle.placing.specs.code.Chosen.{chosen_good, chosen_none}
use Rattle.placing.specs.code.Bisect.{narrowed-up, narrowed-down}
use Rattle.placing.proofs.labels.Labels.narrow.Goals as goal

pub returns-then-is_some : goal.returns-then-is_some
returns-then-is_some c =
    narrowed-up c.requires.between_is c.requires.left _ (chosen_good _ _ c.choose.ensures (sym c.is_some.ensures ∙ c.if-is_some.true)) c.middle.ensures

pub returns : goal.returns
returns c =
    narrowed-down c.requires.between_is c.requires.left _ (chosen_none _ _ c.choose.ensures (sym c.is_some.ensures ∙ c.if-is_some.false)) c.middle-2.ensures
