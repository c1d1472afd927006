-- `hint_for` meets its contract: what is handed on is the first line of the text.
-- Assumes nothing.
use mathlib.Core.Path.{refl, sym, ◌∙◌}
use native.Mathlib.Omega.{arith}
use lib.Seq.{length-take-le}
use Rattle.hints.specs.TestLaws.{cut_inside, cut-hint}
use Rattle.hints.proofs.hint_for.Goals as goal

pub slice_bounds-hint_of-end : goal.slice_bounds-hint_of-end
slice_bounds-hint_of-end c =
    let text = c.args.text.now in
    sym (length-take-le c.line_length-n.result text (omega (arith, cut_inside text, c.line_length-n.ensures)))

pub returns : goal.returns
returns c =
    c.hint_of.ensures ∙ cut-hint c.args.line c.args.text.now c.line_length-n.ensures refl
