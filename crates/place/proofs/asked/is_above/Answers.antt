-- Two texts are compared as the rule compares them. Assumes nothing.
use Rattle.std.proofs.Common.{◌∙◌, [], ◌∷◌}
use Rattle.std.specs.Prelude.{eqb}
use Rattle.std.specs.Cmp.Lexicographic.{pointwise}
use Rattle.desk.specs.Words.{bytes_in}
use Rattle.plan.specs.code.NameLaws.{texts-equal}
use Rattle.place.proofs.asked.is_above.Goals as goal

pub returns : goal.returns
returns c =
    c.eq.ensures
    ∙ (λ i. pointwise eqb (c.text.ensures i) (c.as_slice.ensures i))
    ∙ texts-equal (bytes_in c.args.word.now) (97 ∷ 98 ∷ 111 ∷ 118 ∷ 101 ∷ [])
