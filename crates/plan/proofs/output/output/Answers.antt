-- `plan::output::output` meets its contract: what was read and placed is put into the buffer. Assumes nothing.
use mathlib.Core.Path.{refl, sym, subst}
use Rattle.plan.specs.deciding.Reading.{read_list}
use Rattle.plan.specs.deciding.Output.{output_of}
use Rattle.plan.specs.rules.Calls.{to_place}
use Rattle.plan.specs.calls.Plan.{placed_with, placed_plan}
use Rattle.plan.specs.calls.Answers.{started}
use Rattle.plan.specs.Demands.{Answered}
use Rattle.plan.proofs.Guaranteed.{output-answered}
use Rattle.plan.specs.code.Filling.{handed-put, output-put, placed-output}
use Rattle.plan.proofs.output.output.Goals as goal

pub put_planned-requires : goal.put_planned-requires
unfolding placed_with
put_planned-requires c =
    let args = c.args in
    handed-put (placed_plan args.way) started (to_place (read_list args.text.now))
    c.place_list-plan.ensures.answer (λ sites. refl)

pub returns : goal.returns
returns c =
    let args = c.args in
    let text = args.text.now in
    let put = output-put args.buffer.now (output_of args.way text)
    (placed-output args.way text c.place_list-plan.ensures.answer) c.put_planned.ensures.length c.put_planned.ensures.buffer in
    record {
      length = put.0;
      buffer = put.1.0;
      answered = subst (Answered args.way text) (sym put.1.1) (output-answered args.way text);
    }
