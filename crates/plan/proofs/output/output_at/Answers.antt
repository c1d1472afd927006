-- `plan::output::output_at` meets its contract: what was read and placed is put into the buffer, at the side given. Assumes nothing.
use mathlib.Core.Path.{refl, sym, subst}
use Rattle.plan.specs.deciding.Reading.{read_list}
use Rattle.plan.specs.deciding.Output.{exists_at, output_at}
use Rattle.plan.specs.rules.Calls.{to_place_at}
use Rattle.plan.specs.calls.Plan.{placed_with}
use Rattle.plan.specs.calls.Answers.{started, placed_at}
use Rattle.plan.specs.Demands.{AnsweredAt}
use Rattle.plan.proofs.Guaranteed.{output-answered-at}
use Rattle.plan.specs.code.Filling.{handed-put, output-put, placed-output-at}
use Rattle.plan.proofs.output.output_at.Goals as goal

pub put_planned-requires : goal.put_planned-requires
unfolding placed_with
put_planned-requires c =
    let args = c.args in
    handed-put (placed_at args.way args.side) started (to_place_at args.side (exists_at args.way args.side) (read_list args.text.now))
    c.place_list_at-plan.ensures.answer (λ sites. refl)

pub returns : goal.returns
returns c =
    let args = c.args in
    let text = args.text.now in
    let put = output-put args.buffer.now (output_at args.way args.side text)
    (placed-output-at args.way args.side text c.place_list_at-plan.ensures.answer) c.put_planned.ensures.length c.put_planned.ensures.buffer in
    record {
      length = put.0;
      buffer = put.1.0;
      answered = subst (AnsweredAt args.way args.side text) (sym put.1.1) (output-answered-at args.way args.side text);
    }
