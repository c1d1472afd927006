-- `Plan::enter_line` meets its contract, by the step at which a line is refused. Assumes nothing.
use Rattle.std.proofs.Common.{◌≡◌, Option, None, Some, Ok, Err, refl, subst}
use Rattle.std.specs.Prelude as rattle
use Rattle.std.specs.Option.{ok_or}
use Rattle.plan.specs.declared.refusal.Refusal.{Refusal}
use Rattle.plan.specs.rules.Text.{fields_of}
use Rattle.plan.specs.code.CallLaws.{handed-on}
use Rattle.plan.specs.code.Line.{LineEnds, LineReads, between}
use Rattle.plan.specs.code.LineLaws.{line-missing, fields_missing, site_refused, site_entered}
use Rattle.plan.proofs.plan.Plan.enter_line.Goals as goal

-- What a step with `ok_or` tells of the option.
was-none : {A : Type 0} (o : Option A) {r : rattle.Result A Refusal} {e why : Refusal} → r ≡ ok_or o e → r ≡ Err why → (o ≡ None) × (why ≡ e)
was-none None is err = (refl, cc)
was-none (Some x) is err = cc

was-some : {A : Type 0} (o : Option A) {r : rattle.Result A Refusal} (e : Refusal) {x : A} → r ≡ ok_or o e → r ≡ Ok x → o ≡ Some x
was-some None e is ok = cc
was-some (Some y) e is ok = cc

pub returns-in_err-end : goal.returns-in_err-end
returns-in_err-end c =
    let was = was-none _ c.ok_or.ensures.value c.in_err-end.was in
    rw (handed-on c.from_residual.ensures.1, was.1)
    (line-missing c.requires (subst (LineEnds c.args.text.now c.args.at) was.0 c.line_end.ensures))

pub returns-in_err-site : goal.returns-in_err-site
returns-in_err-site c =
    let found = was-some _ _ c.ok_or.ensures.value c.in_ok-end.was in
    let was = was-none _ c.ok_or-2.ensures.value c.in_err-site.was in
    let text = c.args.text.now in
    rw (handed-on c.from_residual-in_err-site.ensures.1, was.1)
    (fields_missing (subst (LineEnds text c.args.at) found c.line_end.ensures) c.args.self.now
    (subst (LineReads (fields_of (between text c.args.at c.in_ok-end.end))) was.0 c.read_line.ensures))

pub returns-in_err-enter_read : goal.returns-in_err-enter_read
returns-in_err-enter_read c =
    let text = c.args.text.now in
    let found = subst (LineEnds text c.args.at) (was-some _ _ c.ok_or.ensures.value c.in_ok-end.was) c.line_end.ensures in
    let reads = subst (LineReads (fields_of (between text c.args.at c.in_ok-end.end))) (was-some _ _ c.ok_or-2.ensures.value c.in_ok-site.was) c.read_line.ensures in
    rw (handed-on c.from_residual-in_err-enter_read.ensures.1) (site_refused found c.args.self.now reads c.in_err-enter_read.ensures.answer)

pub returns : goal.returns
returns c =
    let text = c.args.text.now in
    let found = subst (LineEnds text c.args.at) (was-some _ _ c.ok_or.ensures.value c.in_ok-end.was) c.line_end.ensures in
    let reads = subst (LineReads (fields_of (between text c.args.at c.in_ok-end.end))) (was-some _ _ c.ok_or-2.ensures.value c.in_ok-site.was) c.read_line.ensures in
    site_entered found c.args.self.now reads c.in_ok-enter_read.ensures.answer
