-- A read brings a byte or more, or is the last. Assumes nothing.
use Rattle.std.proofs.Common.{arith}
use Rattle.std.proofs.lemmas.Result.{err_from_is_err_and}
use Rattle.std.proofs.KnownBytes.{Consumes-nil}
use Rattle.place.specs.Input.{none_yet}
use Rattle.place.specs.InputLaws.{failed-to, ended-at, come-to, brought-more}
use Rattle.place.proofs.answer.read_input.Goals as goal

pub loop-at-init : goal.loop-at-init
loop-at-init g c = record { within = omega arith; reads = (0, none_yet); bytes = Consumes-nil _ }

pub returns-in_err-n-clause-reads : goal.returns-in_err-n-clause-reads
returns-in_err-n-clause-reads g c =
    let p = err_from_is_err_and c.from_residual.result c.from_residual.ensures.1 in
    let once = c.read_once.ensures in
    rw p.1 (failed-to c.loop-at.invariant.reads.1 (omega arith) c.read_once.result once.behind c.in_err-n.was once.failed)

pub returns-then-n-eq0-clause-reads : goal.returns-then-n-eq0-clause-reads
returns-then-n-eq0-clause-reads g c =
    ended-at c.loop-at.invariant.reads.1 (omega arith) c.read_once.result c.read_once.ensures.behind c.in_ok-n.was c.if-n-eq0.true

pub loop-at-preserved : goal.loop-at-preserved
loop-at-preserved g c =
    let once = c.read_once.ensures in
    let come =
    come-to c.loop-at.invariant.reads.1 (omega arith) c.read_once.result once.behind c.in_ok-n.was c.if-n-eq0.false in
    record {
      within = come.0;
      reads = come.1;
      bytes = brought-more _ _ _ c.loop-at.at c.in_ok-n.n _ _ c.loop-at.invariant.bytes once.behind.kept c.in_ok-n.ensures.bytes.0;
    }
