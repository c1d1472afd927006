-- `ready` meets its contract, test by test. Assumes nothing.
use Prim.Native.Nat.{◌*◌}
use borrow.Author.Tests.{eq-eqb, ne_eqb, lt-ltb, le-ltb}
use Rattle.plan.proofs.calls.ready.Goals as goal

pub returns-then-n-eq0 : goal.returns-then-n-eq0
returns-then-n-eq0 c =
    rw (eq-eqb c.args.n 0 c.if-n-eq0.true)

pub returns-then-bytes-n : goal.returns-then-bytes-n
returns-then-bytes-n c =
    let args = c.args in
    rw (ne_eqb args.n 0 c.if-n-eq0.false, lt-ltb args.bytes (args.n * args.n) c.if-bytes-n.true)

pub returns : goal.returns
returns c =
    let args = c.args in
    rw (ne_eqb args.n 0 c.if-n-eq0.false, le-ltb args.bytes (args.n * args.n) c.if-bytes-n.false)
