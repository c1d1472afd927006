-- `Page::number` writes a number in decimal: its digits are those of its tenth part and then the last.
-- Assumes nothing.
use Rattle.std.proofs.Common.{◌≡◌, List, ℕ, ◌+◌, ◌/◌, ◌≤◌, ◌++◌, sym, ap, ◌∙◌, arith, length, append_assoc, length-append}
use Rattle.plan.specs.rules.Text.{decimal}
use Rattle.plan.specs.theorems.Text.{decimal_digit, decimal-large}
use Rattle.plan.proofs.page.Page.+number.Goals as goal

-- A number has one digit more than its tenth part.
one-longer : (n : ℕ) → 10 ≤ n → length (decimal n) ≡ length (decimal (n / 10)) + 1
one-longer n h = ap length (decimal-large n h) ∙ simp length-append

pub byte-requires : goal.byte-requires
byte-requires t c = omega (arith, ap length (decimal_digit c.args.n c.if-n-lt10.true))

pub returns-then-n-lt10 : goal.returns-then-n-lt10
returns-then-n-lt10 t c =
    let digit = decimal_digit c.args.n c.if-n-lt10.true in
    record {
      text = c.byte.ensures.text ∙ ap (λ (digits : List ℕ). c.args.self.now ++ digits) (sym digit);
      len = omega (arith, ap length digit);
    }

pub number-requires : goal.number-requires
number-requires t c =
    let longer = one-longer c.args.n c.if-n-lt10.false in
    (omega arith, omega arith)

pub byte-requires-2 : goal.byte-requires-2
byte-requires-2 t c = omega (arith, one-longer c.args.n c.if-n-lt10.false)

pub returns : goal.returns
returns t c =
    record {
      text =
          rw (c.byte-2.ensures.text, c.number.ensures.text, decimal-large c.args.n c.if-n-lt10.false)
          (append_assoc c.args.self.now (decimal (c.args.n / 10)) _);
      len = omega (arith, one-longer c.args.n c.if-n-lt10.false);
    }
