-- `refusal_page` meets its contract: the word with its tab, the number and the line feed are the line. Assumes nothing.
use Rattle.std.proofs.Common.{◌≡◌, ℕ, ◌≤◌, ap, arith, length, ◌∙◌}
use Rattle.plan.specs.declared.refusal.Refusal.{Refusal}
use Rattle.plan.specs.rules.Refusal.{number_of}
use Rattle.plan.specs.rules.Text.{decimal}
use Rattle.plan.specs.calls.Lengths.{most_digits}
use Rattle.plan.specs.theorems.Output.{number_short}
use Rattle.plan.proofs.output.refusal_page.Goals as goal

-- The number of a refusal has at most five digits.
number_fits : {n : ℕ} (why : Refusal) → n ≡ number_of why → length (decimal n) ≤ most_digits
number_fits why same = rw same (number_short why)

pub number-requires : goal.number-requires
number-requires c = omega (arith, ap length c.new-page.ensures, number_fits c.args.why (c.from-2.ensures ∙ c.from.ensures))

pub byte-requires : goal.byte-requires
byte-requires c = omega (arith, ap length c.new-page.ensures, number_fits c.args.why (c.from-2.ensures ∙ c.from.ensures))
