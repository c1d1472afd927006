use Rattle.std.proofs.Common.{◌≡◌, ◌≤◌, drop}
use Rattle.plan.specs.rules.Text.{digits_after}
use Rattle.plan.specs.code.NumberRead.{number_read}
use Rattle.plan.proofs.number.digits_from.Given as goal

abbrev pub invariant-loop-b : goal.invariant-loop-b
invariant-loop-b l = (l.value ≤ l.most)
    × (number_read l.most (digits_after 0 l.text) ≡ number_read l.most (digits_after l.value (drop l.b-index l.text)))
