-- The measure of `Page::number` is the number: its tenth part is smaller.
use Rattle.plan.proofs.page.Page.+number.Given as goal

abbrev pub decreases-number : goal.decreases-number
decreases-number l = l.n
