-- `State::close_corner` meets its contract: what `left_of` says of the bytes after the write, by a law of specs/code/Carry for each arm.
-- Assumes nothing.
use borrow.Author.Rules.{rules}
use Rattle.placing.specs.code.Carry.{closed_none, closed-lone, closed_some}
use Rattle.placing.proofs.fresh.State.close_corner.Goals as goal

pub returns-in-Nothing : goal.returns-in-Nothing
returns-in-Nothing c =
    rw c.index_of-at.ensures
    (closed_none _ _ _ (search rules) c.requires.1 (rw (c.in-Nothing.is, c.index_of-at.ensures) at c.left_of-left.ensures))

pub returns-in-One : goal.returns-in-One
returns-in-One c =
    rw c.index_of-at.ensures
    (closed-lone _ _ _ (search rules) c.requires.1 _ (search rules) (rw (c.in-One.is, c.index_of-at.ensures) at c.left_of-left.ensures))

pub returns-in-More : goal.returns-in-More
returns-in-More c =
    rw c.index_of-at.ensures
    (closed_some _ _ _ (search rules) c.requires.1 (rw (c.in-More.is, c.index_of-at.ensures) at c.left_of-left.ensures))
