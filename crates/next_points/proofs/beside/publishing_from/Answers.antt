-- `next_points::beside::publishing_from` meets its contract, whichever task is the slower. Assumes nothing.
use borrow.Author.Tests.{le-leb, lt-leb}
use Rattle.next_points.specs.Next.{publishing_from}
use Rattle.next_points.proofs.beside.publishing_from.Goals as goal

pub returns-then-reader-writer : goal.returns-then-reader-writer
unfolding publishing_from
returns-then-reader-writer c = rw (le-leb _ _ c.if-reader-writer.true)

pub returns-else-reader-writer : goal.returns-else-reader-writer
unfolding publishing_from
returns-else-reader-writer c = rw (lt-leb _ _ c.if-reader-writer.false, c.last_to.ensures.is, c.first_from.ensures.is)
