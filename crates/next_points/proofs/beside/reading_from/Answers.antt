-- `next_points::beside::reading_from` meets its contract, whichever task is the slower. Assumes nothing.
use borrow.Author.Tests.{le-leb, lt-leb}
use Rattle.next_points.specs.Next.{reading_from}
use Rattle.next_points.proofs.beside.reading_from.Goals as goal

pub returns-then-writer-reader : goal.returns-then-writer-reader
unfolding reading_from
returns-then-writer-reader c = rw (le-leb _ _ c.if-writer-reader.true)

pub returns-else-writer-reader : goal.returns-else-writer-reader
unfolding reading_from
returns-else-writer-reader c =
    rw (
      lt-leb _ _ c.if-writer-reader.false,
      c.first_from-else-writer-reader.ensures.is,
      c.first_from.ensures.is,
      c.after_previous.ensures,
    )
