-- `table::goes` meets its contract: the writer's number, and the reader's mark. Assumes nothing.
use borrow.Author.Tests.{eq-eqb, ne_eqb}
use Rattle.table.proofs.goes.Goals as goal

pub returns-then-writer-w : goal.returns-then-writer-w
returns-then-writer-w c = rw (eq-eqb _ _ c.if-writer-w.true) c.marked.ensures

pub returns-else-writer-w : goal.returns-else-writer-w
returns-else-writer-w c = rw (ne_eqb _ _ c.if-writer-w.false)
