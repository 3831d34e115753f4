-- `table::marked` meets its contract: the bit that stands for the task, and none past task 31. Assumes nothing.
use borrow.Author.Tests.{lt-ltb, le-ltb}
use Rattle.table.specs.Table.{marks}
use Rattle.table.proofs.marked.Goals as goal

pub returns-then-i-lt32 : goal.returns-then-i-lt32
unfolding marks
returns-then-i-lt32 c = rw (lt-ltb _ 32 c.if-i-lt32.true)

pub returns-else-i-lt32 : goal.returns-else-i-lt32
unfolding marks
returns-else-i-lt32 c = rw (le-ltb _ 32 c.if-i-lt32.false)
