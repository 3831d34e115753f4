-- `counters::advance_writes` meets its contract. Assumes nothing.
use Rattle.counters.proofs.Tallied.{written_tallied}
use Rattle.counters.proofs.advance_writes.Goals as goal

pub returns-clause-due : goal.returns-clause-due
returns-clause-due c = rw (c.advance.ensures.due, written_tallied, c.advance.ensures.next)
