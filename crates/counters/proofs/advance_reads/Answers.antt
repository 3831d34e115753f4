-- `counters::advance_reads` meets its contract. Assumes nothing.
use Rattle.counters.proofs.Tallied.{read_tallied}
use Rattle.counters.proofs.advance_reads.Goals as goal

pub returns-clause-due : goal.returns-clause-due
returns-clause-due c = rw (c.advance.ensures.due, read_tallied, c.advance.ensures.next)
