-- `instants::write_copies` meets its contract: the writes are put, and then the reads. Assumes nothing.
use Rattle.instants.proofs.Putting.{copies_then}
use Rattle.instants.proofs.write_copies.Goals as goal

pub returns : goal.returns
returns c =
    copies_then _ _ c.write_writes-after.ensures c.write_reads.ensures
