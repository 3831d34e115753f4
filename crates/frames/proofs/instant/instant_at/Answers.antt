-- `frames::instant::instant_at` meets its contract. Assumes nothing.
use native.Mathlib.Omega.{arith}
use Rattle.frames.proofs.instant.instant_at.Goals as goal

pub returns : goal.returns
returns c =
    let reads = c.advance_reads-reads.ensures in
    let writes = c.advance_writes-writes.ensures in
    let many = c.how_many.ensures in record {
      due = rw (c.min.ensures, many.0, writes.due, reads.due);
      gone = (writes.gone, reads.gone);
      few = (omega (arith, many.1, reads.few), many.2);
    }

pub overflow_add-result : goal.overflow_add-result
overflow_add-result c =
    omega (arith, c.how_many.ensures.1, c.advance_reads-reads.ensures.few)
