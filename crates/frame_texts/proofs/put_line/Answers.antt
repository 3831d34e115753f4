-- `frame_texts::put_line` meets its contract: the start, the writes, the reads and the end of the line are put one after
-- the other. Assumes nothing.
use Rattle.printing.specs.Printed.{frame_text}
use Rattle.texts.proofs.Putting.{put_then}
use Rattle.frame_texts.proofs.CopiesPut.{copies_then}
use Rattle.frame_texts.proofs.put_line.Goals as goal

pub returns : goal.returns
unfolding frame_text
returns c =
    let start = rw c.from.ensures at c.put_number.ensures in
    let copies = copies_then _ _ (c.put_writes.ensures _) c.put_reads.ensures in
    put_then (put_then start copies) c.put_byte.ensures
