-- `frame_texts::parts::put_read` meets its contract. Assumes nothing.
use Rattle.printing.specs.Printed.{copy_text}
use Rattle.texts.proofs.Putting.{put_then}
use Rattle.frame_texts.proofs.parts.put_read.Goals as goal

pub returns : goal.returns
unfolding copy_text
returns c =
    let label = rw c.from.ensures at c.put_number.ensures in
    let reader = rw c.from-2.ensures at c.put_number-2.ensures in
    put_then (put_then c.put_word.ensures label) (put_then c.put_byte.ensures reader)
