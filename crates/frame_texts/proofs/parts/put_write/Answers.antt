-- `frame_texts::parts::put_write` meets its contract. Assumes nothing.
use Rattle.printing.specs.Printed.{copy_text}
use Rattle.texts.proofs.Putting.{put_then}
use Rattle.frame_texts.proofs.parts.put_write.Goals as goal

pub returns : goal.returns
unfolding copy_text
returns c writer = put_then c.put_word.ensures (rw c.from.ensures at c.put_number.ensures)
