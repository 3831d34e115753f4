-- `line_texts::put_part` meets its contract. Assumes nothing.
use Rattle.texts.proofs.Putting.{put_then}
use Rattle.line_texts.proofs.put_part.Goals as goal

pub returns : goal.returns
returns c = put_then c.put_byte.ensures (rw c.from.ensures at c.put_named.ensures)
