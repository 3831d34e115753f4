-- `line_texts::put_line` meets its contract. Assumes nothing.
use Rattle.texts.proofs.Putting.{put_then}
use Rattle.line_texts.proofs.put_line.Goals as goal

pub returns : goal.returns
returns c = put_then c.put_named.ensures c.put_byte.ensures
