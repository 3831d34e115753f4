-- `texts::Text::put_named` meets its contract. Assumes nothing.
use Rattle.printing.specs.Words.{named}
use Rattle.texts.proofs.Putting.{put_then}
use Rattle.texts.proofs.Text.put_named.Goals as goal

pub returns : goal.returns
unfolding named
returns c = put_then c.put_word.ensures (put_then c.put_byte.ensures c.put_number.ensures)
