-- `texts::Text::put_word` meets its contract. Assumes nothing.
use Rattle.texts.proofs.Putting.{put_next}
use Rattle.texts.proofs.Text.put_word.Goals as goal

pub loop-byte-preserved : goal.loop-byte-preserved
loop-byte-preserved c =
    put_next _ c.loop-byte.byte-index c.loop-byte-test.true c.loop-byte.invariant c.put_byte.ensures
