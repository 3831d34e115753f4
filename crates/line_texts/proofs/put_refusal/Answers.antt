-- `line_texts::put_refusal` meets its contract. Assumes nothing.
use Rattle.printing.specs.Printed.{text_of}
use Rattle.texts.proofs.Putting.{put_then}
use Rattle.line_texts.proofs.put_refusal.Goals as goal

pub returns : goal.returns
unfolding text_of
returns c =
    let number = rw c.from.ensures at c.put_named.ensures in
    put_then (put_then number (put_then c.put_byte.ensures c.put_number.ensures)) c.put_byte-2.ensures
