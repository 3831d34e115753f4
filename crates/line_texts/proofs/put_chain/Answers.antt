-- `line_texts::put_chain` meets its contract: the parts of the line were put one after the other. Assumes nothing.
use Rattle.printing.specs.Printed.{chain_text}
use Rattle.texts.proofs.Putting.{put_then}
use Rattle.line_texts.proofs.put_chain.Goals as goal

pub returns : goal.returns
unfolding chain_text
returns c =
    let chain = rw c.from.ensures at c.put_named.ensures in
    let paths = put_then chain c.put_part.ensures in
    let long = put_then paths c.put_part-2.ensures in
    let worst = put_then long c.put_part-3.ensures in
    let best = put_then worst c.put_part-4.ensures in
    let jitter = put_then best c.put_part-5.ensures in
    put_then jitter c.put_byte.ensures
