-- `framing::written::write_frame` meets its contract: two fields and then the copies. Assumes nothing.
use native.Mathlib.Omega.{arith}
use Rattle.instants.proofs.Putting.{puts_then}
use Rattle.framing.proofs.PutFrames.{field_put}
use Rattle.framing.proofs.written.write_frame.Goals as goal

pub returns : goal.returns
returns c start_fits count_fits =
    puts_then (field_put 20 _ (omega arith) start_fits c.put-first.ensures)
    (puts_then (field_put 12 _ (omega arith) count_fits c.put-second.ensures) c.write_copies.ensures)
