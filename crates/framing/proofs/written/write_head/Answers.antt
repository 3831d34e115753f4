-- `framing::written::write_head` meets its contract: three fields, one after the other. Assumes nothing.
use native.Mathlib.Omega.{arith}
use Rattle.instants.proofs.Putting.{puts_then}
use Rattle.framing.proofs.PutFrames.{field_put}
use Rattle.framing.proofs.written.write_head.Goals as goal

pub returns : goal.returns
returns c core-fits round-fits frames-fit =
    puts_then (field_put 3 _ (omega arith) core-fits (rw (← c.new.ensures.fresh) c.put-first.ensures))
    (puts_then (field_put 20 _ (omega arith) round-fits c.put-second.ensures)
    (field_put 20 _ (omega arith) frames-fit c.put.ensures))
