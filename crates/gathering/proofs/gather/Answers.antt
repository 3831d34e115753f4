-- `gathering::gather` meets its contract. Assumes nothing.
use Rattle.std.proofs.Common.{arith}
use Rattle.gathering.proofs.InArray.{stored_none}
use Rattle.gathering.proofs.Walk.{no_writer, one_writer_more}
use Rattle.gathering.proofs.gather.Goals as goal

pub loop-w-init : goal.loop-w-init
loop-w-init c = record { few = omega arith; stored = rw no_writer (stored_none _ _) }

pub loop-w-preserved : goal.loop-w-preserved
loop-w-preserved c =
    let all_stored = c.store_pairs-count.ensures in
    record {
      few = omega (arith, all_stored.few, c.loop-w.invariant.few);
      stored = rw one_writer_more (all_stored.adds _ _ c.loop-w.invariant.stored);
    }
