-- `core_texts::put_core_text` meets its contract. Assumes nothing.
use Prim.Native.Nat.{ℕ}
use native.Mathlib.Omega.{arith}
use lib.ListN.{length-replicate}
use Rattle.frames.proofs.Gathered.{ready_parts}
use Rattle.core_texts.proofs.FramesPut.{core_put}
use Rattle.core_texts.proofs.put_core_text.Goals as goal

pub returns : goal.returns
returns c right =
    let both = c.gather_both-both.ensures in
    let masks = c.label_masks-masks.ensures in
    let places = length-replicate {A = ℕ} 1024 4294967295 in
    core_put _ _ c.put_core.ensures
    (c.put_frames.ensures _ right (record { of_writers = masks.written; of_readers = masks.read })
    (ready_parts both right.right c.joined_masks-joined.ensures (omega (arith, places)) (omega (arith, places))))
