-- `label_masks::written_labels` meets its contract. The loop's invariant: the masks have the labels passed. Assumes
-- nothing.
use Prim.Native.Nat.{min}
use mathlib.Core.Path.{◌≡◌, refl, ◌∙◌}
use native.Mathlib.Omega.{arith}
use lib.ListN.{length-set}
use Rattle.instants.specs.Due.{writer_due}
use Rattle.label_masks.proofs.OneMore.{none_written, one_more_written, all_written}
use Rattle.label_masks.proofs.written_labels.Goals as goal

pub loop-l-init : goal.loop-l-init
loop-l-init c = rw c.requires (refl, none_written _)

pub loop-l-preserved : goal.loop-l-preserved
unfolding writer_due
loop-l-preserved c =
    let turn = c.loop-l in (
      length-set turn.masks _ _ ∙ turn.invariant.0,
      one_more_written _ turn.invariant.0 (omega arith) turn.invariant.1,
    )

pub returns : goal.returns
returns c =
    let all : c.loop-l.l ≡ min c.args.table.now.labels 64 = omega arith in
    all_written _ (rw all at c.loop-l.invariant.1)
