-- `label_masks::read_labels` meets its contract. The loop's invariant: the masks have the labels passed. Assumes nothing.
use Prim.Native.Nat.{min}
use mathlib.Core.Path.{◌≡◌, refl, ◌∙◌}
use native.Mathlib.Omega.{arith}
use Rattle.label_masks.proofs.LabelAdded.{none_read, one_more_read, all_read}
use Rattle.label_masks.proofs.read_labels.Goals as goal

pub loop-l-init : goal.loop-l-init
loop-l-init c = rw c.requires (refl, none_read _ _)

pub loop-l-preserved : goal.loop-l-preserved
loop-l-preserved c =
    let more = c.read_by.ensures in
    (more.long ∙ c.loop-l.invariant.0, one_more_read _ c.loop-l.invariant.1 more)

pub returns : goal.returns
returns c =
    let labels : c.loop-l.l ≡ min c.args.table.now.labels 64 = omega arith in
    all_read _ (rw (labels, c.min-tasks.ensures) at c.loop-l.invariant.1)
