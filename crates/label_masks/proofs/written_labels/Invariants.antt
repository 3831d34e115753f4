-- `label_masks::written_labels` meets its contract. The loop's invariant: the masks have the labels passed. Assumes
-- nothing.
use mathlib.Core.Path.{◌≡◌}
use lib.ListN.{length}
use Rattle.label_masks.specs.LabelMasks.{WrittenLabels}
use Rattle.label_masks.proofs.written_labels.Given as goal

abbrev pub invariant-loop-l : goal.invariant-loop-l
invariant-loop-l l = (length l.masks ≡ 32) × WrittenLabels l.l l.table.writer l.masks
