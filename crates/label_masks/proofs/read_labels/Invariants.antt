-- `label_masks::read_labels` meets its contract. The loop's invariant: the masks have the labels passed. Assumes nothing.
use mathlib.Core.Path.{◌≡◌}
use lib.ListN.{length}
use Rattle.label_masks.specs.LabelMasks.{ReadLabels}
use Rattle.label_masks.proofs.read_labels.Given as goal

abbrev pub invariant-loop-l : goal.invariant-loop-l
invariant-loop-l l = (length l.masks ≡ 32) × ReadLabels l.l l.tasks l.table.readers l.masks
