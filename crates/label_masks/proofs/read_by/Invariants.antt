-- `label_masks::read_by` meets its contract. The loop's invariant: those of the readers met that are among the first
-- tasks hold the label. Assumes nothing.
use Rattle.label_masks.proofs.LabelAdded.{AddedTo}
use Rattle.label_masks.proofs.read_by.Given as goal

abbrev pub invariant-loop-reader : goal.invariant-loop-reader
invariant-loop-reader l = AddedTo l.label l.tasks l.yielded l.initial.masks l.masks
