-- `label_masks::read_by` meets its contract. The loop's invariant: those of the readers met that are among the first
-- tasks hold the label. Assumes nothing.
use mathlib.Core.Path.{◌∙◌}
use Rattle.readers.proofs.InTurn.{among_readers}
use Rattle.label_masks.proofs.LabelAdded.{added_none, added_more, added_past, added_all}
use Rattle.label_masks.proofs.read_by.Goals as goal

pub loop-reader-init : goal.loop-reader-init
loop-reader-init c = added_none _ _ _

pub loop-reader-preserved-then-r-tasks : goal.loop-reader-preserved-then-r-tasks
loop-reader-preserved-then-r-tasks c =
    let added = c.loop-reader.invariant in
    let (label, tasks, long) = c.requires in
    added_more _ _ _ _ _ c.if-r-tasks.true c.in-Some.ensures.steps.1 label (added.long ∙ long) added

pub loop-reader-preserved : goal.loop-reader-preserved
loop-reader-preserved c = added_past _ _ _ _ _ c.if-r-tasks.false c.loop-reader.invariant

pub returns : goal.returns
returns c =
    let whole = c.into_iter-reader-iterator.ensures.into_iter_gives ∙ c.readers-reader-items.ensures in
    added_all _ _ _ _ _ c.loop-reader.invariant
    (among_readers _ _ _ whole c.loop-reader.yielded_by c.in-None.ensures.steps)
