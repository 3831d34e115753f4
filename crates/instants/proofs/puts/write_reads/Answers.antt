-- `instants::puts::write_reads` meets its contract. The loop's invariant: the reads of the labels met were put. Assumes
-- nothing.
use mathlib.Core.Path.{refl, ◌∙◌}
use Rattle.lists.specs.Lists.{each_of}
use Rattle.masks.proofs.OfLabels.{labels_done}
use Rattle.instants.specs.Due.{writer_due, reads_in}
use Rattle.instants.proofs.OfLabel.{reads_of}
use Rattle.instants.proofs.Putting.{no_copy, one_more_put}
use Rattle.instants.proofs.puts.write_reads.Goals as goal

pub loop-label-init : goal.loop-label-init
unfolding each_of
loop-label-init c = no_copy _ _ refl

pub loop-label-preserved : goal.loop-label-preserved
unfolding writer_due
loop-label-preserved c =
    let a = c.args in
    one_more_put (reads_of a.table.now.writer a.table.now.readers a.serves.now) _ _ c.loop-label.invariant c.reads_of-last.ensures

pub returns : goal.returns
unfolding reads_in
returns c =
    let a = c.args in
    let whole = c.into_iter-label-iterator.ensures.into_iter_gives ∙ c.labels-label-items.ensures in
    rw (← labels_done (reads_of a.table.now.writer a.table.now.readers a.serves.now) _ _ _ whole c.loop-label.yielded_by
    c.in-None.ensures.steps)
    c.loop-label.invariant
