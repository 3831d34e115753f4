-- `instants::puts::write_writes` meets its contract. The loop's invariant: the writes of the labels met were put. Assumes
-- nothing.
use mathlib.Core.Path.{refl, ◌∙◌}
use Rattle.lists.specs.Lists.{each_of}
use Rattle.masks.proofs.OfLabels.{labels_done}
use Rattle.instants.specs.Due.{writer_due, writes_in}
use Rattle.instants.proofs.OfLabel.{write_of}
use Rattle.instants.proofs.Putting.{no_copy, one_write, one_more_put}
use Rattle.instants.proofs.puts.write_writes.Goals as goal

pub loop-l-init : goal.loop-l-init
unfolding each_of
loop-l-init c = no_copy _ _ refl

pub loop-l-preserved : goal.loop-l-preserved
unfolding writer_due
loop-l-preserved c =
    one_more_put (write_of c.args.table.now.writer) _ _ c.loop-l.invariant (one_write _ _ refl c.put_copy-last.ensures)

pub returns : goal.returns
unfolding writes_in
returns c =
    let whole = c.into_iter-l-iterator.ensures.into_iter_gives ∙ c.labels-l-items.ensures in
    rw (← labels_done (write_of c.args.table.now.writer) _ _ _ whole c.loop-l.yielded_by c.in-None.ensures.steps)
    c.loop-l.invariant
