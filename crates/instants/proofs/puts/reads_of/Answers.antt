-- `instants::puts::reads_of` meets its contract. The loop's invariant: the reads of the readers met were put. Assumes
-- nothing.
use mathlib.Core.Path.{refl, ◌∙◌}
use Rattle.lists.specs.Lists.{each_of}
use Rattle.readers.proofs.InTurn.{readers_done}
use Rattle.instants.proofs.OfLabel.{read_of, reads_served}
use Rattle.instants.proofs.Putting.{no_copy, one_read, one_more_put}
use Rattle.instants.proofs.puts.reads_of.Goals as goal

pub loop-r-init : goal.loop-r-init
unfolding each_of
loop-r-init c = no_copy _ _ refl

pub loop-r-preserved : goal.loop-r-preserved
loop-r-preserved c =
    one_more_put (read_of c.args.label) _ _ c.loop-r.invariant (one_read _ _ c.put_copy-last.ensures)

pub returns : goal.returns
returns c =
    let whole = c.into_iter-r-iterator.ensures.into_iter_gives ∙ c.readers-r-items.ensures in
    rw (
      ← reads_served c.args.field c.args.serves c.args.label,
      ← readers_done (read_of c.args.label) _ _ _ whole c.loop-r.yielded_by c.in-None.ensures.steps,
    )
    c.loop-r.invariant
