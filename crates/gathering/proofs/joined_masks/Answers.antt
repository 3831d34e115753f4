-- `gathering::joined_masks` meets its contract. Assumes nothing.
use Rattle.std.proofs.Common.{◌≡◌, min, refl, ap, ◌∙◌, add-one, arith}
use Rattle.instants.specs.Due.{writer_due}
use Rattle.gathering.specs.Pairs.{with_mask, joined_below, joined_masks}
use Rattle.gathering.proofs.joined_masks.Goals as goal

pub loop-l-init : goal.loop-l-init
unfolding joined_below
loop-l-init c = refl

pub loop-l-preserved : goal.loop-l-preserved
unfolding joined_below with_mask writer_due
loop-l-preserved c = rw (add-one, c.loop-l.invariant)

pub returns : goal.returns
unfolding joined_masks
returns c =
    let table = c.args.table.now in
    let all : c.loop-l.l ≡ min table.labels 64 = omega (arith, c.min-l-end.ensures, c.loop-l.auto.l-end) in
    c.loop-l.invariant ∙ ap (joined_below table.writer table.readers) all
