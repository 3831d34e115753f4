-- `frame_texts::parts::put_reads` meets its contract. Assumes nothing.
use mathlib.Core.Path.{sym, ◌∙◌}
use Rattle.masks.proofs.Rising.{all_met}
use Rattle.instants.specs.Due.{writer_due, reads_in}
use Rattle.frame_texts.proofs.CopiesPut.{none_met, one_more, all_labels}
use Rattle.frame_texts.proofs.parts.put_reads.Goals as goal

pub loop-label-init : goal.loop-label-init
loop-label-init c = none_met _ _

pub loop-label-preserved : goal.loop-label-preserved
unfolding writer_due
loop-label-preserved c = one_more _ c.loop-label.yielded c.in-Some.label c.loop-label.invariant c.put_label.ensures

pub returns : goal.returns
unfolding reads_in
returns c =
    let all = all_met 64 _ _ c.loop-label.yielded_by c.in-None.ensures.steps in
    let from = c.into_iter-label-iterator.ensures.into_iter_gives ∙ c.labels-label-items.ensures in
    all_labels _ _ (sym from ∙ all) c.loop-label.invariant
