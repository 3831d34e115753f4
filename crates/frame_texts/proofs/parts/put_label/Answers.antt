-- `frame_texts::parts::put_label` meets its contract. Assumes nothing.
use mathlib.Core.Path.{sym, ◌∙◌}
use Rattle.masks.proofs.Rising.{all_met}
use Rattle.frame_texts.proofs.CopiesPut.{none_met, one_more, one_copy, all_readers}
use Rattle.frame_texts.proofs.parts.put_label.Goals as goal

pub loop-reader-init : goal.loop-reader-init
loop-reader-init c = none_met _ _

pub loop-reader-preserved : goal.loop-reader-preserved
loop-reader-preserved c =
    one_more _ c.loop-reader.yielded c.in-Some.reader c.loop-reader.invariant (one_copy _ c.put_read.ensures)

pub returns : goal.returns
returns c =
    let all = all_met 32 _ _ c.loop-reader.yielded_by c.in-None.ensures.steps in
    let from = c.into_iter-reader-iterator.ensures.into_iter_gives ∙ c.readers-reader-items.ensures in
    all_readers _ _ _ (sym from ∙ all) c.loop-reader.invariant
