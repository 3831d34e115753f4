-- `images::read_table` meets its contract: the answer of the whole image, and its table. Assumes nothing.
use mathlib.Core.Path.{sym, ap, ◌∙◌}
use Rattle.images.proofs.WholeImage.{nothing_held, nothing_shown, whole_shown, answer_shown}
use Rattle.images.proofs.read_table.Goals as goal

pub read_into-requires : goal.read_into-requires
read_into-requires c = nothing_held c.empty-table.ensures

pub returns-in-Ok : goal.returns-in-Ok
returns-in-Ok c = record {
  answer = answer_shown _ _ c.in-Ok.ensures;
  table = sym (ap (λ whole. whole.table) (whole_shown _ c.in-Ok.ensures));
}

pub returns-in-Err : goal.returns-in-Err
returns-in-Err c = record {
  answer = answer_shown _ _ c.in-Err.ensures;
  table = c.empty.ensures ∙ sym (ap (λ whole. whole.table) (nothing_shown _ c.in-Err.ensures));
}
