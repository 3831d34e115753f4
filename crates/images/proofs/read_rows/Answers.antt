-- `images::read_rows` meets its contract: the rows of an accepted image; of a refused one all are 0. Assumes nothing.
use mathlib.Core.Path.{sym, ap}
use Rattle.lists.specs.Lists.{padded}
use Rattle.table.specs.Image.{rows_of}
use Rattle.table.specs.Shown.{nothing}
use Rattle.images.proofs.WholeImage.{nothing_held, nothing_shown, whole_shown}
use Rattle.images.proofs.read_rows.Goals as goal

pub read_into-requires : goal.read_into-requires
read_into-requires c = nothing_held c.empty-beside.ensures

pub returns-in_default : goal.returns-in_default
unfolding nothing rows_of padded
returns-in_default c = sym (ap (λ whole. whole.rows) (nothing_shown _ c.in_default.ensures))

pub returns : goal.returns
returns c = sym (ap (λ whole. whole.rows) (whole_shown _ c.in-Ok.ensures))
