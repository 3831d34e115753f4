-- `Table::empty` meets its contract. Assumes nothing.
use mathlib.Core.Path.{refl}
use Rattle.lists.specs.Lists.{padded}
use Rattle.table.specs.Image.{table_of}
use Rattle.table.specs.Shown.{nothing}
use Rattle.table.proofs.Table.empty.Goals as goal

pub returns : goal.returns
unfolding nothing table_of padded
returns c = refl
