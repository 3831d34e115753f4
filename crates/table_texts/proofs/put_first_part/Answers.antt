-- `table_texts::put_first_part` meets its contract. Assumes nothing.
use Rattle.table_texts.proofs.EachPut.{first_part}
use Rattle.table_texts.proofs.put_first_part.Goals as goal

pub returns : goal.returns
returns c right = first_part _ _ _ right.is c.put_hyperperiod.ensures (c.put_cores.ensures right)
