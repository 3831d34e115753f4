-- `readers::readers` meets its contract. Assumes nothing.
use Rattle.readers.proofs.InTurn.{from_first}
use Rattle.readers.proofs.readers.Goals as goal

pub returns : goal.returns
returns c = from_first c.args.field
