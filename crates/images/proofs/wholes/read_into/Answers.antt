-- `images::wholes::read_into` meets its contract: all fields are taken and the hyperperiod is within its limit, or a
-- refusal is handed on. Assumes nothing.
use Rattle.images.proofs.WholeImage.{whole_of_round}
use Rattle.images.proofs.wholes.read_into.Goals as goal

pub returns : goal.returns
returns c =
    rw c.ok_or.ensures.value (whole_of_round _ c.hyperperiod.result c.in_ok-read_fields.ensures c.hyperperiod.ensures)
