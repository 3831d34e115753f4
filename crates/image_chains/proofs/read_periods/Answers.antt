-- `image_chains::read_periods` meets its contract: what was taken of an accepted table is what is shown. Assumes nothing.
use Rattle.images.proofs.WholeImage.{nothing_held}
use Rattle.image_chains.proofs.ChainPeriods.{right_if, shown_by}
use Rattle.image_chains.proofs.read_periods.Goals as goal

pub read_into-answer-requires : goal.read_into-answer-requires
read_into-answer-requires c = nothing_held c.empty-table.ensures

pub periods_of-requires : goal.periods_of-requires
periods_of-requires c = right_if _ _ c.read_into-answer.ensures

pub returns : goal.returns
returns c =
    let of = c.periods_of.ensures in
    shown_by _ _ _ c.read_into-answer.ensures of.taken of.refused of.accepted
