-- `add` of the tally of what is read meets its contract. Assumes nothing.
use Rattle.gathering.specs.Pairs.{with_mask}
use Rattle.counters.proofs.tallies.ReadTally.add.Goals as goal

pub returns-clause-one_more : goal.returns-clause-one_more
unfolding with_mask
returns-clause-one_more c =
    rw (
      c.writer_in.ensures.is,
      c.reader_in.ensures.is,
      c.how_many.ensures.0,
      c.common_labels-common.ensures,
    )
