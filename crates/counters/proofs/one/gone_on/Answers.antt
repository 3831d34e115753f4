-- `counters::one::gone_on` meets its contract. Assumes nothing.
use Rattle.counters.specs.Advanced.{gone_on}
use Rattle.counters.proofs.one.gone_on.Goals as goal

pub returns : goal.returns
unfolding gone_on
returns c =
    rw (
      c.counter_of.ensures,
      c.point_after.ensures,
      c.writer_in.ensures.is,
      c.reader_in.ensures.is,
      c.tick_in.ensures,
    )
