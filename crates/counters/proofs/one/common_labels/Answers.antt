-- `counters::one::common_labels` meets its contract. Assumes nothing.
use Rattle.counters.specs.Advanced.{common_labels}
use Rattle.counters.proofs.one.common_labels.Goals as goal

pub returns : goal.returns
unfolding common_labels
returns c = rw (c.writer_in.ensures.is, c.reader_in.ensures.is)
