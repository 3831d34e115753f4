-- `gathering::counter_of` meets its contract. Assumes nothing.
use Rattle.gathering.specs.Counters.{counter_of}
use Rattle.gathering.proofs.counter_of.Goals as goal

pub returns : goal.returns
unfolding counter_of
returns c = rw c.min.ensures
