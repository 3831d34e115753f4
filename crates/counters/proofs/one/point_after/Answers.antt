-- `counters::one::point_after` meets its contract. Assumes nothing.
use Rattle.counters.specs.Advanced.{point_after}
use Rattle.counters.proofs.one.point_after.Goals as goal

pub returns-in-Publishing : goal.returns-in-Publishing
unfolding point_after
returns-in-Publishing c = rw c.in-Publishing.is c.publishing_after.ensures

pub returns-in-Reading : goal.returns-in-Reading
unfolding point_after
returns-in-Reading c = rw c.in-Reading.is c.reading_after.ensures
