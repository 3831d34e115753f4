-- `numbered_points::reading` meets its contract: Q(n) is a first release. Assumes nothing.
use Rattle.times.specs.Releases.{release, first_from}
use Rattle.times.specs.Points.{reading}
use Rattle.numbered_points.proofs.reading.Goals as goal

pub returns : goal.returns
unfolding reading first_from release
returns c = rw (c.first_from.ensures.is, c.times_larger.ensures.is)
