-- `numbered_points::publishing` meets its contract: P(n) is a last release. Assumes nothing.
use Rattle.times.specs.Releases.{release, last_to}
use Rattle.times.specs.Points.{publishing}
use Rattle.numbered_points.proofs.publishing.Goals as goal

pub returns : goal.returns
unfolding publishing last_to release
returns c = rw (c.last_to.ensures.is, c.times_larger.ensures.is)
