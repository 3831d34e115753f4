-- `quotients::Pace::last_to` meets its contract. Assumes nothing.
use Rattle.std.proofs.Common.{ap, ◌*◌, arith}
use Rattle.times.specs.Releases.{release, last_to}
use Rattle.quotients.proofs.pace.Pace.last_to.Goals as goal

pub returns : goal.returns
unfolding last_to release
returns c = ap (λ q. q * c.args.self.period) (c.quotient.ensures.quotient (omega arith))
