-- `quotients::Pace::taken_by` meets its contract. Assumes nothing.
use Rattle.std.proofs.Common.{ap, ◌*◌, arith}
use Rattle.times.specs.Releases.{release, last_to}
use Rattle.quotients.proofs.pace.Pace.taken_by.Goals as goal

pub returns : goal.returns
unfolding last_to release
returns c = ap (λ q. q * c.args.self.period) (c.quotient.ensures.quotient (omega arith))
