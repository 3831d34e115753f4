-- `quotients::Pace::quotient` meets its contract: the product, shifted, is the quotient. Assumes nothing.
use Rattle.quotients.proofs.Quotients.{quotient_is}
use Rattle.quotients.proofs.pace.Pace.quotient.Goals as goal

pub returns-clause-quotient : goal.returns-clause-quotient
returns-clause-quotient c = λ small.
    let self = c.args.self in
    rw c.quotient.ensures (quotient_is self.period self.factor self.shift c.args.n self.divides small)
