-- `times::divisors::common_divisor` meets its contract, whichever number is larger. Assumes nothing.
use mathlib.Core.Path.{◌∙◌}
use Rattle.times.proofs.Gcd.{gcd_turned}
use Rattle.times.proofs.divisors.common_divisor.Goals as goal

pub returns-then-a-b : goal.returns-then-a-b
returns-then-a-b c = c.gcd.ensures ∙ gcd_turned _ _ c.if-a-b.true
