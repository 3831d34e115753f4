-- The measure of `gcd` is b, since the remainder falls below it.
use Rattle.times.proofs.divisors.+gcd.Given as goal

abbrev pub decreases-gcd : goal.decreases-gcd
decreases-gcd l = l.b
