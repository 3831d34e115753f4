-- `round_up_to_limit` meets its contract. The loop's invariant: the running value is the least common multiple of the
-- periods passed, held at 1,000,001 where it is larger. Assumes nothing.
use mathlib.Core.Path.{◌≡◌}
use lib.ListN.{take}
use Rattle.times.specs.Hyperperiod.{lcm_of}
use Rattle.times.proofs.Limit.{held}
use Rattle.times.proofs.rounds.round_up_to_limit.Given as goal

abbrev pub invariant-loop-period : goal.invariant-loop-period
invariant-loop-period l = l.running ≡ held (lcm_of (take l.period-index l.periods))
