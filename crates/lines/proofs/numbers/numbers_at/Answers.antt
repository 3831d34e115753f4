-- `lines::numbers::numbers_at` meets its contract. Assumes nothing.
use Rattle.std.proofs.Common.{arith}
use Rattle.std.proofs.lemmas.Grind.{common_steps}
use Rattle.lines.specs.Numbers.{numbers_at}
use Rattle.lines.proofs.numbers.numbers_at.Goals as goal

pub returns-in_err-first : goal.returns-in_err-first
unfolding numbers_at
returns-in_err-first c = grind (arith, common_steps)

pub returns-in_err-second : goal.returns-in_err-second
unfolding numbers_at
returns-in_err-second c = grind (arith, common_steps)

pub returns-in_err-third : goal.returns-in_err-third
unfolding numbers_at
returns-in_err-third c = grind (arith, common_steps)

pub returns : goal.returns
unfolding numbers_at
returns c = grind (arith, common_steps)
