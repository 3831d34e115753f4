-- `lines::digits::decimal_at` meets its contract. Assumes nothing.
use Rattle.std.proofs.Common.{arith}
use Rattle.std.proofs.lemmas.Grind.{common_steps}
use Rattle.lines.specs.Digits.{decimal_at}
use Rattle.lines.proofs.digits.decimal_at.Goals as goal

pub returns : goal.returns
unfolding decimal_at
returns c = grind (arith, common_steps, c.filter.ensures)
