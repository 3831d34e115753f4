-- `lines::digits::digit_at` meets its contract. Assumes nothing.
use Rattle.std.proofs.Common.{arith}
use Rattle.std.proofs.lemmas.Grind.{common_steps}
use Rattle.std.proofs.lemmas.Option.{gets}
use Rattle.lines.specs.Digits.{digit_at}
use Rattle.lines.proofs.digits.digit_at.Goals as goal

pub returns-in_err-get : goal.returns-in_err-get
unfolding digit_at
returns-in_err-get c = grind (arith, common_steps, gets, c.in_err-get.ensures.lookup)

pub returns : goal.returns
unfolding digit_at
returns c = grind (arith, common_steps, gets, c.in_ok-get.ensures.lookup)
