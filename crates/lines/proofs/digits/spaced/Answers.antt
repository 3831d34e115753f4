-- `lines::digits::spaced` meets its contract. Assumes nothing.
use Rattle.std.proofs.Common.{arith}
use Rattle.std.proofs.lemmas.Grind.{common_steps}
use Rattle.std.proofs.lemmas.Option.{gets}
use Rattle.lines.specs.Digits.{space_at}
use Rattle.lines.proofs.digits.spaced.Goals as goal

pub returns : goal.returns
unfolding space_at
returns c = grind (arith, common_steps, gets, c.eq.ensures, c.get.ensures.lookup)
