-- `readers::next_reader` meets its contract. Assumes nothing.
use mathlib.Core.Path.{sym, ap, ◌∙◌}
use native.Mathlib.Omega.{arith}
use lib.Count.{count_leading_zeros, leading_of_zero}
use Rattle.readers.proofs.Leading.{leading_next, leading_known}
use Rattle.readers.proofs.Walk.{no_next}
use Rattle.readers.proofs.next_reader.Goals as goal

-- from 32 on there is no task
pub returns-then-from-ge32 : goal.returns-then-from-ge32
returns-then-from-ge32 c = sym (no_next _ _ (λ j late less. absurd (omega arith)))

pub returns-then-left-eq0 : goal.returns-then-left-eq0
returns-then-left-eq0 c =
    sym (leading_next _ _ (omega arith)) ∙ ap (count_leading_zeros 32) c.if-left-eq0.true ∙ leading_of_zero 32

pub returns : goal.returns
returns c = (leading_next _ _ (omega arith), leading_known _ _ (omega arith) (omega arith) c.if-left-eq0.false)
