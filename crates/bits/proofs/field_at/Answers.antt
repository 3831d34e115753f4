-- `bits::field_at` meets its contract: the field is cut out of the whole bytes that it reaches into. Assumes nothing.
use native.Mathlib.Omega.{arith}
use mathlib.Core.Path.{ap, ◌∙◌}
use native.Mathlib.Nat.{lt_of_lt_of_le, mod-lt}
use lib.Pow.{pow_pos, pow_mono}
use Rattle.outcomes.specs.Outcome.{gives}
use Rattle.bits.proofs.Reached.{found_ends, found_value, found_cut}
use Rattle.bits.proofs.field_at.Goals as goal

pub returns-then-bytes-from : goal.returns-then-bytes-from
returns-then-bytes-from c = rw (← c.min-wide.ensures) (found_ends _ _ _ (omega arith))

pub nonzero_rem-result : goal.nonzero_rem-result
nonzero_rem-result c = rw c.power.ensures (pow_pos _)

pub overflow_cast-result : goal.overflow_cast-result
overflow_cast-result c =
    rw c.power.ensures
    (record { fits = lt_of_lt_of_le (mod-lt _ (pow_pos _)) (pow_mono {j = 32} (omega arith)) })

pub returns : goal.returns
returns c =
    rw (← c.min-wide.ensures, c.bytes_at.ensures, c.power.ensures)
    (ap gives (found_cut _ _ _) ∙ found_value _ _ _ (omega arith))
