-- `bits::bytes_at` meets its contract. The loop's invariant: the number so far is the field of the bytes passed.
-- Assumes nothing.
use Prim.Native.Nat.{◌*◌}
use mathlib.Core.Path.{◌≡◌}
use Rattle.bits.specs.Bits.{field_at}
use Rattle.bits.proofs.bytes_at.Given as goal

abbrev pub invariant-loop-byte : goal.invariant-loop-byte
invariant-loop-byte l = l.number ≡ field_at l.bytes (8 * l.from) (8 * l.byte-index)
