-- `stored_words::store_some` meets its contract. The loop's invariant: the bytes passed were stored one after the other.
-- Assumes nothing.
use Prim.Native.Nat.{◌*◌}
use mathlib.Core.Path.{◌≡◌}
use lib.Seq.{sets}
use Rattle.bits.specs.Packing.{bits_of, bytes_of}
use Rattle.stored_words.proofs.store_some.Given as goal

abbrev pub invariant-loop-i : goal.invariant-loop-i
invariant-loop-i l = l.bytes ≡ sets l.initial.bytes (4 * l.at) (bytes_of l.i (bits_of 32 l.word))
