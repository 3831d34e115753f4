-- `stored_words::store_four` meets its contract: where there is room the four bytes are written in one run. Assumes nothing.
use Prim.Native.Nat.{◌+◌, ◌-◌, ◌*◌}
use mathlib.Core.Path.{refl, ◌∙◌}
use native.Mathlib.Nat.{mod-eq_of_lt}
use native.Mathlib.Omega.{arith}
use Rattle.bits.specs.Packing.{bits_of, bytes_of}
use Rattle.bits.proofs.BytesOf.{length_bytes}
use Rattle.stored_words.proofs.FourStored.{run_stored}
use Rattle.stored_words.proofs.store_four.Goals as goal

pub returns-then-at-bytes : goal.returns-then-at-bytes
returns-then-at-bytes c small =
    let a = c.args in
    let long = length_bytes 4 (bits_of 32 a.word) in (
      refl,
      rw (c.copy_from_slice.ensures.after, c.last_four.ensures)
          (run_stored (4 * a.at) a.bytes.now (bytes_of 4 (bits_of 32 a.word)) (4 * a.at + 4 - 4 * a.at) (omega (arith, long))
          (omega (arith, long))),
    )

pub returns : goal.returns
returns c small =
    let same = mod-eq_of_lt small in
    (rw same, c.store_some.ensures ∙ rw same)
