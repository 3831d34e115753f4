-- Fields of whole bytes: one byte more, and how large a few bytes can be; and a part of a string of bytes. No contract cites this file. Assumes nothing.
use Prim.Native.Nat.{ℕ, ◌+◌, ◌-◌, ◌*◌, ◌<◌, ◌≤◌}
use mathlib.Core.Path.{◌≡◌, ◌∙◌}
use mathlib.Core.List.{List}
use native.Mathlib.Nat.{lt_of_lt_of_le}
use native.Mathlib.Omega.{arith}
use lib.ListN.{length, get_or, take, drop}
use Rattle.std.proofs.lemmas.List.{get_or-drop, get_or-take, length-take-le, length-drop}
use lib.Pow.{pow_mono}
use Rattle.bits.specs.Bits.{field_at}
use Rattle.bits.proofs.Fields.{field_below, field_parts, field_byte}

module _ (bytes : List ℕ) (from i : ℕ) where
  -- one byte more
  pub field_one_byte_more : get_or bytes (from + i) 0 < 256
      → field_at bytes (8 * from) (8 * (i + 1)) ≡ field_at bytes (8 * from) (8 * i) * 256 + get_or bytes (from + i) 0
  field_one_byte_more byte =
      let width : 8 * (i + 1) ≡ 8 * i + 8 = omega arith in
      let place : 8 * from + 8 * i ≡ 8 * (from + i) = omega arith in
      rw (width, field_parts bytes (8 * from) (8 * i) 8, place, field_byte bytes (from + i) byte)

  -- at most four bytes stay below 2 ^ 32
  pub four_bytes_below : i ≤ 4 → field_at bytes (8 * from) (8 * i) < 4294967296
  four_bytes_below few = lt_of_lt_of_le (field_below bytes (8 * from) (8 * i)) (pow_mono {j = 32} (omega arith))

-- the bytes of a part of a string
module _ (bytes : List ℕ) (from count : ℕ) (inside : from + count ≤ length bytes) where
  pub part_long : length (take (from + count - from) (drop from bytes)) ≡ count
  part_long =
      let some : from + count - from ≡ count = omega arith in
      length-take-le _ _ (rw (some, length-drop from bytes) (omega arith)) ∙ some

  pub part_at : (i : ℕ) → i < count → get_or (take (from + count - from) (drop from bytes)) i 0 ≡ get_or bytes (from + i) 0
  part_at i small =
      let some : from + count - from ≡ count = omega arith in
      get_or-take (from + count - from) (drop from bytes) i 0 (rw some small) ∙ get_or-drop from bytes i 0
