-- A field of a string of bytes: its bound, its two parts, a whole byte, and a part cut out of it. No contract cites
-- this file. Assumes nothing.
use Prim.Native.Nat.{ℕ, zero, suc, ◌+◌, ◌-◌, ◌*◌, ◌/◌, ◌%◌, ◌^◌, ◌<◌, ◌≤◌}
use mathlib.Core.Path.{◌≡◌, sym, ◌∙◌}
use mathlib.Core.List.{List}
use native.Mathlib.Nat.{add-zero, add-suc, add_assoc, mul-one, mul_assoc, pow-zero, pow-suc, mod-lt, div-one}
use native.Mathlib.Nat.{div-div-eq-div-mul}
use native.Mathlib.Omega.{arith}
use lib.ListN.{get_or}
use lib.Dec.{lit<}
use lib.Pow.{high, low}
use Rattle.bits.specs.Bits.{bit_at, field_at}

module _ (bytes : List ℕ) where
  bit_below : (k : ℕ) → bit_at bytes k < 2
  unfolding bit_at
  bit_below k = mod-lt _ (lit< tt)

  -- a field of w bits is below 2 ^ w
  pub field_below : (at w : ℕ) → field_at bytes at w < 2 ^ w
  unfolding field_at
  field_below at zero = rw pow-zero (lit< tt)
  field_below at (suc w) =
      let below = field_below at w in
      let bit = bit_below (at + w) in
      rw pow-suc (omega arith)

  -- a field is its first v bits and then its other w bits
  pub field_parts : (at v w : ℕ) → field_at bytes at (v + w) ≡ field_at bytes at v * 2 ^ w + field_at bytes (at + v) w
  unfolding field_at
  field_parts at v zero = rw (pow-zero, add-zero v, mul-one) (sym (add-zero _))
  field_parts at v (suc w) =
      let parts = field_parts at v w in
      rw (add-suc, pow-suc, ← add_assoc at v w, ← mul_assoc) (omega arith)

  -- the first j bits of a byte are the byte without its other bits
  byte_top : (k j : ℕ) → get_or bytes k 0 < 256 → j ≤ 8 → field_at bytes (8 * k) j ≡ get_or bytes k 0 / 2 ^ (8 - j)
  unfolding field_at bit_at
  byte_top k zero byte le = omega arith
  byte_top k (suc j) byte le =
      let top = byte_top k j byte (omega arith) in
      let place : (8 * k + j) / 8 ≡ k = omega arith in
      let within : (8 * k + j) % 8 ≡ j = omega arith in
      let one_more : 8 - j ≡ suc (7 - j) = omega arith in
      let one_less : 8 - suc j ≡ 7 - j = omega arith in
      rw (top, place, within, one_more, one_less, pow-suc, ← div-div-eq-div-mul) (omega arith)

  -- a field of a whole byte is the byte
  pub field_byte : (k : ℕ) → get_or bytes k 0 < 256 → field_at bytes (8 * k) 8 ≡ get_or bytes k 0
  field_byte k byte = byte_top k 8 byte (omega arith) ∙ div-one _

  -- w bits cut out of a field, with v bits before them and u bits after them
  pub field_cut : (at v w u : ℕ) → field_at bytes at (v + w + u) / 2 ^ u % 2 ^ w ≡ field_at bytes (at + v) w
  field_cut at v w u =
      let first = field_parts at (v + w) u in
      let second = field_parts at v w in
      rw (first, second, high _ u (field_below (at + (v + w)) u), low _ w (field_below (at + v) w))
