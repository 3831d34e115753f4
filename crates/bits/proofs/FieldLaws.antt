-- The four laws of a field by its place and width: range, read of written, written of read, injectivity.
-- `Held bytes at bits`: the bytes hold these bits from bit `at` on. Assumes nothing.
use Prim.Native.Nat.{ℕ, ◌+◌, ◌<◌, ◌≤◌, ◌^◌}
use mathlib.Core.Path.{◌≡◌, sym, ap, ◌∙◌}
use mathlib.Core.List.{List}
use native.Mathlib.Omega.{arith}
use lib.ListN.{get_or}
use lib.Seq.{ext_get_or}
use Rattle.bits.specs.Bits.{bit_count, bit_at, field_at}
use Rattle.bits.specs.Packing.{bits_of}
use Rattle.bits.proofs.Fields.{field_below}
use Rattle.bits.proofs.Held.{Held}
use Rattle.bits.proofs.Written.{written_length, written_injective, field_written}

module _ (bytes : List ℕ) (at w : ℕ) where
  -- range: a field of w bits is below 2 ^ w
  pub field_range : field_at bytes at w < 2 ^ w
  field_range = field_below bytes at w

  -- read of written: where the bits of a value are held, the field is that value
  pub field_read_of_written : (v : ℕ) → v < 2 ^ w → Held bytes at (bits_of w v) → field_at bytes at w ≡ v
  field_read_of_written v small held =
      written_injective w (field_at bytes at w) v field_range small
      (ext_get_or 0 _ _ (written_length w _ ∙ sym (written_length w v)) (λ j below.
      let long = written_length w (field_at bytes at w) in
      let own = written_length w v in
      field_written bytes at w j (omega arith) ∙ held.each j (omega arith)))

  -- written of read: the bits of a field's value are held at its place
  pub field_written_of_read : at + w ≤ bit_count bytes → Held bytes at (bits_of w (field_at bytes at w))
  field_written_of_read within =
      let long = written_length w (field_at bytes at w) in
      record {
        inside = omega arith;
        each = λ j below. sym (field_written bytes at w j (omega arith));
      }

  -- injectivity: fields of one place and width that are the same have the same bits
  pub field_injective : (other : List ℕ) → field_at bytes at w ≡ field_at other at w
      → (j : ℕ) → j < w → bit_at bytes (at + j) ≡ bit_at other (at + j)
  field_injective other same j below =
      sym (field_written bytes at w j below)
      ∙ ap (λ v. get_or (bits_of w v) j 0) same
      ∙ field_written other at w j below
