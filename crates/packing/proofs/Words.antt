-- A word of 64 bits that was shifted to make room for a field: its bits are those that it had, and then the field's. No
-- contract cites this file. Assumes nothing.
use Prim.Native.Nat.{ℕ, ◌+◌, ◌-◌, ◌*◌, ◌%◌, ◌^◌, ◌<◌, ◌≤◌}
use mathlib.Core.Path.{◌≡◌, ap, ◌∙◌}
use mathlib.Core.List.{◌++◌}
use native.Mathlib.Nat.{add-zero, mul-mod_left}
use native.Mathlib.Omega.{arith}
use lib.Bits.{bit_or, or_shifted, or_zero_r}
use lib.Pow.{pow_pos, shl-shr, mod-pow-add}
use Rattle.bits.specs.Packing.{bits_of}
use Rattle.bits.proofs.WrittenParts.{written_low, written_joined}

module _ (word filled width : ℕ) (fit : filled + width ≤ 64) where
  -- what the shift leaves of the word
  shifted : word * 2 ^ width % 2 ^ 64 ≡ word % 2 ^ (64 - width) * 2 ^ width
  shifted =
      let all : 64 ≡ 64 - width + width = omega arith in
      ap (λ n. word * 2 ^ width % 2 ^ n) all
      ∙ mod-pow-add (word * 2 ^ width) (64 - width) width
      ∙ rw (shl-shr word width, mul-mod_left word (2 ^ width)) (add-zero _)

  -- a field joined to the word
  pub joined_bits : (value : ℕ) → value < 2 ^ width
      → bits_of (filled + width) (bit_or (word * 2 ^ width % 2 ^ 64) value) ≡ bits_of filled word ++ bits_of width value
  joined_bits value small =
      rw (
        shifted,
        or_shifted (word % 2 ^ (64 - width)) width value small,
        written_joined filled width (word % 2 ^ (64 - width)) value small,
        written_low filled (64 - width) word (omega arith),
      )

  -- zero bits behind the word
  pub filled_bits : bits_of (filled + width) (word * 2 ^ width % 2 ^ 64) ≡ bits_of filled word ++ bits_of width 0
  filled_bits = rw (← or_zero_r (word * 2 ^ width % 2 ^ 64)) (joined_bits 0 (pow_pos width))
