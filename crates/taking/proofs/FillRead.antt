-- The fill of packed fields is read: zero bits up to the end of the image. Assumes nothing.
use Prim.Native.Nat.{ℕ, zero, suc, ◌+◌, ◌<◌, ◌≤◌}
use mathlib.Core.Path.{◌≡◌, refl, ◌∙◌, subst}
use mathlib.Core.List.{List}
use native.Mathlib.Nat.{add-zero}
use native.Mathlib.Numerals.{add-one}
use native.Mathlib.Omega.{arith}
use borrow.Author.Tests.{le-leb}
use lib.Dec.{eqb}
use lib.ListN.{get_or-eq_default}
use Rattle.bits.specs.Bits.{bit_count, bit_at, field_at}
use Rattle.bits.specs.Found.{found_at}
use Rattle.bits.specs.Packing.{Field, bits_of_all, bytes_for, packed}
use Rattle.bits.proofs.Held.{bits_in, length_packed, packed_bit}
use Rattle.outcomes.specs.Outcome.{gives}
use Rattle.taking.specs.Reading.{field, fill_bits}
use Rattle.taking.proofs.Filling.{ends_by, FillPassed, no_bit_passed, bit_passed, nothing_follows_lem}

module _ (number : ℕ) (image : List ℕ) (at : ℕ) (ends : bit_count image ≡ at + fill_bits at)
    (zeros : (i : ℕ) → i < fill_bits at → bit_at image (at + i) ≡ 0)
  where
    zero_bit : (i : ℕ) → i < fill_bits at
        → field 1 number (λ bit. eqb bit 0) image (at + i) ≡ gives (record { value = 0; next = at + i + 1 })
    unfolding field found_at field_at
    zero_bit i below =
        rw (le-leb (at + i + 1) (bit_count image) (omega arith), add-zero (at + i), zeros i below)

    all_passed : (i : ℕ) → i ≤ fill_bits at → FillPassed number image at i
    all_passed zero within = no_bit_passed number image at
    all_passed (suc i) within =
        subst (FillPassed number image at) (add-one i)
        (bit_passed number image at (all_passed i (omega arith)) 0 (zero_bit i within))

    pub fill_reads : ends_by number image at ≡ gives (record { value = tt; next = at + fill_bits at })
    unfolding bit_count
    fill_reads = nothing_follows_lem number image at (all_passed (fill_bits at) (omega arith)) refl (omega arith)

-- of packed fields
pub packed_fill : (number : ℕ) (fields : List Field)
    → ends_by number (packed fields) (bits_in fields)
    ≡ gives (record { value = tt; next = bits_in fields + fill_bits (bits_in fields) })
unfolding bit_count bytes_for
packed_fill number fields =
    let at : ℕ = bits_in fields in
    let long = length_packed fields in
    fill_reads number (packed fields) at (omega arith) (λ i below.
    packed_bit fields (at + i) (omega arith) ∙ get_or-eq_default (bits_of_all fields) 0 (omega arith))
