-- The fill, bit by bit: one more zero bit, a bit that is 1, bytes that follow, and the end. No contract cites this
-- file. Assumes nothing.
use Prim.Native.Nat.{ℕ, ◌+◌, ◌*◌, ◌<◌, ◌≤◌}
use mathlib.Core.Path.{◌≡◌, sym, ap}
use mathlib.Core.List.{List, [], ◌∷◌, ◌++◌}
use native.Mathlib.Nat.{add-zero, add_assoc}
use borrow.Author.Tests.{le-leb, lt-leb}
use lib.Dec.{eqb}
use lib.ListN.{length}
use Rattle.bits.specs.Bits.{bit_count}
use Rattle.outcomes.specs.Outcome.{gives, refuses}
use Rattle.taking.specs.Reading.{Taker, ◌then◌, field, in_row, check, fill_bits, zero_bits, nothing_follows}
use Rattle.taking.proofs.Rows.{row_more, row_refused}

-- zero bits to the end of a byte, and nothing after it
abbrev pub ends_by : (number : ℕ) → Taker (Unit {0})
ends_by number = zero_bits number then λ zeros. nothing_follows number

module _ (number : ℕ) (image : List ℕ) (at : ℕ) where
  -- i bits of the fill were taken
  pub record FillPassed (i : ℕ) : Type 0 where
    pub values : List ℕ
    pub taken_row : in_row i (λ before. field 1 number (λ bit. eqb bit 0)) image at
        ≡ gives (record { value = values; next = at + i })

  pub no_bit_passed : FillPassed 0
  unfolding in_row
  no_bit_passed = record {
    values = [];
    taken_row = ap (λ next. gives (record { value = []; next = next })) (sym (add-zero at));
  }

  module _ {i : ℕ} (passed : FillPassed i) where
    pub bit_passed : (bit : ℕ) → field 1 number (λ bit. eqb bit 0) image (at + i)
        ≡ gives (record { value = bit; next = at + i + 1 })
        → FillPassed (i + 1)
    bit_passed bit taken = record {
      values = passed.values ++ bit ∷ [];
      taken_row = rw (← add_assoc at i 1) (row_more _ image at i _ _ passed.taken_row taken);
    }

    pub fill_refused : {n p : ℕ} → i < fill_bits at → field 1 number (λ bit. eqb bit 0) image (at + i) ≡ refuses n p
        → ends_by number image at ≡ refuses n p
    unfolding zero_bits
    fill_refused {n} {p} more refused = rw (row_refused _ image at i (fill_bits at) _ n p more
        passed.taken_row refused)

    module _ (all : i ≡ fill_bits at) where
      filled : in_row (fill_bits at) (λ before. field 1 number (λ bit. eqb bit 0)) image at
          ≡ gives (record { value = passed.values; next = at + i })
      filled = rw (← all) passed.taken_row

      pub bytes_follow : at + i < 8 * length image → ends_by number image at ≡ refuses number (at + i)
      unfolding zero_bits nothing_follows check bit_count
      bytes_follow follow = rw (filled, lt-leb _ _ follow)

      pub nothing_follows_lem : 8 * length image ≤ at + i → ends_by number image at ≡ gives (record { value = tt; next = at + i })
      unfolding zero_bits nothing_follows check bit_count
      nothing_follows_lem ends = rw (filled, le-leb _ _ ends)
