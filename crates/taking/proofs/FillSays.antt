-- Inside an image the fill is refused by its own number alone: a string of bytes ends with a byte, so it never ends
-- inside or before a bit of the fill. Assumes nothing.
use Prim.Native.Nat.{ℕ, zero, suc, ◌+◌, ◌≤◌}
use mathlib.Core.Bool.{Bool, true, false, cond}
use mathlib.Core.Path.{◌≡◌, refl, sym, ◌∙◌}
use mathlib.Core.List.{List, [], ◌∷◌, ◌++◌}
use native.Mathlib.Nat.{add-zero, add-suc}
use native.Mathlib.Numerals.{add-one}
use native.Mathlib.Omega.{arith}
use borrow.Author.Tests.{le-leb}
use lib.Dec.{leb, eqb}
use Rattle.bits.specs.Bits.{bit_count, field_at}
use Rattle.bits.specs.Found.{found_at}
use Rattle.outcomes.specs.Outcome.{Outcome, gives, refuses, asked_of}
use Rattle.outcomes.proofs.Outcomes.{same_number, gives_no_refusal}
use Rattle.taking.specs.Reading.{Taker, Taken, field, in_row, check, fill_bits, zero_bits}
use Rattle.taking.specs.Reading.{nothing_follows}
use Rattle.taking.proofs.Filling.{ends_by}

-- taken up to a bit, or refused by one number
abbrev Says : {A : Type 0} → (number next : ℕ) → Outcome (Taken A) → Type 0
Says number next (gives taken) = taken.next ≡ next
Says number next (refuses n place) = n ≡ number

module _ (number : ℕ) (image : List ℕ) (at : ℕ) where
  zero_bit : (place : ℕ) → place + 1 ≤ bit_count image
      → Says number (place + 1) (field 1 number (λ bit. eqb bit 0) image place)
  unfolding field found_at
  zero_bit place inside = rw (le-leb _ _ inside) (checked (eqb (field_at image place 1) 0))
    where
      checked : (right : Bool) → Says number (place + 1)
          (cond right (gives (record { value = field_at image place 1; next = place + 1 })) (refuses number place))
      checked true = refl
      checked false = refl

  zero_row : (i : ℕ) → at + i ≤ bit_count image
      → Says number (at + i) (in_row i (λ before. field 1 number (λ bit. eqb bit 0)) image at)
  unfolding in_row
  zero_row zero inside = sym (add-zero at)
  zero_row (suc i) inside =
      before (in_row i (λ before. field 1 number (λ bit. eqb bit 0)) image at) (zero_row i (omega arith))
    where
      one : List ℕ → Taker ℕ
      one before = field 1 number (λ bit. eqb bit 0)

      last : (values : List ℕ) (outcome : Outcome (Taken ℕ)) → Says number (at + i + 1) outcome
          → Says number (at + suc i)
          (asked_of outcome (λ taken. gives (record { value = values ++ taken.value ∷ []; next = taken.next })))
      last values (gives taken) says = says ∙ add-one (at + i) ∙ sym (add-suc at i)
      last values (refuses n place) says = says

      before : (outcome : Outcome (Taken (List ℕ))) → Says number (at + i) outcome
          → Says number (at + suc i)
          (asked_of outcome (λ taken. asked_of (one taken.value image taken.next) (λ next.
          gives (record { value = taken.value ++ next.value ∷ []; next = next.next }))))
      before (gives taken) says = rw says (last taken.value (one taken.value image (at + i))
          (zero_bit (at + i) (omega arith)))
      before (refuses n place) says = says

  pub fill_says : at ≤ bit_count image → (n place : ℕ) → ends_by number image at ≡ refuses n place → n ≡ number
  unfolding zero_bits nothing_follows check bit_count
  fill_says inside n place e =
      zeros (in_row (fill_bits at) (λ before. field 1 number (λ bit. eqb bit 0)) image at)
      (zero_row (fill_bits at) (omega arith)) e
    where
      follows : (after : ℕ) (right : Bool)
          → cond {A = Outcome (Taken (Unit {0}))} right (gives (record { value = tt; next = after }))
          (refuses number after) ≡ refuses n place
          → n ≡ number
      follows after true e = absurd (gives_no_refusal e)
      follows after false e = sym (same_number e).0

      zeros : (outcome : Outcome (Taken (List ℕ))) → Says number (at + fill_bits at) outcome
          → asked_of outcome (λ taken. nothing_follows number image taken.next) ≡ refuses n place → n ≡ number
      zeros (gives taken) says e = follows taken.next (leb (bit_count image) taken.next) e
      zeros (refuses m q) says e = sym (same_number e).0 ∙ says
