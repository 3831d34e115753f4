-- A field by what is found at its place: the three ways that taking it can go, and what is known of one that was taken.
-- No contract cites this file. Assumes nothing.
use Prim.Native.Nat.{ℕ, ◌+◌, ◌≤◌}
use mathlib.Core.Path.{◌≡◌, refl, sym}
use mathlib.Core.Bool.{Bool, true, false, cond}
use mathlib.Core.List.{List}
use borrow.Author.Tests.{leb-true}
use lib.Dec.{leb}
use Rattle.outcomes.specs.Outcome.{gives, refuses, asked_of}
use Rattle.outcomes.proofs.Outcomes.{same_given, gives_no_refusal}
use Rattle.bits.specs.Bits.{bit_count, field_at}
use Rattle.bits.specs.Found.{found_at}
use Rattle.taking.specs.Reading.{Taken, field}

module _ (w number : ℕ) (right : ℕ → Bool) (at : ℕ) (image : List ℕ) where
  -- the image ends inside or before the field
  pub field_ends : {n p : ℕ} → found_at image at w ≡ refuses n p → refuses n p ≡ field w number right image at
  unfolding field
  field_ends told = rw told

  module _ (v : ℕ) (told : found_at image at w ≡ gives v) where
    -- the value found is right
    pub field_right : right v ≡ true → gives (record { value = v; next = at + w }) ≡ field w number right image at
    unfolding field
    field_right good = rw (told, good)

    -- the value found is not right
    pub field_wrong : right v ≡ false → refuses number at ≡ field w number right image at
    unfolding field
    field_wrong bad = rw (told, bad)

  -- a field that was taken: it lies within the image, its value is right, and the next bit is the one after it
  pub record TakenField (given : Taken ℕ) : Type 0 where
    pub inside : at + w ≤ bit_count image
    pub passed : right (field_at image at w) ≡ true
    pub is : record { value = field_at image at w; next = at + w } ≡ given

  pub taken_field : (given : Taken ℕ) → field w number right image at ≡ gives given → TakenField given
  unfolding field found_at
  taken_field given e = found (leb (at + w) (bit_count image)) refl e
    where
      v : ℕ
      v = field_at image at w

      checked : (c : Bool) → at + w ≤ bit_count image → right v ≡ c
          → cond c (gives (record { value = v; next = at + w })) (refuses number at) ≡ gives given → TakenField given
      checked true inside passed e = record { inside = inside; passed = passed; is = same_given e }
      checked false inside passed e = absurd (gives_no_refusal (sym e))

      found : (b : Bool) → leb (at + w) (bit_count image) ≡ b
          → asked_of (cond b (gives v) (refuses 1 at)) (λ value.
          cond (right value) (gives (record { value = value; next = at + w })) (refuses number at))
          ≡ gives given
          → TakenField given
      found true is e = checked (right v) (leb-true _ _ is) refl e
      found false is e = absurd (gives_no_refusal (sym e))
