-- A taker that starts within the image stays within it: the next bit is a bit of the image or its end, and so is a
-- refusal's place; a refusal's number is one of those that are allowed, among them 1. Assumes nothing.
use Prim.Native.Nat.{ℕ, zero, suc, ◌+◌, ◌≤◌}
use mathlib.Core.Bool.{Bool, true, false, cond}
use mathlib.Core.Path.{◌≡◌, refl}
use mathlib.Core.List.{List, [], ◌∷◌, ◌++◌}
use native.Mathlib.Omega.{arith}
use borrow.Author.Tests.{leb-true}
use lib.Dec.{leb}
use Rattle.outcomes.specs.Outcome.{Outcome, gives, refuses, asked_of}
use Rattle.bits.specs.Bits.{bit_count, field_at}
use Rattle.bits.specs.Found.{found_at}
use Rattle.taking.specs.Reading.{Taker, Taken, done, ◌then◌, field, in_row, check, fill_bits, zero_bits}
use Rattle.taking.specs.Reading.{nothing_follows}
use Rattle.taking.proofs.Filling.{ends_by}

-- what came out lies within the image
abbrev pub Within : {A : Type 0} → (ℕ → Type 0) → List ℕ → Outcome (Taken A) → Type 0
Within Allowed image (gives taken) = taken.next ≤ bit_count image
Within Allowed image (refuses number place) = Allowed number × (place ≤ bit_count image)

pub record Stays {A : Type 0} (Allowed : ℕ → Type 0) (taker : Taker A) : Type 0 where
  pub from : (image : List ℕ) (at : ℕ) → at ≤ bit_count image → Within Allowed image (taker image at)

module _ (Allowed : ℕ → Type 0) where
  pub done_stays : {A : Type 0} (a : A) → Stays Allowed (done a)
  done_stays a = record { from = λ image at inside. inside }

  pub then_stays : {A B : Type 0} (first : Taker A) (rest : A → Taker B) → Stays Allowed first
      → ((a : A) → Stays Allowed (rest a)) → Stays Allowed (first then rest)
  then_stays {A} first rest of_first of_rest = record {
    from = λ image at inside. go image (first image at) (of_first.from image at inside);
  }
    where
      go : (image : List ℕ) (outcome : Outcome (Taken A)) → Within Allowed image outcome
          → Within Allowed image (asked_of outcome (λ taken. rest taken.value image taken.next))
      go image (gives taken) within = (of_rest taken.value).from image taken.next within
      go image (refuses number place) refused = refused

  -- a check at a place of the image
  pub checked_stays : {A : Type 0} (image : List ℕ) (taken : Taken A) (number place : ℕ) → taken.next ≤ bit_count image
      → Allowed number → place ≤ bit_count image
      → (right : Bool) → Within Allowed image (cond right (gives taken) (refuses number place))
  checked_stays image taken number place within allowed inside true = within
  checked_stays image taken number place within allowed inside false = (allowed, inside)

  -- a check at the first bit
  pub check_stays : (right : Bool) (number : ℕ) → Allowed number → Stays Allowed (check right number 0)
  unfolding check
  check_stays right number allowed = record {
    from = λ image at inside.
        checked_stays image (record { value = tt; next = at }) number 0 inside allowed (omega arith) right;
  }

  pub follows_stays : (number : ℕ) → Allowed number → Stays Allowed (nothing_follows number)
  unfolding nothing_follows check
  follows_stays number allowed = record {
    from = λ image at inside.
        checked_stays image (record { value = tt; next = at }) number at inside allowed inside (leb (bit_count image) at);
  }

  module _ (one : Allowed 1) where
    pub field_stays : (width number : ℕ) (right : ℕ → Bool) → Allowed number
        → Stays Allowed (field width number right)
    unfolding field found_at
    field_stays width number right allowed = record {
      from = λ image at inside. found image at inside (leb (at + width) (bit_count image)) refl;
    }
      where
        found : (image : List ℕ) (at : ℕ) → at ≤ bit_count image → (b : Bool) → leb (at + width) (bit_count image) ≡ b
            → Within Allowed image (asked_of (cond b (gives (field_at image at width)) (refuses 1 at)) (λ value.
            cond (right value) (gives (record { value = value; next = at + width })) (refuses number at)))
        found image at inside true is =
            checked_stays image _ number at (leb-true _ _ is) allowed inside (right (field_at image at width))
        found image at inside false is = (one, inside)

    pub row_stays : {A : Type 0} (each : List A → Taker A) → ((before : List A) → Stays Allowed (each before)) → (n : ℕ)
        → Stays Allowed (in_row n each)
    unfolding in_row
    row_stays each of_each zero = done_stays []
    row_stays each of_each (suc n) =
        then_stays (in_row n each) (λ before. each before then λ next. done (before ++ next ∷ []))
        (row_stays each of_each n)
        (λ before. then_stays (each before) (λ next. done (before ++ next ∷ [])) (of_each before)
        (λ next. done_stays (before ++ next ∷ [])))

    pub ends_stays : (number : ℕ) → Allowed number → Stays Allowed (ends_by number)
    unfolding zero_bits
    ends_stays number allowed =
        then_stays (zero_bits number) (λ zeros. nothing_follows number)
        (record {
          from = λ image at inside.
              (row_stays _ (λ before. field_stays 1 number _ allowed) (fill_bits at)).from image at inside;
        })
        (λ zeros. follows_stays number allowed)
