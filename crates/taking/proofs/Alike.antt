-- Two images that are longer than so many bytes and agree in them: a reader that takes its fields within those bytes
-- takes the same from both. No contract cites this file. Assumes nothing.
use Prim.Native.Nat.{ℕ, zero, suc, ◌+◌, ◌*◌, ◌-◌, ◌/◌, ◌%◌, ◌^◌, ◌≤◌, ◌<◌}
use mathlib.Core.Bool.{Bool, true, false}
use mathlib.Core.List.{List, [], ◌∷◌, ◌++◌}
use mathlib.Core.Path.{◌≡◌, refl, sym, ap, ap₂, ◌∙◌}
use native.Mathlib.Nat.{suc-mul, mul-le-mul_right}
use native.Mathlib.Omega.{arith}
use borrow.Author.Tests.{le-leb}
use lib.ListN.{length, get_or}
use Rattle.bits.specs.Bits.{bit_count, bit_at, field_at}
use Rattle.bits.specs.Found.{found_at}
use Rattle.outcomes.specs.Outcome.{Outcome, gives, refuses, asked_of}
use Rattle.taking.specs.Reading.{Taker, Taken, done, ◌then◌, field, in_row, check}
use Rattle.taking.proofs.FieldLaws.{taken_field}
use Rattle.taking.proofs.Checks.{Checks, checks_nothing}
use Rattle.outcomes.proofs.Outcomes.{same_given, gives_no_refusal}

-- a field that was taken ends before the next bit
field_next : (w number : ℕ) (right : ℕ → Bool) (image : List ℕ) (at : ℕ) (given : Taken ℕ)
    → field w number right image at ≡ gives given → given.next ≡ at + w
field_next w number right image at given e =
    sym (ap (λ taken. taken.next) (taken_field w number right at image given e).is)

-- both are longer than `most` bytes, and agree in as many
pub record Agree (a b : List ℕ) (most : ℕ) : Type 0 where
  pub same : (i : ℕ) → i < most → get_or a i 0 ≡ get_or b i 0
  pub long_a : most < length a
  pub long_b : most < length b

module _ {a b : List ℕ} {most : ℕ} (agree : Agree a b most) where
  -- within those bytes the taker takes the same from both, and at most so many bits
  pub record Alike {A : Type 0} (size : ℕ) (taker : Taker A) : Type 0 where
    pub says : (at : ℕ) → at + size ≤ 8 * most
        → (taker a at ≡ taker b at) × ((given : Taken A) → taker a at ≡ gives given → given.next ≤ at + size)

  same_bit : (k : ℕ) → k < 8 * most → bit_at a k ≡ bit_at b k
  unfolding bit_at
  same_bit k inside = ap (λ byte. byte / 2 ^ (7 - k % 8) % 2) (agree.same (k / 8) (omega arith))

  same_field : (at w : ℕ) → at + w ≤ 8 * most → field_at a at w ≡ field_at b at w
  unfolding field_at
  same_field at zero inside = refl
  same_field at (suc w) inside =
      ap₂ (λ m n. m * 2 + n) (same_field at w (omega arith)) (same_bit (at + w) (omega arith))

  field_equal : (w number : ℕ) (right : ℕ → Bool) (at : ℕ) → at + w ≤ 8 * most
      → field w number right a at ≡ field w number right b at
  unfolding field found_at bit_count
  field_equal w number right at inside =
      let in-a : at + w ≤ 8 * length a = omega (arith, agree.long_a) in
      let in_b : at + w ≤ 8 * length b = omega (arith, agree.long_b) in
      rw (le-leb _ _ in-a, le-leb _ _ in_b, same_field at w inside)

  pub field_alike : (w number : ℕ) (right : ℕ → Bool) → Alike w (field w number right)
  field_alike w number right = record {
    says = λ at inside.
        (field_equal w number right at inside, λ given e. omega (arith, field_next w number right a at given e));
  }

  pub done_alike : {A : Type 0} (x : A) → Alike 0 (done x)
  done_alike x = record {
    says = λ at inside. (refl, λ given e. omega (arith, ap (λ taken. taken.next) (same_given e)));
  }

  pub check_alike : (right : Bool) (number place : ℕ) → Alike 0 (check right number place)
  unfolding check
  check_alike true number place = record { says = λ at inside. (done_alike tt).says at inside }
  check_alike false number place = record {
    says = λ at inside. (refl, λ given e. absurd (gives_no_refusal (sym e)));
  }

  -- a taker that takes at most so many bits takes at most more
  more_alike : {A : Type 0} (taker : Taker A) {s t : ℕ} → s ≤ t → Alike s taker → Alike t taker
  more_alike taker less alike = record {
    says = λ at inside.
        let (equal, near) = alike.says at (omega arith) in
        (equal, λ given e. omega (arith, near given e));
  }

  -- one after the other
  pub then_alike : {A B : Type 0} (P : A → Type 0) (s t : ℕ) {u : ℕ} → s + t ≤ u → (first : Taker A) (rest : A
      → Taker B)
      → Checks P first → Alike s first → ((x : A) → P x → Alike t (rest x)) → Alike u (first then rest)
  then_alike {A} {B} P s t {u} room first rest checked of_first of_rest = record {
    says = λ at inside.
        let (equal, near) = of_first.says at (omega arith) in
        go at inside (first a at) (first b at) equal (λ taken e. (near taken e, checked a at taken e));
  }
    where
      next : List ℕ → Taken A → Outcome (Taken B)
      next image taken = rest taken.value image taken.next

      go : (at : ℕ) → at + u ≤ 8 * most → (o p : Outcome (Taken A)) → o ≡ p
          → ((taken : Taken A) → o ≡ gives taken → (taken.next ≤ at + s) × P taken.value)
          → (asked_of o (next a) ≡ asked_of p (next b))
          × ((given : Taken B) → asked_of o (next a) ≡ gives given → given.next ≤ at + u)
      go at inside (gives taken) p equal known =
          let (close, passed) = known taken refl in
          let (then_Equal, then_near) = (of_rest taken.value passed).says taken.next (omega arith) in
          (then_Equal ∙ ap (λ o. asked_of o (next b)) equal, λ given e. omega (arith, then_near given e))
      go at inside (refuses number place) p equal known =
          (ap (λ o. asked_of o (next b)) equal, λ given e. absurd (gives_no_refusal (sym e)))

  -- so many in a row
  row_alike : {A : Type 0} (s : ℕ) (one : List A → Taker A) → ((before : List A) → Alike s (one before))
      → (n : ℕ) → Alike (n * s) (in_row n one)
  unfolding in_row
  row_alike s one each zero = more_alike (done []) (omega arith) (done_alike [])
  row_alike s one each (suc n) =
      then_alike _ (n * s) s (omega (arith, suc-mul n s)) (in_row n one) _ (checks_nothing _) (row_alike s one each n)
      (λ before free.
      then_alike _ s 0 (omega arith) (one before) _ (checks_nothing _) (each before)
      (λ next free. done_alike (before ++ next ∷ [])))

  -- at most so many in a row
  pub rows_alike : {A : Type 0} (s count : ℕ) (one : List A → Taker A) → ((before : List A) → Alike s (one before))
      → (n : ℕ) → n ≤ count → Alike (count * s) (in_row n one)
  rows_alike s count one each n few =
      more_alike (in_row n one) (mul-le-mul_right s few) (row_alike s one each n)
