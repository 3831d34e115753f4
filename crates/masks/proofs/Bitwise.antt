-- Masks number by number: `and`, `or`, and the mask that holds one number. No contract cites this file. Assumes nothing.
use Prim.Native.Nat.{ℕ, zero, suc, ◌+◌, ◌-◌, ◌/◌, ◌%◌, ◌^◌, ◌<◌, min, max}
use mathlib.Core.Path.{◌≡◌, refl, sym, ap, ◌∙◌}
use mathlib.Core.Logic.{by_cases}
use mathlib.Core.Bool.{Bool, true, false, ◌&&◌, ◌||◌, and-false}
use native.Mathlib.Decide.{dec_lt}
use native.Mathlib.Nat.{mod-lt, zero-div, div-eq_of_lt, div_self, pow-suc, mul-mod_left}
use native.Mathlib.Omega.{arith}
use borrow.Author.Tests.{eq-eqb, ne_eqb, lt-ltb, le-ltb, eqb-true}
use lib.Dec.{eqb, ltb, lit<}
use lib.Arith.{digits_mod}
use lib.Bits.{bit_and, bit_or, and_shr, and_step, or_shr, or_step}
use lib.Pow.{pow-add, pow-lt, pow_pos, shl-shr}
use Rattle.lists.proofs.Bools.{same_test}
use Rattle.masks.specs.Masks.{holds, alone}

-- a bit is 0 or 1
pub bit_below : (x : ℕ) → x % 2 < 2
bit_below x = mod-lt x (lit< tt)

bits_cases : (P : ℕ → ℕ → Type 0) → P 0 0 → P 0 1 → P 1 0 → P 1 1 → (x y : ℕ) → x < 2 → y < 2 → P x y
bits_cases P p q r s zero zero few less = p
bits_cases P p q r s zero (suc zero) few less = q
bits_cases P p q r s (suc zero) zero few less = r
bits_cases P p q r s (suc zero) (suc zero) few less = s
bits_cases P p q r s (suc (suc x)) y few less = absurd (omega arith)
bits_cases P p q r s zero (suc (suc y)) few less = absurd (omega arith)
bits_cases P p q r s (suc zero) (suc (suc y)) few less = absurd (omega arith)

-- an operation that goes bit by bit, as a test of numbers
module _ (op digit : ℕ → ℕ → ℕ) (test : Bool → Bool → Bool)
    (bitwise : (a b k : ℕ) → op a b / 2 ^ k % 2 ≡ digit (a / 2 ^ k % 2) (b / 2 ^ k % 2))
    (set : (x y : ℕ) → x < 2 → y < 2 → eqb (digit x y) 1 ≡ test (eqb x 1) (eqb y 1))
    (unset : test false false ≡ false)
  where
    op_holds : (width a b i : ℕ) → holds width (op a b) i ≡ test (holds width a i) (holds width b i)
    unfolding holds
    op_holds width a b i = go (width - suc i) (ltb i width)
      where
        go : (place : ℕ) (known : Bool) → (known && eqb (op a b / 2 ^ place % 2) 1)
            ≡ test (known && eqb (a / 2 ^ place % 2) 1) (known && eqb (b / 2 ^ place % 2) 1)
        go place true = rw (bitwise a b place) (set _ _ (bit_below _) (bit_below _))
        go place false = sym unset

-- an `and` holds a number where both hold it
pub and_holds : (width a b i : ℕ) → holds width (bit_and a b) i ≡ (holds width a i && holds width b i)
and_holds =
    op_holds bit_and min ◌&&◌
    (λ a b k.
    let low : min (a / 2 ^ k % 2) (b / 2 ^ k % 2) < 2 = omega (arith, bit_below (a / 2 ^ k)) in
    ap (λ x. x % 2) (and_shr a b k ∙ and_step (a / 2 ^ k) (b / 2 ^ k)) ∙ digits_mod _ low)
    (bits_cases (λ x y. eqb (min x y) 1 ≡ (eqb x 1 && eqb y 1)) refl refl refl refl)
    refl

-- and an `or` where one of them holds it
pub or_holds : (width a b i : ℕ) → holds width (bit_or a b) i ≡ (holds width a i || holds width b i)
or_holds =
    op_holds bit_or max ◌||◌
    (λ a b k.
    let low : max (a / 2 ^ k % 2) (b / 2 ^ k % 2) < 2 = omega (arith, bit_below (a / 2 ^ k), bit_below (b / 2 ^ k)) in
    ap (λ x. x % 2) (or_shr a b k ∙ or_step (a / 2 ^ k) (b / 2 ^ k)) ∙ digits_mod _ low)
    (bits_cases (λ x y. eqb (max x y) 1 ≡ (eqb x 1 || eqb y 1)) refl refl refl refl)
    refl

-- 0 holds nothing
pub zero_holds : (width i : ℕ) → holds width 0 i ≡ false
unfolding holds
zero_holds width i = rw (zero-div (2 ^ (width - suc i))) (and-false (ltb i width))

-- a power of 2 has one bit
same_place : (k : ℕ) → 2 ^ k / 2 ^ k % 2 ≡ 1
same_place k = rw (div_self (pow_pos k))

higher_place : (k d : ℕ) → 2 ^ k / 2 ^ (k + suc d) % 2 ≡ 0
higher_place k d = rw (div-eq_of_lt (pow-lt {i = k} {j = k + suc d} (omega arith)))

lower_place : (k d : ℕ) → 2 ^ (suc d + k) / 2 ^ k % 2 ≡ 0
lower_place k d = rw (pow-add 2 (suc d) k, shl-shr (2 ^ suc d) k, pow-suc 2 d) (mul-mod_left (2 ^ d) 2)

lone_bit : (k j : ℕ) → eqb (2 ^ k / 2 ^ j % 2) 1 ≡ eqb j k
lone_bit k j =
    by_cases (dec_lt j k)
    (λ lower.
    let there : k ≡ suc (k - suc j) + j = omega arith in
    ap (λ n. eqb (2 ^ n / 2 ^ j % 2) 1) there ∙ rw (lower_place j (k - suc j)) (sym (ne_eqb j k (omega arith))))
    (λ same_or_higher.
    by_cases (dec_lt k j)
    (λ higher.
    let there : j ≡ k + suc (j - suc k) = omega arith in
    ap (λ n. eqb (2 ^ k / 2 ^ n % 2) 1) there ∙ rw (higher_place k (j - suc k)) (sym (ne_eqb j k (omega arith))))
    (λ same_or_lower.
    let same : j ≡ k = omega arith in
    rw (same, same_place k) (sym (eq-eqb k k refl))))

-- the mask that holds one number, and how it is shifted from the most significant bit
pub shifted_alone : (width r : ℕ) → r < width → 2 ^ (width - 1) / 2 ^ r ≡ alone width r
shifted_alone width r known =
    let parts : width - 1 ≡ width - suc r + r = omega arith in
    ap (λ n. 2 ^ n / 2 ^ r) parts ∙ rw (pow-add 2 (width - suc r) r) (shl-shr (2 ^ (width - suc r)) r)

pub alone_holds : (width r i : ℕ) → r < width → holds width (alone width r) i ≡ eqb i r
unfolding holds
alone_holds width r i known =
    by_cases (dec_lt i width)
    (λ below.
    rw (lt-ltb i width below, lone_bit (width - suc r) (width - suc i))
    (same_test _ _
    (λ same. eq-eqb i r (omega (arith, eqb-true (width - suc i) (width - suc r) same)))
    (λ same. eq-eqb (width - suc i) (width - suc r) (omega (arith, eqb-true i r same)))))
    (λ past. rw (le-ltb i width (omega arith), ne_eqb i r (omega arith)))

-- a mask with one more number
pub one_more_holds : (width mask r i : ℕ) → r < width
    → holds width (bit_or mask (alone width r)) i ≡ (holds width mask i || eqb i r)
one_more_holds width mask r i known = or_holds width mask _ i ∙ rw (alone_holds width r i known)
