-- How many numbers a mask holds: as many as it has bits that are 1, and none where it is 0. No contract cites this file.
-- Assumes nothing.
use Prim.Native.Nat.{ℕ, zero, suc, ◌+◌, ◌-◌, ◌/◌, ◌%◌, ◌^◌, ◌<◌}
use mathlib.Core.Path.{◌≡◌, refl, sym, ap, ap₂, ◌∙◌}
use mathlib.Core.Bool.{not, ◌||◌}
use mathlib.Core.List.{[], ◌∷◌}
use native.Mathlib.Nat.{mod-lt, add_comm, div-one}
use native.Mathlib.Omega.{arith}
use native.Mathlib.Numerals.{add-one}
use borrow.Author.Tests.{lt-ltb, ne_eqb}
use lib.Dec.{eqb, lit<}
use lib.Arith.{lt-one}
use lib.Count.{ones, ones_step}
use lib.ListN.{length, length-append}
use lib.Pow.{shr-shr, shr_lt}
use Rattle.lists.specs.Lists.{some_below, each_below, only_if}
use Rattle.lists.proofs.Lists.{some_below_same}
use Rattle.lists.proofs.Below.{each_below_same}
use Rattle.masks.specs.Masks.{holds, each_held}

-- of one bit more, the last is the lowest, and those before it are bits of the half
pub earlier_bits : (n mask r : ℕ) → r < n → holds (suc n) mask r ≡ holds n (mask / 2) r
unfolding holds
earlier_bits n mask r below =
    let place : suc n - suc r ≡ 1 + (n - suc r) = omega arith in
    rw (lt-ltb r n below, lt-ltb r (suc n) (omega arith))
    (ap (λ k. eqb (mask / 2 ^ k % 2) 1) place ∙ ap (λ x. eqb (x % 2) 1) (sym (shr-shr mask 1 (n - suc r))))

pub last_bit : (n mask : ℕ) → holds (suc n) mask n ≡ eqb (mask % 2) 1
unfolding holds
last_bit n mask =
    let place : suc n - suc n ≡ 0 = omega arith in
    rw (lt-ltb n (suc n) (omega arith)) (ap (λ k. eqb (mask / 2 ^ k % 2) 1) place ∙ rw (div-one mask))

pub half_below : (n mask : ℕ) → mask < 2 ^ suc n → mask / 2 < 2 ^ n
half_below n mask few = shr_lt n 1 (rw add-one few)

-- some bit is 1 where the number is not 0
some_digit : (mask : ℕ) → (not (eqb (mask / 2) 0) || eqb (mask % 2) 1) ≡ not (eqb mask 0)
some_digit zero = refl
some_digit (suc zero) = refl
some_digit (suc (suc more)) =
    rw (ne_eqb (suc (suc more) / 2) 0 (omega arith), ne_eqb (suc (suc more)) 0 (omega arith))

pub some_held : (n mask : ℕ) → mask < 2 ^ n → some_below n (holds n mask) ≡ not (eqb mask 0)
unfolding some_below
some_held zero mask few = rw (lt-one few)
some_held (suc n) mask few =
    ap₂ ◌||◌
    (some_below_same n _ _ (earlier_bits n mask) ∙ some_held n (mask / 2) (half_below n mask few))
    (last_bit n mask)
    ∙ some_digit mask

-- and so many are 1
one_digit : {A : Type 0} (x : A) (digit : ℕ) → digit < 2 → length (only_if (eqb digit 1) x) ≡ digit
one_digit x zero few = refl
one_digit x (suc zero) few = refl
one_digit x (suc (suc digit)) few = absurd (omega arith)

pub count_held : {A : Type 0} (f : ℕ → A) (n mask : ℕ) → mask < 2 ^ n
    → length (each_held n mask (λ r. f r ∷ [])) ≡ ones mask
unfolding each_held each_below ones
count_held f zero mask few = rw (lt-one few)
count_held f (suc n) mask few =
    let earlier = each_below_same n _ _ (λ r below. ap (λ b. only_if b (f r)) (earlier_bits n mask r below)) in
    length-append (each_below n (λ r. only_if (holds (suc n) mask r) (f r))) (only_if (holds (suc n) mask n) (f n))
    ∙ ap₂ ◌+◌
    (ap length earlier ∙ count_held f n (mask / 2) (half_below n mask few))
    (ap (λ b. length (only_if b (f n))) (last_bit n mask) ∙ one_digit (f n) (mask % 2) (mod-lt mask (lit< tt)))
    ∙ add_comm _ _ ∙ sym (ones_step mask)
