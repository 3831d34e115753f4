-- The first number that a mask holds: as many as it has leading zeros; and what the others have to add. No contract
-- cites this file. Assumes nothing.
use Prim.Native.Nat.{ℕ, zero, suc, ◌-◌, ◌*◌, ◌/◌, ◌%◌, ◌^◌, ◌<◌, ◌≤◌}
use mathlib.Core.Path.{◌≡◌, refl, sym, ap, ap₂, ◌∙◌}
use mathlib.Core.Bool.{cond}
use mathlib.Core.List.{List, [], ◌++◌, append-nil, append_assoc}
use native.Mathlib.Nat.{pow-suc}
use native.Mathlib.Omega.{arith}
use lib.Dec.{eqb}
use lib.Count.{count_leading_zeros, leading_of_zero}
use Rattle.lists.specs.Lists.{each_below}
use Rattle.lists.proofs.Below.{each_below_same}
use Rattle.masks.specs.Masks.{alone, each_held}
use Rattle.masks.proofs.Counted.{earlier_bits, last_bit, half_below}

module _ {A : Type 0} (adds : ℕ → List A) where
  abbrev last : (n digit : ℕ) → List A
  last n digit = cond (eqb digit 1) (adds n) []

  -- by the half of the mask, and its last bit
  by_half : (n mask : ℕ) → each_held (suc n) mask adds ≡ each_held n (mask / 2) adds ++ last n (mask % 2)
  unfolding each_held each_below
  by_half n mask =
      ap₂ ◌++◌
      (each_below_same n _ _ (λ r below. ap (λ b. cond b (adds r) []) (earlier_bits n mask r below)))
      (ap (λ b. cond b (adds n) []) (last_bit n mask))

  -- nothing is held by 0
  pub held_none : (n : ℕ) → each_held n 0 adds ≡ []
  unfolding each_held each_below
  held_none zero = refl
  held_none (suc n) = by_half n 0 ∙ ap (λ l. l ++ []) (held_none n)

  -- number l is the first that a mask holds: it adds first, and the mask without it the others
  pub record FirstHeld (n mask l : ℕ) : Type 0 where
    pub known : l < n
    pub within : alone n l ≤ mask
    pub others : each_held n mask adds ≡ adds l ++ each_held n (mask - alone n l) adds

  -- of one bit more
  first_of_half : (n mask l : ℕ) → FirstHeld n (mask / 2) l → FirstHeld (suc n) mask l
  first_of_half n mask l first =
      let known = first.known in
      let within = first.within in
      let place : suc n - suc l ≡ suc (n - suc l) = omega arith in
      let twice : alone (suc n) l ≡ alone n l * 2 = ap (λ k. 2 ^ k) place ∙ pow-suc 2 (n - suc l) in
      let half : (mask - alone (suc n) l) / 2 ≡ mask / 2 - alone n l = rw twice (omega arith) in
      let digit : (mask - alone (suc n) l) % 2 ≡ mask % 2 = rw twice (omega arith) in
      record {
        known = omega arith;
        within = rw twice (omega arith);
        others =
            by_half n mask
            ∙ ap (λ l. l ++ last n (mask % 2)) first.others
            ∙ append_assoc (adds l) _ _
            ∙ ap (λ more. adds l ++ more) (sym (by_half n (mask - alone (suc n) l) ∙ rw (half, digit)));
      }

  first_of_one : (n : ℕ) → FirstHeld (suc n) 1 n
  first_of_one n =
      let place : suc n - suc n ≡ 0 = omega arith in
      let one : alone (suc n) n ≡ 1 = ap (λ k. 2 ^ k) place in
      record {
        known = omega arith;
        within = rw one (omega arith);
        others =
            by_half n 1 ∙ ap (λ l. l ++ adds n) (held_none n)
            ∙ rw (one, held_none (suc n)) (sym (append-nil (adds n)));
      }

  -- it has as many leading zeros
  pub first_held : (n mask : ℕ) → 0 < mask → mask < 2 ^ n → FirstHeld n mask (count_leading_zeros n mask)
  unfolding count_leading_zeros
  first_held zero mask some few = absurd (omega arith)
  first_held (suc n) zero some few = absurd (omega arith)
  first_held (suc n) (suc zero) some few = rw (leading_of_zero n) (first_of_one n)
  first_held (suc n) (suc (suc more)) some few =
      first_of_half n (suc (suc more)) _
      (first_held n (suc (suc more) / 2) (omega arith) (half_below n (suc (suc more)) few))
