-- Searches below a bound for a number that entries of a list tell. Assumes nothing.
use Prim.Native.Nat.{ℕ, zero, suc, ◌<◌}
use mathlib.Core.Bool.{Bool, true, false, ◌&&◌, ◌||◌, and-false}
use mathlib.Core.Path.{◌≡◌, refl, ap, ap₂, ◌∙◌}
use mathlib.Core.List.{List, [], ◌∷◌}
use borrow.Author.Tests.{eq-eqb, eqb-true}
use lib.Dec.{eqb}
use Rattle.lists.specs.Lists.{some_below, some_of}
use Rattle.lists.proofs.Bools.{same_test, and_parts, and_of_parts}
use Rattle.lists.proofs.Lists.{some_below_finds, some_below_found, some_below_nothing, some_below_same}

-- a test of the one number that is another
pub some_below_at : (n k : ℕ) (test : ℕ → Bool) → k < n → some_below n (λ i. test i && eqb i k) ≡ test k
some_below_at n k test known = same_test _ _
    (λ some.
    let (i, below, both) = some_below_finds n (λ i. test i && eqb i k) some in
    let (passes, same) = and_parts (test i) (eqb i k) both in
    rw (eqb-true i k same) at passes)
    (λ passes. some_below_found n (λ i. test i && eqb i k) k known (and_of_parts _ _ passes (eq-eqb k k refl)))

-- one of two tests
pub some_below_or : (n : ℕ) (test other : ℕ → Bool)
    → some_below n (λ i. test i || other i) ≡ (some_below n test || some_below n other)
unfolding some_below
some_below_or zero test other = refl
some_below_or (suc n) test other =
    ap (λ b. b || (test n || other n)) (some_below_or n test other)
    ∙ four (some_below n test) (some_below n other) (test n) (other n)
  where
    four : (a b c d : Bool) → ((a || b) || (c || d)) ≡ ((a || c) || (b || d))
    four true b c d = refl
    four false true true d = refl
    four false true false d = refl
    four false false c d = refl

-- a number that passes a test and is told by some entry: an entry whose number passes
pub some_told : (n : ℕ) (test : ℕ → Bool) (tells : ℕ → Bool) (number : ℕ → ℕ) → ((x : ℕ) → number x < n)
    → (xs : List ℕ)
    → some_below n (λ i. test i && some_of (λ x. tells x && eqb i (number x)) xs)
    ≡ some_of (λ x. tells x && test (number x)) xs
unfolding some_of
some_told n test tells number within [] = some_below_nothing n _ (λ i below. and-false (test i))
some_told n test tells number within (x ∷ xs) =
    some_below_same n _ _ (λ i below. parted (test i) (tells x) (eqb i (number x)) _)
    ∙ some_below_or n (λ i. (tells x && test i) && eqb i (number x)) _
    ∙ ap₂ ◌||◌
    (some_below_at n (number x) (λ i. tells x && test i) (within x)) (some_told n test tells number within xs)
  where
    parted : (a b c d : Bool) → (a && ((b && c) || d)) ≡ (((b && a) && c) || (a && d))
    parted true true c d = refl
    parted true false c d = refl
    parted false true c d = refl
    parted false false c d = refl
