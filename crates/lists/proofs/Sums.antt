-- How many entries collections have, whichever bound is gone through first. Assumes nothing.
use Prim.Native.Nat.{ℕ, zero, suc, ◌+◌, ◌<◌}
use mathlib.Core.Bool.{Bool, true, false, cond, ◌&&◌}
use mathlib.Core.Path.{◌≡◌, refl, sym, ap, ap₂, ◌∙◌}
use mathlib.Core.List.{List, [], ◌∷◌, ◌++◌, map, append-nil}
use mathlib.Core.Logic.{by_cases}
use native.Mathlib.Decide.{ℕ_discrete}
use native.Mathlib.Omega.{arith}
use lib.ListN.{length, length-append}
use Rattle.lists.specs.Lists.{each_below, each_of, only_if}
use Rattle.lists.proofs.Each.{each_of_append}

-- each number below the bound has as many entries to add
pub length_below_same : {A B : Type 0} (n : ℕ) (f : ℕ → List A) (g : ℕ → List B)
    → ((k : ℕ) → k < n → length (f k) ≡ length (g k)) → length (each_below n f) ≡ length (each_below n g)
unfolding each_below
length_below_same zero f g same = refl
length_below_same (suc n) f g same =
    length-append (each_below n f) (f n)
    ∙ ap₂ ◌+◌ (length_below_same n f g (λ k below. same k (omega arith))) (same n (omega arith))
    ∙ sym (length-append (each_below n g) (g n))

-- nothing is added
none_below : (A : Type 0) (n : ℕ) → length (each_below {A = A} n (λ k. [])) ≡ 0
unfolding each_below
none_below A zero = refl
none_below A (suc n) = length-append (each_below {A = A} n (λ k. [])) [] ∙ ap (λ x. x + 0) (none_below A n)

-- first some and then others
both_below : {A : Type 0} (n : ℕ) (f g : ℕ → List A)
    → length (each_below n (λ k. f k ++ g k)) ≡ length (each_below n f) + length (each_below n g)
unfolding each_below
both_below zero f g = refl
both_below (suc n) f g =
    let earlier = both_below n f g in
    omega (
      arith,
      earlier,
      length-append (each_below n (λ k. f k ++ g k)) (f n ++ g n),
      length-append (f n) (g n),
      length-append (each_below n f) (f n),
      length-append (each_below n g) (g n),
    )

-- whichever is gone through first
pub length_swap : {A : Type 0} (n m : ℕ) (f : ℕ → ℕ → List A)
    → length (each_below n (λ i. each_below m (f i))) ≡ length (each_below m (λ j. each_below n (λ i. f i j)))
unfolding each_below
length_swap {A} zero m f = sym (none_below A m)
length_swap (suc n) m f =
    length-append (each_below n (λ i. each_below m (f i))) (each_below m (f n))
    ∙ ap (λ x. x + length (each_below m (f n))) (length_swap n m f)
    ∙ sym (both_below m (λ j. each_below n (λ i. f i j)) (f n))

-- what only one number has to add
pub below_only : {A : Type 0} (n k : ℕ) (f : ℕ → List A) → k < n → ((i : ℕ) → i < n → ¬ (i ≡ k) → f i ≡ [])
    → each_below n f ≡ f k
unfolding each_below
below_only zero k f known none = absurd (omega arith)
below_only (suc n) k f known none =
    by_cases (ℕ_discrete k n)
    (λ last. rw (nothing n (λ i below. none i (omega arith) (omega arith)), last))
    (λ earlier.
    rw (none n (omega arith) (λ same. earlier (sym same)))
    (append-nil _ ∙ below_only n k f (omega arith) (λ i below. none i (omega arith))))
  where
    nothing : (m : ℕ) → ((i : ℕ) → i < m → f i ≡ []) → each_below m f ≡ []
    nothing zero empty = refl
    nothing (suc m) empty = rw (nothing m (λ i below. empty i (omega arith)), empty m (omega arith))

-- a collection over entries that were collected below a bound, over one entry, and over entries that were made of others
pub each_of_below : {A B : Type 0} (n : ℕ) (f : ℕ → List A) (adds : A → List B)
    → each_of (each_below n f) adds ≡ each_below n (λ k. each_of (f k) adds)
unfolding each_below each_of
each_of_below zero f adds = refl
each_of_below (suc n) f adds =
    each_of_append adds (each_below n f) (f n) ∙ ap (λ l. l ++ each_of (f n) adds) (each_of_below n f adds)

pub each_of_only : {A B : Type 0} (b : Bool) (x : A) (adds : A → List B)
    → each_of (only_if b x) adds ≡ cond b (adds x) []
unfolding each_of
each_of_only true x adds = append-nil (adds x)
each_of_only false x adds = refl

pub each_of_map : {A B C : Type 0} (f : A → B) (xs : List A) (adds : B → List C)
    → each_of (map f xs) adds ≡ each_of xs (λ x. adds (f x))
unfolding each_of
each_of_map f [] adds = refl
each_of_map f (x ∷ xs) adds = ap (λ l. adds (f x) ++ l) (each_of_map f xs adds)

-- a test before a collection
pub cond_below : {A : Type 0} (b : Bool) (n : ℕ) (f : ℕ → List A)
    → cond b (each_below n f) [] ≡ each_below n (λ k. cond b (f k) [])
unfolding each_below
cond_below true n f = refl
cond_below false zero f = refl
cond_below false (suc n) f = ap (λ l. l ++ []) (cond_below false n f)

pub cond_only : {A : Type 0} (b c : Bool) (x : A) → cond b (only_if c x) [] ≡ only_if (b && c) x
cond_only true c x = refl
cond_only false c x = refl

pub each_of_each : {A B C : Type 0} (xs : List A) (f : A → List B) (adds : B → List C)
    → each_of (each_of xs f) adds ≡ each_of xs (λ x. each_of (f x) adds)
unfolding each_of
each_of_each [] f adds = refl
each_of_each (x ∷ xs) f adds =
    each_of_append adds (f x) (each_of xs f) ∙ ap (λ l. each_of (f x) adds ++ l) (each_of_each xs f adds)
