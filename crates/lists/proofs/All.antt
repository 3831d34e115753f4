-- Each of a list has a property. Assumes nothing.
use Prim.Native.Nat.{ℕ, zero, suc, ◌<◌}
use mathlib.Core.Path.{◌≡◌, refl, ap₂}
use mathlib.Core.Bool.{Bool, true, false}
use mathlib.Core.List.{List, [], ◌∷◌, ◌++◌, map}
use native.Mathlib.Nat.{le_of_suc-le-suc}
use native.Mathlib.Omega.{arith}
use lib.ListN.{length, get_or, replicate}
use Rattle.lists.specs.Lists.{each_below, each_of, only_if}

abbrev pub All : {A : Type 0} → (A → Type 0) → List A → Type 0
All P [] = Unit {0}
All P (x ∷ xs) = P x × All P xs

module _ {A : Type 0} (P : A → Type 0) where
  pub all_append : (xs ys : List A) → All P xs → All P ys → All P (xs ++ ys)
  all_append [] ys hx hy = hy
  all_append (x ∷ xs) ys hx hy = (hx.0, all_append xs ys hx.1 hy)

  pub all_replicate : (n : ℕ) (a : A) → P a → All P (replicate n a)
  all_replicate zero a of_a = tt
  all_replicate (suc n) a of_a = (of_a, all_replicate n a of_a)

  -- the entry of a number inside the list
  pub all_within : (xs : List A) (d : A) → All P xs → (i : ℕ) → i < length xs → P (get_or xs i d)
  all_within [] d all i inside = absurd (omega arith)
  all_within (x ∷ xs) d all zero inside = all.0
  all_within (x ∷ xs) d all (suc i) inside = all_within xs d all.1 i (le_of_suc-le-suc inside)

  -- the entry of any number, where what stands for one past the end has the property too
  pub all_at : (xs : List A) (d : A) → All P xs → P d → (i : ℕ) → P (get_or xs i d)
  all_at [] d all of_d i = of_d
  all_at (x ∷ xs) d all of_d zero = all.0
  all_at (x ∷ xs) d all of_d (suc i) = all_at xs d all.1 of_d i

  pub all_map : {B : Type 0} (f : B → A) (xs : List B) → All (λ x. P (f x)) xs → All P (map f xs)
  all_map f [] all = tt
  all_map f (x ∷ xs) all = (all.0, all_map f xs all.1)

  pub all_of_map : {B : Type 0} (f : B → A) (xs : List B) → All P (map f xs) → All (λ x. P (f x)) xs
  all_of_map f [] all = tt
  all_of_map f (x ∷ xs) all = (all.0, all_of_map f xs all.1)

  -- all that each number below a bound has to add
  pub all_each_below : (n : ℕ) (adds : ℕ → List A) → ((k : ℕ) → k < n → All P (adds k)) → All P (each_below n adds)
  unfolding each_below
  all_each_below zero adds each = tt
  all_each_below (suc n) adds each =
      all_append (each_below n adds) (adds n) (all_each_below n adds (λ k below. each k (omega arith)))
      (each n (omega arith))

  pub all_only_if : (test : Bool) (x : A) → (test ≡ true → P x) → All P (only_if test x)
  all_only_if true x of_x = (of_x refl, tt)
  all_only_if false x of_x = tt

-- what holds of everything
pub all_each : {A : Type 0} {P : A → Type 0} (xs : List A) → ((x : A) → P x) → All P xs
all_each [] holds = tt
all_each (x ∷ xs) holds = (holds x, all_each xs holds)

-- each has what follows from the property
pub all_also : {A : Type 0} (P Q : A → Type 0) → ((x : A) → P x → Q x) → (xs : List A) → All P xs → All Q xs
all_also P Q also [] all = tt
all_also P Q also (x ∷ xs) all = (also x all.0, all_also P Q also xs all.1)

-- all that each of a list has to add
pub all_each_of : {A B : Type 0} (P : B → Type 0) (xs : List A) (adds : A → List B)
    → All (λ x. All P (adds x)) xs → All P (each_of xs adds)
unfolding each_of
all_each_of P [] adds all = tt
all_each_of P (x ∷ xs) adds all = all_append P (adds x) (each_of xs adds) all.0 (all_each_of P xs adds all.1)

-- of functions that agree on a list, the lists are the same
pub map_same : {A B : Type 0} (f g : A → B) (xs : List A) → All (λ x. f x ≡ g x) xs → map f xs ≡ map g xs
map_same f g [] same = refl
map_same f g (x ∷ xs) same = ap₂ ◌∷◌ same.0 (map_same f g xs same.1)
