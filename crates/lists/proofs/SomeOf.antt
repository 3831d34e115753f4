-- Whether some of a list passes a test, for lists that are put together. Assumes nothing.
use Prim.Native.Nat.{ℕ, zero, suc}
use mathlib.Core.Bool.{Bool, true, false, ◌&&◌, ◌||◌, or-false, or_assoc, false≢true}
use mathlib.Core.Logic.{⊎_elim}
use mathlib.Core.Path.{◌≡◌, refl, sym, ap, ap₂, ◌∙◌}
use mathlib.Core.List.{List, [], ◌∷◌, ◌++◌, map}
use Rattle.lists.specs.Lists.{some_below, some_of, each_below, each_of, only_if}
use Rattle.lists.proofs.All.{All}
use Rattle.lists.proofs.Bools.{or_part}

module _ {A : Type 0} (test : A → Bool) where
  pub some_append : (xs ys : List A) → some_of test (xs ++ ys) ≡ (some_of test xs || some_of test ys)
  unfolding some_of
  some_append [] ys = refl
  some_append (x ∷ xs) ys =
      ap (λ b. test x || b) (some_append xs ys) ∙ sym (or_assoc (test x) (some_of test xs) (some_of test ys))

  pub some_each_below : (n : ℕ) (adds : ℕ → List A)
      → some_of test (each_below n adds) ≡ some_below n (λ k. some_of test (adds k))
  unfolding some_of each_below some_below
  some_each_below zero adds = refl
  some_each_below (suc n) adds =
      some_append (each_below n adds) (adds n) ∙ ap (λ b. b || some_of test (adds n)) (some_each_below n adds)

  pub some_each_of : {B : Type 0} (xs : List B) (adds : B → List A)
      → some_of test (each_of xs adds) ≡ some_of (λ x. some_of test (adds x)) xs
  unfolding some_of each_of
  some_each_of [] adds = refl
  some_each_of (x ∷ xs) adds =
      some_append (adds x) (each_of xs adds) ∙ ap (λ b. some_of test (adds x) || b) (some_each_of xs adds)

  pub some_only_if : (b : Bool) (x : A) → some_of test (only_if b x) ≡ (b && test x)
  unfolding some_of
  some_only_if true x = or-false (test x)
  some_only_if false x = refl

  pub some_map : {B : Type 0} (f : B → A) (xs : List B) → some_of test (map f xs) ≡ some_of (λ x. test (f x)) xs
  unfolding some_of
  some_map f [] = refl
  some_map f (x ∷ xs) = ap (λ b. test (f x) || b) (some_map f xs)

  -- a test that nothing of the list bears on
  pub some_and : (b : Bool) (xs : List A) → some_of (λ x. b && test x) xs ≡ (b && some_of test xs)
  unfolding some_of
  some_and true xs = refl
  some_and false [] = refl
  some_and false (x ∷ xs) = some_and false xs

  -- tests that agree on a list
  pub some_same : (other : A → Bool) (xs : List A) → All (λ x. test x ≡ other x) xs → some_of test xs ≡ some_of other xs
  unfolding some_of
  some_same other [] same = refl
  some_same other (x ∷ xs) same = ap₂ ◌||◌ same.0 (some_same other xs same.1)

  -- what passes, with what holds of all of the list
  pub some_of_all : (P : A → Type 0) (xs : List A) → some_of test xs ≡ true → All P xs → (x : A) × (test x ≡ true) × P x
  unfolding some_of
  some_of_all P [] some all = absurd (false≢true some)
  some_of_all P (x ∷ xs) some all =
      ⊎_elim (λ here. (x, here, all.0)) (λ later. some_of_all P xs later all.1)
      (or_part (test x) (some_of test xs) some)
