-- What each of a list, or each number below a bound, has to add: lists that are put together, and one entry each.
-- Assumes nothing.
use Prim.Native.Nat.{ℕ, zero, suc, ◌*◌, ◌<◌, ◌≤◌}
use mathlib.Core.Path.{◌≡◌, refl, sym, ap, ◌∙◌}
use mathlib.Core.Logic.{by_cases}
use mathlib.Core.Bool.{Bool, true, false}
use mathlib.Core.List.{List, [], ◌∷◌, ◌++◌, append_assoc}
use native.Mathlib.Decide.{dec_lt}
use native.Mathlib.Numerals.{add-one}
use native.Mathlib.Omega.{arith}
use lib.ListN.{length, get_or, length-append, get_or-append}
use lib.Seq.{ext_get_or, get_or_at}
use Rattle.lists.specs.Lists.{each_below, each_of, only_if}

pub each_of_append : {A B : Type 0} (adds : A → List B) (xs ys : List A)
    → each_of (xs ++ ys) adds ≡ each_of xs adds ++ each_of ys adds
unfolding each_of
each_of_append adds [] ys = refl
each_of_append adds (x ∷ xs) ys =
    ap (λ l. adds x ++ l) (each_of_append adds xs ys) ∙ sym (append_assoc (adds x) (each_of xs adds) (each_of ys adds))

-- how much numbers below n add, each at most so much
pub length_each_below : {A : Type 0} (most n : ℕ) (adds : ℕ → List A)
    → ((k : ℕ) → k < n → length (adds k) ≤ most) → length (each_below n adds) ≤ most * n
unfolding each_below
length_each_below most zero adds each = omega arith
length_each_below most (suc n) adds each =
    let fewer = length_each_below most n adds (λ k below. each k (omega arith)) in
    omega (arith, length-append (each_below n adds) (adds n), each n (omega arith))

-- how much the entries of a list add, each at most so much
pub length_each_of : {A B : Type 0} (most : ℕ) (xs : List A) (adds : A → List B)
    → ((x : A) → length (adds x) ≤ most) → length (each_of xs adds) ≤ most * length xs
unfolding each_of
length_each_of most [] adds each = omega arith
length_each_of most (x ∷ xs) adds each =
    let fewer = length_each_of most xs adds each in
    omega (arith, length-append (adds x) (each_of xs adds), each x)

pub length_only_if : {A : Type 0} (test : Bool) (x : A) → length (only_if test x) ≤ 1
length_only_if true x = omega arith
length_only_if false x = omega arith

module _ {A : Type 0} (f : ℕ → A) where
  -- one entry for each number below n: so many
  pub length_one_each : (n : ℕ) → length (each_below n (λ k. f k ∷ [])) ≡ n
  unfolding each_below
  length_one_each zero = refl
  length_one_each (suc n) = length-append (each_below n (λ k. f k ∷ [])) _ ∙ add-one _ ∙ ap suc (length_one_each n)

  -- and the entry of a number is its own
  pub one_each_at : (d : A) (n k : ℕ) → k < n → get_or (each_below n (λ k. f k ∷ [])) k d ≡ f k
  unfolding each_below
  one_each_at d zero k h = absurd (omega arith)
  one_each_at d (suc n) k h =
      let before = each_below n (λ k. f k ∷ []) in
      let long = length_one_each n in
      by_cases (dec_lt k n)
      (λ earlier. get_or-append before (f n ∷ []) d k (omega arith) ∙ one_each_at d n k earlier)
      (λ later.
      let last : k ≡ n = omega arith in
      rw last (get_or_at before (f n) [] d n long))

  -- a list is one entry for each number below its length
  pub one_each_same : (d : A) (xs : List A) (n : ℕ) → length xs ≡ n → ((k : ℕ) → k < n → f k ≡ get_or xs k d)
      → each_below n (λ k. f k ∷ []) ≡ xs
  one_each_same d xs n long same =
      let own = length_one_each n in
      ext_get_or d _ _ (own ∙ sym long) (λ k below.
      let inside : k < n = omega arith in
      one_each_at d n k inside ∙ same k inside)
