-- The largest and the least of a list: each is one of the list, where it has any, and none of the list is beyond.
-- Assumes nothing.
use Prim.Native.Nat.{ℕ, ◌≤◌}
use mathlib.Core.Path.{◌≡◌, refl, sym, ap}
use mathlib.Core.Logic.{by_cases, ⊎_elim}
use mathlib.Core.List.Memᴰ
use mathlib.Core.List.{List, [], ◌∷◌, map, Memᴰ}
use native.Mathlib.Decide.{dec_le}
use native.Mathlib.Omega.{arith}
use Rattle.ages.specs.Ages.{largest, least}

largest_most : {y : ℕ} (xs : List ℕ) → Memᴰ y xs → y ≤ largest xs
unfolding largest
largest_most [] there = absurd (Memᴰ.not-nil there)
largest_most (x ∷ xs) there =
    ⊎_elim (λ same. omega arith) (λ later. omega (arith, largest_most xs later)) (Memᴰ.cases_cons there)

largest_there : (x : ℕ) (xs : List ℕ) → Memᴰ (largest (x ∷ xs)) (x ∷ xs)
unfolding largest
largest_there x [] = Memᴰ.head {x = x} (omega arith)
largest_there x (y ∷ more) =
    by_cases (dec_le (largest (y ∷ more)) x)
    (λ here. Memᴰ.head {x = x} (omega arith))
    (λ later. Memᴰ.tail (Memᴰ.cast (omega arith) (largest_there y more)))

least_least : {y : ℕ} (xs : List ℕ) → Memᴰ y xs → least xs ≤ y
unfolding least
least_least [] there = absurd (Memᴰ.not-nil there)
least_least (x ∷ []) there = omega (arith, Memᴰ.eq_of_singleton there)
least_least (x ∷ z ∷ more) there =
    ⊎_elim (λ same. omega arith) (λ later. omega (arith, least_least (z ∷ more) later)) (Memᴰ.cases_cons there)

least_there : (x : ℕ) (xs : List ℕ) → Memᴰ (least (x ∷ xs)) (x ∷ xs)
unfolding least
least_there x [] = Memᴰ.head refl
least_there x (y ∷ more) =
    by_cases (dec_le x (least (y ∷ more)))
    (λ here. Memᴰ.head {x = x} (omega arith))
    (λ later. Memᴰ.tail (Memᴰ.cast (omega arith) (least_there y more)))

map_has : (f : ℕ → ℕ) {x : ℕ} (xs : List ℕ) → Memᴰ x xs → Memᴰ (f x) (map f xs)
map_has f [] there = absurd (Memᴰ.not-nil there)
map_has f (y ∷ xs) there =
    ⊎_elim (λ same. Memᴰ.head (ap f same)) (λ later. Memᴰ.tail (map_has f xs later))
    (Memᴰ.cases_cons there)

map_only : (f : ℕ → ℕ) {y : ℕ} (xs : List ℕ) → Memᴰ y (map f xs) → (x : ℕ) × Memᴰ x xs × (f x ≡ y)
map_only f [] there = absurd (Memᴰ.not-nil there)
map_only f (x ∷ xs) there =
    ⊎_elim (λ same. (x, Memᴰ.head refl, sym same))
    (λ later.
    let (found, among, value) = map_only f xs later in
    (found, Memᴰ.tail among, value))
    (Memᴰ.cases_cons there)

-- of what a function gives for each of a list that has some entry
module _ (f : ℕ → ℕ) (xs : List ℕ) where
  pub none_larger : {x : ℕ} → Memᴰ x xs → f x ≤ largest (map f xs)
  none_larger there = largest_most (map f xs) (map_has f xs there)

  pub none_less : {x : ℕ} → Memᴰ x xs → least (map f xs) ≤ f x
  none_less there = least_least (map f xs) (map_has f xs there)

pub largest_reached : (f : ℕ → ℕ) {x : ℕ} (xs : List ℕ) → Memᴰ x xs
    → (y : ℕ) × Memᴰ y xs × (f y ≡ largest (map f xs))
largest_reached f [] some = absurd (Memᴰ.not-nil some)
largest_reached f (z ∷ xs) some = map_only f (z ∷ xs) (largest_there (f z) (map f xs))

pub least_reached : (f : ℕ → ℕ) {x : ℕ} (xs : List ℕ) → Memᴰ x xs
    → (y : ℕ) × Memᴰ y xs × (f y ≡ least (map f xs))
least_reached f [] some = absurd (Memᴰ.not-nil some)
least_reached f (z ∷ xs) some = map_only f (z ∷ xs) (least_there (f z) (map f xs))
