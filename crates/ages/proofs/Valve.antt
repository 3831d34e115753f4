-- The age at the valve: document 01's worst age and best age are each raised by the last task's period, so the jitter
-- stays. Document 02, C-11. Assumes nothing.
use Prim.Native.Nat.{ℕ, ◌+◌, ◌-◌}
use mathlib.Core.Path.{◌≡◌, refl}
use mathlib.Core.List.Memᴰ
use mathlib.Core.List.{List, [], ◌∷◌, map, Memᴰ}
use native.Mathlib.Omega.{arith}
use Rattle.ages.specs.Ages.{Chain, last_period, age_at_release, age_of, largest, least, basic_paths}
use Rattle.ages.specs.Ages.{worst_age, best_age, ages_of}
use Rattle.ages.specs.Paths.{worst_at_release, best_at_release}
use Rattle.ages.proofs.Rising.{Timed}
use Rattle.ages.proofs.Reached.{some_path}

-- one function is another raised by d: so is the largest of what it gives for a list that has some entry, and the least
module _ (f raised : ℕ → ℕ) (d : ℕ) (by : (t : ℕ) → raised t ≡ f t + d) where
  largest_raised : (x : ℕ) (xs : List ℕ) → largest (map raised (x ∷ xs)) ≡ largest (map f (x ∷ xs)) + d
  unfolding largest
  largest_raised x [] = omega (arith, by x)
  largest_raised x (y ∷ more) = omega (arith, by x, largest_raised y more)

  least_raised : (x : ℕ) (xs : List ℕ) → least (map raised (x ∷ xs)) ≡ least (map f (x ∷ xs)) + d
  unfolding least
  least_raised x [] = by x
  least_raised x (y ∷ more) = omega (arith, by x, least_raised y more)

  both_raised : {t : ℕ} (xs : List ℕ) → Memᴰ t xs
      → (largest (map raised xs) ≡ largest (map f xs) + d) × (least (map raised xs) ≡ least (map f xs) + d)
  both_raised [] some = absurd (Memᴰ.not-nil some)
  both_raised (x ∷ xs) some = (largest_raised x xs, least_raised x xs)

module _ (chain : Chain) (timed : Timed chain) where
  at_the_valve : (largest (map (age_of chain) (basic_paths chain)) ≡ worst_at_release chain + last_period chain)
      × (least (map (age_of chain) (basic_paths chain)) ≡ best_at_release chain + last_period chain)
  unfolding age_of worst_at_release best_at_release
  at_the_valve =
      both_raised (age_at_release chain) (age_of chain) (last_period chain) (λ t. refl) (basic_paths chain)
      (some_path chain timed).1

  pub worst_later : (ages_of chain).worst ≡ worst_at_release chain + last_period chain
  unfolding ages_of worst_age
  worst_later = at_the_valve.0

  pub best_later : (ages_of chain).best ≡ best_at_release chain + last_period chain
  unfolding ages_of best_age
  best_later = at_the_valve.1

  pub jitter_stays : (ages_of chain).jitter ≡ worst_at_release chain - best_at_release chain
  unfolding ages_of worst_age best_age
  jitter_stays = omega (arith, at_the_valve.0, at_the_valve.1)
