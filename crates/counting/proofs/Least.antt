-- The least of some counters. Assumes nothing.
use Prim.Native.Nat.{ℕ, ◌≤◌, min}
use mathlib.Core.List.{List, [], ◌∷◌}
use mathlib.Core.Logic.{by_cases}
use mathlib.Core.Path.{◌≡◌}
use native.Mathlib.Decide.{dec_le}
use native.Mathlib.Omega.{arith}
use Rattle.lists.proofs.All.{All}
use Rattle.counters.specs.Advanced.{least_of}

-- it is at most the number that was there
least_within : (n : ℕ) (counters : List ℕ) → least_of n counters ≤ n
unfolding least_of
least_within n [] = omega arith
least_within n (counter ∷ counters) = omega (arith, least_within (min n counter) counters)

-- and at most each of them
pub least_each : (n : ℕ) (counters : List ℕ) → All (λ counter. least_of n counters ≤ counter) counters
unfolding least_of
least_each n [] = tt
least_each n (counter ∷ counters) =
    (omega (arith, least_within (min n counter) counters), least_each (min n counter) counters)

-- and one of these
pub least_has : (P : ℕ → Type 0) (n : ℕ) (counters : List ℕ) → P n → All P counters → P (least_of n counters)
unfolding least_of
least_has P n [] of_n all = of_n
least_has P n (counter ∷ counters) of_n all = least_has P (min n counter) counters smaller all.1
  where
    smaller : P (min n counter)
    smaller =
        by_cases (dec_le n counter)
        (λ le. let same : min n counter ≡ n = omega arith in rw same of_n)
        (λ more. let same : min n counter ≡ counter = omega arith in rw same all.0)
