-- Tests of the numbers below a bound, with one number more. No contract cites this file. Assumes nothing.
use Prim.Native.Nat.{ℕ, ◌+◌, ◌<◌, min}
use mathlib.Core.Path.{◌≡◌, ◌∙◌}
use mathlib.Core.Logic.{by_cases}
use mathlib.Core.Bool.{Bool, true, false, ◌&&◌, ◌||◌, or-false, or-true, and-false}
use native.Mathlib.Decide.{ℕ_discrete, dec_lt}
use native.Mathlib.Omega.{arith}
use borrow.Author.Tests.{eq-eqb, ne_eqb, lt-ltb, le-ltb}
use lib.Dec.{eqb, ltb}

-- a test of the numbers below n, with n itself or without it
pub below_same : (n k : ℕ) (test : Bool) → ¬ (k ≡ n) → (ltb k n && test) ≡ (ltb k (n + 1) && test)
below_same n k test other =
    by_cases (dec_lt k n)
    (λ less. rw (lt-ltb k n less, lt-ltb k (n + 1) (omega arith)))
    (λ more. rw (le-ltb k n (omega arith), le-ltb k (n + 1) (omega arith)))

pub below_with : (n k : ℕ) (test : Bool) → (k ≡ n → test ≡ true) → ((ltb k n && test) || eqb k n) ≡ (ltb k (n + 1) && test)
below_with n k test there =
    by_cases (ℕ_discrete k n)
    (λ same. rw (eq-eqb k n same, lt-ltb k (n + 1) (omega arith), there same) (or-true (ltb k n && true)))
    (λ other. rw (ne_eqb k n other) (or-false _ ∙ below_same n k test other))

pub below_without : (n k : ℕ) (test : Bool) → (k ≡ n → test ≡ false) → (ltb k n && test) ≡ (ltb k (n + 1) && test)
below_without n k test there =
    by_cases (ℕ_discrete k n)
    (λ same. rw (there same, and-false (ltb k n), and-false (ltb k (n + 1))))
    (below_same n k test)

-- there is none below 0
pub none_below : (k : ℕ) (test : Bool) → false ≡ (ltb k 0 && test)
none_below k test = rw (le-ltb k 0 (omega arith))

-- as many labels as there are places for
pub same_labels : (labels l : ℕ) → l < 64 → ltb l (min labels 64) ≡ ltb l labels
same_labels labels l known =
    by_cases (dec_lt l labels)
    (λ less. rw (lt-ltb l labels less, lt-ltb l (min labels 64) (omega arith)))
    (λ more. rw (le-ltb l labels (omega arith), le-ltb l (min labels 64) (omega arith)))

pub same_tasks : (tasks r : ℕ) → r < 32 → ltb r (min tasks 32) ≡ ltb r tasks
same_tasks tasks r known =
    by_cases (dec_lt r tasks)
    (λ less. rw (lt-ltb r tasks less, lt-ltb r (min tasks 32) (omega arith)))
    (λ more. rw (le-ltb r tasks (omega arith), le-ltb r (min tasks 32) (omega arith)))
