-- Searches and collections below a bound, where another bound or another test gives the same. Assumes nothing.
use Prim.Native.Nat.{ℕ, zero, suc, ◌<◌, ◌≤◌}
use mathlib.Core.Path.{◌≡◌, refl, ap, ap₂, ◌∙◌}
use mathlib.Core.Bool.{Bool, true, false, ◌&&◌, ◌||◌, or-false}
use mathlib.Core.List.{List, [], ◌++◌, append-nil}
use native.Mathlib.Decide.{le_ind}
use native.Mathlib.Omega.{arith}
use Rattle.lists.specs.Lists.{some_below, each_below}

-- each number below the bound has the same to add
pub each_below_same : {A : Type 0} (n : ℕ) (adds other : ℕ → List A) → ((k : ℕ) → k < n → adds k ≡ other k)
    → each_below n adds ≡ each_below n other
unfolding each_below
each_below_same zero adds other same = refl
each_below_same (suc n) adds other same =
    ap₂ ◌++◌ (each_below_same n adds other (λ k below. same k (omega arith))) (same n (omega arith))

-- no number from n up to m has anything to add
pub each_below_less : {A : Type 0} (n m : ℕ) (adds : ℕ → List A) → n ≤ m
    → ((k : ℕ) → n ≤ k → k < m → adds k ≡ []) → each_below m adds ≡ each_below n adds
unfolding each_below
each_below_less {A} n m adds =
    le_ind (λ m. ((k : ℕ) → n ≤ k → k < m → adds k ≡ []) → each_below m adds ≡ each_below n adds)
    (λ none. refl)
    (λ m late less none.
    ap₂ ◌++◌ (less (λ k after below. none k after (omega arith))) (none m late (omega arith)) ∙ append-nil _) m

-- no number from n up to m passes the test
pub some_below_less : (n m : ℕ) (test : ℕ → Bool) → n ≤ m
    → ((k : ℕ) → n ≤ k → k < m → test k ≡ false) → some_below m test ≡ some_below n test
unfolding some_below
some_below_less n m test =
    le_ind (λ m. ((k : ℕ) → n ≤ k → k < m → test k ≡ false) → some_below m test ≡ some_below n test)
    (λ none. refl)
    (λ m late less none.
    ap₂ ◌||◌ (less (λ k after below. none k after (omega arith))) (none m late (omega arith)) ∙ or-false _) m

-- a test that no number bears on
pub some_below_and : (n : ℕ) (b : Bool) (test : ℕ → Bool)
    → some_below n (λ k. b && test k) ≡ (b && some_below n test)
unfolding some_below
some_below_and n true test = refl
some_below_and zero false test = refl
some_below_and (suc n) false test = ap (λ found. found || false) (some_below_and n false test)
