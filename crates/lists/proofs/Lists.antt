-- The search below a bound finds what is there and nothing else. Assumes nothing.
use Prim.Native.Nat.{ℕ, zero, suc, ◌<◌}
use mathlib.Core.Path.{◌≡◌, refl, ap₂, subst}
use mathlib.Core.Logic.{⊎_elim}
use mathlib.Core.Bool.{Bool, true, false, ◌||◌}
use native.Mathlib.Nat.{eq-or-lt_of_le, le_of_suc-le-suc, suc_inj}
use native.Mathlib.Omega.{arith}
use Rattle.lists.specs.Lists.{some_below}
use Rattle.lists.proofs.Bools.{or_part, or_of_left, or_of_right, false_unless_true, not_both}

-- what is found is below the bound and passes the test
pub some_below_finds : (n : ℕ) (test : ℕ → Bool) → some_below n test ≡ true → (k : ℕ) × (k < n) × (test k ≡ true)
unfolding some_below
some_below_finds zero test h = let never : ◌≡◌ {A = ℕ} 0 1 = cc in absurd (omega arith)
some_below_finds (suc n) test h =
    ⊎_elim
    (λ e. let found = some_below_finds n test e in (found.0, omega arith, found.2))
    (λ e. (n, omega arith, e))
    (or_part (some_below n test) (test n) h)

-- what passes the test below the bound is found
pub some_below_found : (n : ℕ) (test : ℕ → Bool) (k : ℕ) → k < n → test k ≡ true → some_below n test ≡ true
unfolding some_below
some_below_found zero test k h e = absurd (omega arith)
some_below_found (suc n) test k h e =
    ⊎_elim
    (λ last. or_of_right (some_below n test) (test n) (subst (λ (m : ℕ). test m ≡ true) (suc_inj last) e))
    (λ less. or_of_left (some_below n test) (test n) (some_below_found n test k (le_of_suc-le-suc less) e))
    (eq-or-lt_of_le h)

-- where nothing is found every number below the bound fails the test
pub some_below_none_passes
    : (n : ℕ) (test : ℕ → Bool) → some_below n test ≡ false → (k : ℕ) → k < n → test k ≡ false
some_below_none_passes n test h k less =
    false_unless_true (test k) (λ e. not_both (some_below n test) (some_below_found n test k less e) h)

-- where every number below the bound fails the test nothing is found
pub some_below_nothing : (n : ℕ) (test : ℕ → Bool) → ((k : ℕ) → k < n → test k ≡ false) → some_below n test ≡ false
some_below_nothing n test fails = false_unless_true (some_below n test) (λ h. none (some_below_finds n test h))
  where
    none : (k : ℕ) × (k < n) × (test k ≡ true) → ⊥
    none found = not_both (test found.0) found.2 (fails found.0 found.1)

-- tests that agree below the bound find alike
pub some_below_same
    : (n : ℕ) (test other : ℕ → Bool) → ((k : ℕ) → k < n → test k ≡ other k) → some_below n test ≡ some_below n other
unfolding some_below
some_below_same zero test other same = refl
some_below_same (suc n) test other same =
    ap₂ ◌||◌ (some_below_same n test other (λ k h. same k (omega arith))) (same n (omega arith))
