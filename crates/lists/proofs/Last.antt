-- The last number below a bound that passes a test: a search for something that passes it may begin there. Assumes
-- nothing.
use Prim.Native.Nat.{ℕ, zero, suc, ◌≤◌}
use mathlib.Core.Path.{◌≡◌, refl, sym, ap, ◌∙◌}
use mathlib.Core.Bool.{Bool, true, false, cond, ◌&&◌, ◌||◌, or-false}
use native.Mathlib.Nat.{suc_inj}
use native.Mathlib.Omega.{arith}
use Rattle.lists.specs.Lists.{some_below, last_below}

-- it is below the bound
pub last_within : (n : ℕ) (test : ℕ → Bool) → last_below n test ≤ n
unfolding last_below
last_within zero test = omega arith
last_within (suc n) test = go (test n) (last_within n test)
  where
    go : (passes : Bool) {found : ℕ} → found ≤ n → cond passes (suc n) found ≤ suc n
    go true within = omega arith
    go false within = omega arith

-- it passes the test
pub last_passes : (n : ℕ) (test : ℕ → Bool) (k : ℕ) → last_below n test ≡ suc k → test k ≡ true
unfolding last_below
last_passes zero test k e = absurd (omega arith)
last_passes (suc n) test k e = go (test n) refl (last_passes n test k) e
  where
    go : (passes : Bool) {found : ℕ} → test n ≡ passes → (found ≡ suc k → test k ≡ true)
        → cond passes (suc n) found ≡ suc k → test k ≡ true
    go true passes below e = ap test (sym (suc_inj e)) ∙ passes
    go false fails below e = below e

-- nothing past it passes the test, nor any stricter one
pub last_enough : (n : ℕ) (test further : ℕ → Bool)
    → some_below n (λ k. test k && further k) ≡ some_below (last_below n test) (λ k. test k && further k)
unfolding some_below last_below
last_enough zero test further = refl
last_enough (suc n) test further = go (test n) (last_below n test) refl (last_enough n test further)
  where
    both : ℕ → Bool
    both k = test k && further k

    go : (passes : Bool) (found : ℕ) → test n ≡ passes → some_below n both ≡ some_below found both
        → (some_below n both || (passes && further n)) ≡ some_below (cond passes (suc n) found) both
    go true found passes below = ap (λ b. some_below n both || (b && further n)) (sym passes)
    go false found fails below = or-false _ ∙ below
