-- The first number below a bound that passes a test: none before it passes, it does, and no other number is so. Assumes
-- nothing.
use Prim.Native.Nat.{ℕ, zero, suc, ◌<◌, ◌≤◌}
use mathlib.Core.Path.{◌≡◌, refl}
use mathlib.Core.Bool.{Bool, true, false, cond}
use native.Mathlib.Nat.{le_of_suc-le-suc, not-suc-le-zero}
use native.Mathlib.Omega.{arith}
use Rattle.lists.proofs.Bools.{not_both}
use Rattle.readers.specs.NextReader.{first_below}

-- a number up to the bound, before which none passes the test, and which passes it where it is below the bound
pub record First (n : ℕ) (test : ℕ → Bool) (k : ℕ) : Type 0 where
  pub within : k ≤ n
  pub before : (j : ℕ) → j < k → test j ≡ false
  pub passes : k < n → test k ≡ true

none_before : (test : ℕ → Bool) (j : ℕ) → j < 0 → test j ≡ false
none_before test j less = absurd (not-suc-le-zero less)

-- such is what is found
pub first_found : (n : ℕ) (test : ℕ → Bool) → First n test (first_below n test)
unfolding first_below
first_found zero test =
    record { within = omega arith; before = none_before test; passes = λ less. absurd (not-suc-le-zero less) }
first_found (suc n) test = go (test 0) refl (first_found n (λ k. test (suc k)))
  where
    before_next : {k : ℕ} → test 0 ≡ false → First n (λ k. test (suc k)) k → (j : ℕ) → j < suc k → test j ≡ false
    before_next fails rest zero less = fails
    before_next fails rest (suc j) less = rest.before j (le_of_suc-le-suc less)

    go : (b : Bool) {k : ℕ} → test 0 ≡ b → First n (λ k. test (suc k)) k → First (suc n) test (cond b 0 (suc k))
    go true passes rest = record { within = omega arith; before = none_before test; passes = λ less. passes }
    go false fails rest = record {
      within = omega (arith, rest.within);
      before = before_next fails rest;
      passes = λ less. rest.passes (le_of_suc-le-suc less);
    }

-- of two such numbers neither is the smaller
not_smaller : {n : ℕ} {test : ℕ → Bool} {k m : ℕ} → First n test k → First n test m → ¬ (k < m)
not_smaller {n} {test} {k} {m} one other less =
    let few = other.within in not_both (test k) (one.passes (omega arith)) (other.before k less)

-- no other number is so
pub first_only : {n : ℕ} {test : ℕ → Bool} {k : ℕ} → First n test k → k ≡ first_below n test
first_only {n} {test} {k} first =
    let found = first_found n test in
    let up = not_smaller first found in
    let down = not_smaller found first in
    omega (arith, up, down)
