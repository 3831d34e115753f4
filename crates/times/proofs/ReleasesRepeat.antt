-- Releases repeat with every multiple of the task's period, and with them the first at or after a tick and the last at
-- or before it. Assumes nothing.
use Prim.Native.Nat.{ℕ, suc, ◌+◌, ◌%◌, ◌<◌, ◌∣◌}
use mathlib.Core.Path.{◌≡◌, sym, ap, ◌∙◌}
use mathlib.Core.Bool.{true}
use native.Mathlib.Nat.{add-mod-mod, add-zero, dvd_refl, mod-eq-zero_of_dvd}
use native.Mathlib.Omega.{arith}
use lib.Dec.{eqb, ltb}
use borrow.Author.Tests.{ltb-true, lt-ltb}
use Rattle.lists.proofs.Bools.{same_test}
use Rattle.times.specs.PointTests.{released_from, released_to}
use Rattle.times.specs.Releases.{Timing, is_release, first_from, last_to}
use Rattle.times.proofs.Releases.{first_from_is, first_from_is_release, first_from_at_least, first_from_near}
use Rattle.times.proofs.Releases.{last_to_is, last_to_is_release, last_to_at_most, last_to_near}

same_order : (a b c d : ℕ) → (a < b → c < d) → (c < d → a < b) → ltb a b ≡ ltb c d
same_order a b c d to from =
    same_test (ltb a b) (ltb c d) (λ h. lt-ltb c d (to (ltb-true a b h))) (λ h. lt-ltb a b (from (ltb-true c d h)))

module _ (task : Timing) (H : ℕ) (multiple : task.period ∣ H) where
  pub release_repeats : (t : ℕ) → is_release task (t + H) ≡ is_release task t
  unfolding is_release
  release_repeats t =
      let T = task.period in
      ap (λ (k : ℕ). eqb k 0)
      (sym (add-mod-mod t H T)
      ∙ ap (λ (k : ℕ). (t + k) % T) (mod-eq-zero_of_dvd T multiple)
      ∙ ap (λ (k : ℕ). k % T) (add-zero t))

  module _ (positive : 0 < task.period) where
    pub first_from_repeats : (t : ℕ) → first_from task (t + H) ≡ first_from task t + H
    first_from_repeats t =
        first_from_is
        task
        positive
        (t + H)
        (first_from task t + H)
        (release_repeats (first_from task t) ∙ first_from_is_release task t)
        (omega (arith, first_from_at_least task positive t))
        (omega (arith, first_from_near task positive t))

    pub last_to_repeats : (t : ℕ) → last_to task (t + H) ≡ last_to task t + H
    last_to_repeats t =
        last_to_is
        task
        positive
        (t + H)
        (last_to task t + H)
        (release_repeats (last_to task t) ∙ last_to_is_release task t)
        (omega (arith, last_to_at_most task t))
        (omega (arith, last_to_near task positive t))

    -- and so do the tests whether a release lies within a stretch of time
    pub released_from_repeats : (t length : ℕ) → released_from task (t + H) length ≡ released_from task t length
    released_from_repeats t length =
        same_order
        (first_from task (t + H))
        (t + H + length)
        (first_from task t)
        (t + length)
        (λ h. omega (arith, first_from_repeats t))
        (λ h. omega (arith, first_from_repeats t))

    pub released_to_repeats : (t length : ℕ) → released_to task (t + H) length ≡ released_to task t length
    released_to_repeats t length =
        same_order
        (t + H)
        (last_to task (t + H) + length)
        t
        (last_to task t + length)
        (λ h. omega (arith, last_to_repeats t))
        (λ h. omega (arith, last_to_repeats t))

-- after a release the next is a period later
pub first_from_after : (task : Timing) → 0 < task.period → (t : ℕ) → is_release task t ≡ true
    → first_from task (suc t) ≡ t + task.period
first_from_after task positive t released =
    let T = task.period in
    first_from_is task positive (suc t) (t + T) (release_repeats task T (dvd_refl T) t ∙ released)
    (omega arith) (omega arith)
