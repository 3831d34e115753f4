-- When a task is released: the first release at or after a tick and the last at or before it, how far two releases are
-- apart, and that releases repeat with every multiple of the period. Document 01: "A task with period T is released at
-- 0, T, 2T and so on". What is said of releases elsewhere rests on the laws here. Assumes nothing.
use Prim.Native.Nat.{ℕ, suc, ◌+◌, ◌*◌, ◌-◌, ◌/◌, ◌%◌, ◌<◌, ◌≤◌}
use mathlib.Core.Path.{◌≡◌, ap, ◌∙◌}
use mathlib.Core.Logic.{by_cases}
use mathlib.Core.Bool.{true}
use native.Mathlib.Nat.{div-add-mod', div-mul-le_self, lt-div-mul-add, lt_of_mul-lt-mul_right, mul-le-mul_right}
use native.Mathlib.Nat.{mul-mod_left, mul-zero, suc-mul}
use native.Mathlib.Decide.{dec_lt}
use native.Mathlib.Omega.{arith}
use borrow.Author.Tests.{eqb-true, eq-eqb}
use Rattle.times.specs.Releases.{Timing, release, is_release, floor, ceil, first_from, last_to}

-- a period of 0 has no release but 0
pub release_of_zero : (task : Timing) → task.period ≡ 0 → (k : ℕ) → release task k ≡ 0
unfolding release
release_of_zero task e k = ap (λ (T : ℕ). k * T) e ∙ mul-zero k

-- every release is one
pub release_is_release : (task : Timing) (k : ℕ) → is_release task (release task k) ≡ true
unfolding is_release release
release_is_release task k = eq-eqb (k * task.period % task.period) 0 (mul-mod_left k task.period)

-- and has a number
pub release_number : (task : Timing) (t : ℕ) → is_release task t ≡ true → (k : ℕ) × (release task k ≡ t)
unfolding is_release release
release_number task t h =
    let none_left : t % task.period ≡ 0 = eqb-true (t % task.period) 0 h in
    (t / task.period, omega (arith, div-add-mod' t task.period))

pub first_from_is_release : (task : Timing) (t : ℕ) → is_release task (first_from task t) ≡ true
unfolding first_from
first_from_is_release task t = release_is_release task (ceil t task.period)

pub last_to_is_release : (task : Timing) (t : ℕ) → is_release task (last_to task t) ≡ true
unfolding last_to
last_to_is_release task t = release_is_release task (floor t task.period)

-- it is at or before t
pub last_to_at_most : (task : Timing) (t : ℕ) → last_to task t ≤ t
unfolding last_to release
last_to_at_most task t = div-mul-le_self t task.period

module _ (task : Timing) (positive : 0 < task.period) where
  -- a later release is at least a period later
  pub releases_apart
      : (s t : ℕ) → is_release task s ≡ true → is_release task t ≡ true → s < t → s + task.period ≤ t
  unfolding release
  releases_apart s t hs ht less =
      let T = task.period in
      let i = release_number task s hs in
      let j = release_number task t ht in
      let number : i.0 < j.0 = lt_of_mul-lt-mul_right T (rw (i.1, j.1) less) in
      let later : suc i.0 * T ≤ j.0 * T = mul-le-mul_right T number in
      omega (arith, suc-mul i.0 T, i.1, j.1)

  -- two releases less than a period apart are the same
  pub releases_near
      : (s t : ℕ)
      → is_release task s ≡ true
      → is_release task t ≡ true
      → s < t + task.period
      → t < s + task.period
      → s ≡ t
  releases_near s t hs ht hst hts = by_cases (dec_lt s t) (λ less. absurd (before less)) (λ more. at_least more)
    where
      before : s < t → ⊥
      before less = omega (arith, releases_apart s t hs ht less)

      at_least : ¬ (s < t) → s ≡ t
      at_least more = by_cases (dec_lt t s) (λ less. absurd (after less)) (λ same. omega arith)
        where
          after : t < s → ⊥
          after less = omega (arith, releases_apart t s ht hs less)

  -- the first release at or after t is at or after t, less than a period away
  pub first_from_at_least : (t : ℕ) → t ≤ first_from task t
  unfolding first_from release
  first_from_at_least t = omega (arith, lt-div-mul-add {a = t + (task.period - 1)} positive)

  pub first_from_near : (t : ℕ) → first_from task t < t + task.period
  unfolding first_from release
  first_from_near t = omega (arith, div-mul-le_self (t + (task.period - 1)) task.period)

  -- no release lies between
  pub first_from_first : (t s : ℕ) → is_release task s ≡ true → t ≤ s → first_from task t ≤ s
  first_from_first t s h le = by_cases (dec_lt s (first_from task t)) between (λ not-less. omega arith)
    where
      between : s < first_from task t → first_from task t ≤ s
      between less =
          let apart = releases_apart s (first_from task t) h (first_from_is_release task t) less in
          absurd (omega (arith, first_from_near t))

  -- a release at or after t, less than a period away, is the first
  pub first_from_is : (t s : ℕ) → is_release task s ≡ true → t ≤ s → s < t + task.period → first_from task t ≡ s
  first_from_is t s h le near =
      releases_near
      (first_from task t)
      s
      (first_from_is_release task t)
      h
      (omega (arith, first_from_near t))
      (omega (arith, first_from_at_least t))

  -- the last release at or before t is less than a period away
  pub last_to_near : (t : ℕ) → t < last_to task t + task.period
  unfolding last_to release
  last_to_near t = lt-div-mul-add positive

  -- no release lies between
  pub last_to_last : (t s : ℕ) → is_release task s ≡ true → s ≤ t → s ≤ last_to task t
  last_to_last t s h le = by_cases (dec_lt (last_to task t) s) between (λ not-less. omega arith)
    where
      between : last_to task t < s → s ≤ last_to task t
      between less =
          let apart = releases_apart (last_to task t) s (last_to_is_release task t) h less in
          absurd (omega (arith, last_to_near t))

  -- a release at or before t, less than a period away, is the last
  pub last_to_is : (t s : ℕ) → is_release task s ≡ true → s ≤ t → t < s + task.period → last_to task t ≡ s
  last_to_is t s h le near =
      releases_near
      (last_to task t)
      s
      (last_to_is_release task t)
      h
      (omega (arith, last_to_at_most task t))
      (omega (arith, last_to_near t))
