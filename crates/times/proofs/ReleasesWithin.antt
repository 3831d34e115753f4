-- The tests whether a release lies within a stretch of time, from a tick on and up to a tick, find exactly such
-- releases. Assumes nothing.
use Prim.Native.Nat.{ℕ, ◌+◌, ◌<◌, ◌≤◌}
use mathlib.Core.Path.{◌≡◌}
use mathlib.Core.Bool.{true}
use native.Mathlib.Omega.{arith}
use borrow.Author.Tests.{ltb-true, lt-ltb}
use Rattle.times.specs.Releases.{Timing, is_release, first_from, last_to}
use Rattle.times.specs.PointTests.{released_from, released_to}
use Rattle.times.proofs.Releases.{last_to_at_most, last_to_last, last_to_is_release}
use Rattle.times.proofs.Releases.{first_from_at_least, first_from_first, first_from_is_release}

module _ (task : Timing) (positive : 0 < task.period) where
  pub released_from_finds
      : (t length : ℕ)
      → released_from task t length ≡ true
      → (s : ℕ) × (is_release task s ≡ true) × (t ≤ s) × (s < t + length)
  released_from_finds t length h = (
    first_from task t,
    first_from_is_release task t,
    first_from_at_least task positive t,
    ltb-true (first_from task t) (t + length) h,
  )

  pub released_from_found
      : (t length s : ℕ) → is_release task s ≡ true → t ≤ s → s < t + length → released_from task t length ≡ true
  released_from_found t length s h after before =
      lt-ltb (first_from task t) (t + length) (omega (arith, first_from_first task positive t s h after))

  pub released_to_finds
      : (t length : ℕ)
      → released_to task t length ≡ true
      → (s : ℕ) × (is_release task s ≡ true) × (s ≤ t) × (t < s + length)
  released_to_finds t length h =
      (last_to task t, last_to_is_release task t, last_to_at_most task t, ltb-true t (last_to task t + length) h)

  pub released_to_found
      : (t length s : ℕ) → is_release task s ≡ true → s ≤ t → t < s + length → released_to task t length ≡ true
  released_to_found t length s h before after =
      lt-ltb t (last_to task t + length) (omega (arith, last_to_last task positive t s h before))
