-- At tick 0 every pair has a point, whatever the periods: its first publishing point and its first reading point from
-- there on are tick 0. Assumes nothing.
use Prim.Native.Nat.{ℕ, zero, suc, ◌+◌, ◌*◌, ◌-◌, ◌/◌}
use mathlib.Core.Path.{◌≡◌, refl, ap, ◌∙◌}
use mathlib.Core.Bool.{Bool, true, false, cond}
use native.Mathlib.Nat.{div-eq_of_lt, zero-div, mul-zero, zero-mul}
use native.Mathlib.Omega.{arith}
use lib.Dec.{leb}
use Rattle.times.specs.Releases.{Timing, release, first_from, last_to}
use Rattle.next_points.specs.Next.{publishing_from, reading_from, next_publishing, next_reading}

-- a release of a task without a period, and the first releases of any task
none_later : (t : ℕ) → first_from (record { period = 0 }) t ≡ 0
unfolding first_from release
none_later t = mul-zero _

by_period : (T : ℕ) → first_from (record { period = T }) 0 ≡ 0
unfolding first_from release
by_period zero = none_later 0
by_period (suc T) = let none : (0 + (suc T - 1)) / suc T ≡ 0 = div-eq_of_lt (omega arith) in rw none (zero-mul _)

pub first_at_zero : (task : Timing) → first_from task 0 ≡ 0
first_at_zero task = by_period task.period

last_at_zero : (task : Timing) → last_to task 0 ≡ 0
unfolding last_to release
last_at_zero task = ap (λ k. k * task.period) (zero-div task.period) ∙ zero-mul _

either : (b : Bool) {x : ℕ} → x ≡ 0 → cond b 0 x ≡ 0
either true is = refl
either false is = is

module _ (writer reader : Timing) where
  pub publishing_at_zero : next_publishing writer reader 0 ≡ 0
  unfolding publishing_from
  publishing_at_zero =
      rw (first_at_zero writer)
      (either (leb reader.period writer.period) (rw (first_at_zero reader) (last_at_zero writer)))

  -- since the release before tick 0 there is none but tick 0, or the reader has no period
  since : (T : ℕ) → first_from (record { period = T }) (first_from writer (1 - T)) ≡ 0
  since zero = none_later _
  since (suc T) =
      let none : 1 - suc T ≡ 0 = omega arith in
      rw (none, first_at_zero writer) (first_at_zero (record { period = suc T }))

  pub reading_at_zero : next_reading writer reader 0 ≡ 0
  unfolding reading_from
  reading_at_zero =
      rw (first_at_zero reader) (either (leb writer.period reader.period) (since reader.period))
