-- A later tick has no earlier first release after it and no earlier last release before it, and a later release ends no
-- earlier. Assumes nothing.
use Prim.Native.Nat.{ℕ, ◌+◌, ◌<◌, ◌≤◌}
use mathlib.Core.Path.{◌≡◌}
use native.Mathlib.Omega.{arith}
use Rattle.times.specs.Releases.{Timing, job_end, first_from, last_to}
use Rattle.times.proofs.Releases.{first_from_is_release, first_from_at_least, first_from_first}
use Rattle.times.proofs.Releases.{last_to_is_release, last_to_at_most, last_to_last}

module _ (task : Timing) (positive : 0 < task.period) where
  pub first_from_rises : (s t : ℕ) → s ≤ t → first_from task s ≤ first_from task t
  first_from_rises s t le =
      first_from_first task positive s (first_from task t) (first_from_is_release task t)
      (omega (arith, first_from_at_least task positive t))

  pub last_to_rises : (s t : ℕ) → s ≤ t → last_to task s ≤ last_to task t
  last_to_rises s t le =
      last_to_last task positive t (last_to task s) (last_to_is_release task s) (omega (arith, last_to_at_most task s))

-- the end of a job: no earlier for a later release, a round later for one a round later, and not before its release
pub job_end_rises : (task : Timing) (s t : ℕ) → s ≤ t → job_end task s ≤ job_end task t
unfolding job_end
job_end_rises task s t le = omega arith

pub job_end_repeats : (task : Timing) (t H : ℕ) → job_end task (t + H) ≡ job_end task t + H
unfolding job_end
job_end_repeats task t H = omega arith

pub job_end_at_least : (task : Timing) (t : ℕ) → t ≤ job_end task t
unfolding job_end
job_end_at_least task t = omega arith
