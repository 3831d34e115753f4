-- Following a chain has a counterpart backwards: it is published by an instant exactly where it stood by the last instant
-- for it. First of one task, by its releases, and then of tasks one after the other. Assumes nothing.
use Prim.Native.Nat.{ℕ, ◌+◌, ◌*◌, ◌-◌, ◌<◌, ◌≤◌}
use mathlib.Core.Path.{◌≡◌, refl}
use mathlib.Core.List.{List, [], ◌∷◌, ◌++◌}
use native.Mathlib.Nat.{le_trans}
use native.Mathlib.Omega.{arith}
use lib.ListN.{length}
use Rattle.lists.proofs.All.{All}
use Rattle.times.specs.Releases.{Timing, job_end, first_from, last_to}
use Rattle.times.proofs.Releases.{first_from_is_release, first_from_at_least, first_from_first, first_from_near}
use Rattle.times.proofs.Releases.{last_to_is_release, last_to_at_most, last_to_last}
use Rattle.times.proofs.ReleasesRise.{first_from_rises, job_end_rises}
use Rattle.ages.proofs.Rising.{HasPeriod}
use Rattle.following.specs.Following.{passed, last_for}

module _ (task : Timing) (positive : HasPeriod task) (t x : ℕ) where
  -- one task: its first release at or after t is by x exactly where t is by its last release at or before x
  pub first_by : first_from task t ≤ x → t ≤ last_to task x
  first_by by =
      omega (
        arith,
        first_from_at_least task positive t,
        last_to_last task positive x (first_from task t) (first_from_is_release task t) by,
      )

  pub by_last : t ≤ last_to task x → first_from task t ≤ x
  by_last by =
      omega (
        arith,
        first_from_first task positive t (last_to task x) (last_to_is_release task x) by,
        last_to_at_most task x,
      )

module _ (task : Timing) (positive : HasPeriod task) (t x : ℕ) where
  -- and so with the end of its job
  pub job_by : job_end task (first_from task t) ≤ x → (task.period ≤ x) × (t ≤ last_to task (x - task.period))
  unfolding job_end
  job_by by = (omega arith, first_by task positive t (x - task.period) (omega arith))

  pub by_job : task.period ≤ x → t ≤ last_to task (x - task.period) → job_end task (first_from task t) ≤ x
  unfolding job_end
  by_job long by = omega (arith, by_last task positive t (x - task.period) by)

-- tasks one after the other: no earlier for a later instant, and not much later than it
pub passed_rises : (tasks : List Timing) → All HasPeriod tasks → (s t : ℕ) → s ≤ t → passed tasks s ≤ passed tasks t
unfolding passed
passed_rises [] timed s t le = le
passed_rises (task ∷ tasks) timed s t le =
    passed_rises tasks timed.1 _ _ (job_end_rises task _ _ (first_from_rises task timed.0 s t le))

-- a task of a table: a period above 0, and at most 1,000,000
abbrev pub InRange : Timing → Type 0
InRange task = (0 < task.period) × (task.period ≤ 1000000)

pub passed_soon : (tasks : List Timing) → All InRange tasks → (t : ℕ) → passed tasks t ≤ t + 2000000 * length tasks
unfolding passed job_end
passed_soon [] timed t = omega arith
passed_soon (task ∷ tasks) timed t =
    omega (
      arith,
      timed.0,
      first_from_near task timed.0.0 t,
      passed_soon tasks timed.1 (first_from task t + task.period),
    )

-- tasks one after the other: published by x exactly where it stood by the last instant for x
pub passed_by : (tasks : List Timing) → All HasPeriod tasks → (t x : ℕ) → passed tasks t ≤ x → t ≤ last_for tasks x
unfolding passed last_for
passed_by [] timed t x by = by
passed_by (task ∷ tasks) timed t x by =
    (job_by task timed.0 t (last_for tasks x) (passed_by tasks timed.1 _ x by)).1

pub by_passed : (tasks : List Timing) → All HasPeriod tasks → (x : ℕ) → passed tasks 0 ≤ x
    → (t : ℕ) → t ≤ last_for tasks x → passed tasks t ≤ x
unfolding passed last_for
by_passed [] timed x since t by = by
by_passed (task ∷ tasks) timed x since t by =
    let first = job_end task (first_from task 0) in
    let since_after : passed tasks 0 ≤ x = le_trans (passed_rises tasks timed.1 0 first (omega arith)) since in
    let long = (job_by task timed.0 0 (last_for tasks x) (passed_by tasks timed.1 first x since)).0 in
    by_passed tasks timed.1 x since_after (job_end task (first_from task t))
    (by_job task timed.0 t (last_for tasks x) long by)

-- of two lists of tasks, one after the other
pub passed_append : (tasks more : List Timing) (t : ℕ) → passed (tasks ++ more) t ≡ passed more (passed tasks t)
unfolding passed
passed_append [] more t = refl
passed_append (task ∷ tasks) more t = passed_append tasks more (job_end task (first_from task t))

pub last_for_append : (tasks more : List Timing) (x : ℕ) → last_for (tasks ++ more) x ≡ last_for tasks (last_for more x)
unfolding last_for
last_for_append [] more x = refl
last_for_append (task ∷ tasks) more x = rw (last_for_append tasks more x)
