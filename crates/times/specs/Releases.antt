-- When a task is released. Document 01: "Time is a whole number of ticks. All tasks are first released at tick 0. A
-- task with period T is released at 0, T, 2T and so on; its logical execution time equals its period." What a release
-- is stands here and nowhere else. Assumes nothing.
use Rattle.std.specs.Prelude.{ℕ, ◌+◌, ◌*◌, ◌-◌, ◌/◌, ◌%◌, Bool, eqb}
use Rattle.times.specs.declared.Timing as code

-- what fixes a task's releases: the struct of the code, whose field is the task's period
abbrev pub Timing : Type 0
Timing = code.Timing

-- a task that is first released at tick 0 and then at every multiple of the period
abbrev pub every : ℕ → Timing
every T = record { period = T }

-- the release of number k: 0, T, 2T and so on
unfoldable pub release : Timing → ℕ → ℕ
release task k = k * task.period

-- the task is released at tick t
unfoldable pub is_release : Timing → ℕ → Bool
is_release task t = eqb (t % task.period) 0

-- a divided by b, rounded down, and rounded up
abbrev pub floor : ℕ → ℕ → ℕ
floor a b = a / b

abbrev pub ceil : ℕ → ℕ → ℕ
ceil a b = (a + (b - 1)) / b

-- the end of the job that is released at t: "its logical execution time equals its period"
unfoldable pub job_end : Timing → ℕ → ℕ
job_end task t = t + task.period

-- the task's first release at or after t
unfoldable pub first_from : Timing → ℕ → ℕ
first_from task t = release task (ceil t task.period)

-- the task's last release at or before t
unfoldable pub last_to : Timing → ℕ → ℕ
last_to task t = release task (floor t task.period)
