-- A chain followed forwards and backwards, by its tasks' periods. No contract of a question cites this file. Assumes
-- nothing.
use Rattle.std.specs.Prelude.{ℕ, zero, suc, ◌+◌, ◌*◌, ◌-◌, ◌<◌, ◌≤◌, true, ◌≡◌, List, [], ◌∷◌, get_or}
use Rattle.times.specs.Releases.{Timing, every, is_release, job_end, first_from, last_to}
use Rattle.table.specs.Rules.{FromTo}
use Rattle.ages.specs.Ages.{Chain}

-- the instant at which the last of these tasks publishes what stands at t: each takes it at its first release at or
-- after that instant, and publishes at the end of its job
unfoldable pub passed : List Timing → ℕ → ℕ
passed [] t = t
passed (task ∷ tasks) t = passed tasks (job_end task (first_from task t))

-- backwards: the last instant at which it may stand for the last of these tasks to publish it by x; each takes it at its
-- last release whose job ends by the instant after it
unfoldable pub last_for : List Timing → ℕ → ℕ
last_for [] x = x
last_for (task ∷ tasks) x = last_to task (last_for tasks x - task.period)

-- so many tasks of a chain from number i on, by the chain's periods; task 1 of document 01 has number 0
unfoldable pub tasks_from : List ℕ → ℕ → ℕ → List Timing
tasks_from periods i zero = []
tasks_from periods i (suc n) = every (get_or periods i 0) ∷ tasks_from periods (suc i) n

-- the chain of these periods, so many
abbrev pub chain_by : List ℕ → ℕ → Chain
chain_by periods count = record { first = every (get_or periods 0 0); others = tasks_from periods 1 (count - 1) }

-- the last start that task number `at` publishes by x
unfoldable pub last_start : List ℕ → ℕ → ℕ → ℕ
last_start periods at x = last_to (every (get_or periods 0 0)) (last_for (tasks_from periods 1 at) x)

-- the end that is reached from x, an instant at which task number `at` publishes: the last task does not publish it
unfoldable pub end_from : (periods : List ℕ) (at count x : ℕ) → ℕ
end_from periods at count x =
    passed (tasks_from periods (at + 1) (count - (at + 1))) x - get_or periods (count - 1) 0

-- so many periods as a chain of a table may have
pub record RightPeriods (periods : List ℕ) (count : ℕ) : Type 0 where
  pub few : count ≤ 8
  pub each : (i : ℕ) → i < count → FromTo 1 1000000 (get_or periods i 0)

-- task number `at` publishes at x, and the first start has been published by then
pub record PublishedAt (periods : List ℕ) (at x : ℕ) : Type 0 where
  pub right : RightPeriods periods (suc at)
  pub since : passed (tasks_from periods 1 at) 0 ≤ x
  pub released : is_release (every (get_or periods at 0)) x ≡ true

-- task number `at` of a chain publishes at x, no earlier than it does the first start
pub record PassesOn (periods : List ℕ) (at count x : ℕ) : Type 0 where
  pub right : RightPeriods periods count
  pub some : 2 ≤ count
  pub inside : at < count
  pub since : passed (tasks_from periods 1 at) 0 ≤ x
  pub near : x + 2000000 * (count - (at + 1)) ≤ 32000000
