-- The chain of a table's tasks, by their periods; its last period; and its round. Assumes nothing.
use Prim.Native.Nat.{ℕ, zero, suc, ◌+◌, ◌-◌, ◌<◌, ◌≤◌}
use mathlib.Core.Path.{◌≡◌, refl, ap, ap₂, ◌∙◌}
use mathlib.Core.List.{List, [], ◌∷◌, map}
use native.Mathlib.Nat.{add-zero, zero-add}
use native.Mathlib.Omega.{arith}
use lib.ListN.{length, get_or, take, drop}
use lib.Seq.{drop-cons}
use Rattle.times.specs.Releases.{Timing, every}
use Rattle.times.specs.Hyperperiod.{lcm_of}
use Rattle.table.specs.Table.{period_of, timing_of}
use Rattle.table.specs.declared.Table.{Table}
use Rattle.ages.specs.Ages.{round_of, last_task, last_period, chain_timings}
use Rattle.following.specs.Following.{tasks_from, chain_by}

-- the tasks of these numbers, in their order
tasks_of_lem : (table : Table) (periods tasks : List ℕ) (i : ℕ)
    → ((j : ℕ) → j < length tasks → get_or periods (i + j) 0 ≡ period_of table (get_or tasks j 0))
    → tasks_from periods i (length tasks) ≡ map (timing_of table) tasks
unfolding tasks_from timing_of
tasks_of_lem table periods [] i same = refl
tasks_of_lem table periods (task ∷ tasks) i same =
    let own : get_or periods i 0 ≡ period_of table task = rw (add-zero i) at (same 0 (omega arith)) in
    ap₂ ◌∷◌ (ap every own) (tasks_of_lem table periods tasks (suc i) (λ j below.
    let moved : suc i + j ≡ i + suc j = omega arith in
    rw moved (same (suc j) (omega arith))))

-- the chain of these tasks of a table
pub chain_of_lem : (table : Table) (periods tasks : List ℕ) → 0 < length tasks
    → ((j : ℕ) → j < length tasks → get_or periods j 0 ≡ period_of table (get_or tasks j 0))
    → chain_by periods (length tasks) ≡ chain_timings table tasks
unfolding chain_timings timing_of
chain_of_lem table periods [] some same = absurd (omega arith)
chain_of_lem table periods (task ∷ tasks) some same =
    let left : suc (length tasks) - 1 ≡ length tasks = omega arith in
    let others : tasks_from periods 1 (suc (length tasks) - 1) ≡ map (timing_of table) tasks =
    ap (tasks_from periods 1) left
    ∙ tasks_of_lem table periods tasks 1 (λ j below.
    let next : 1 + j ≡ suc j = omega arith in
    rw next (same (suc j) (omega arith))) in
    rw (same 0 (omega arith), others)

-- its last period
last_of : (periods : List ℕ) (i n : ℕ)
    → (last_task (every (get_or periods i 0)) (tasks_from periods (suc i) n)).period ≡ get_or periods (i + n) 0
unfolding last_task tasks_from
last_of periods i zero = rw (add-zero i) refl
last_of periods i (suc n) =
    let moved : suc i + n ≡ i + suc n = omega arith in
    last_of periods (suc i) n ∙ ap (λ j. get_or periods j 0) moved

pub chain_last : (periods : List ℕ) (count : ℕ) → last_period (chain_by periods count) ≡ get_or periods (count - 1) 0
chain_last periods count = last_of periods 0 (count - 1) ∙ ap (λ j. get_or periods j 0) (zero-add (count - 1))

-- its round
periods_of : (periods : List ℕ) (i n : ℕ) → i + n ≤ length periods
    → map (λ (task : Timing). task.period) (tasks_from periods i n) ≡ take n (drop i periods)
unfolding tasks_from
periods_of periods i zero within = refl
periods_of periods i (suc n) within =
    rw (drop-cons periods i 0 (omega arith)) (ap (λ l. get_or periods i 0 ∷ l) (periods_of periods (suc i) n (omega arith)))

pub chain_round : (periods : List ℕ) (count : ℕ) → 0 < count → count ≤ length periods
    → round_of (chain_by periods count) ≡ lcm_of (take count periods)
unfolding round_of tasks_from
chain_round periods zero some within = absurd (omega arith)
chain_round periods (suc n) some within =
    let left : suc n - 1 ≡ n = omega arith in
    rw left (ap lcm_of (periods_of periods 0 (suc n) (omega arith)))
