-- The age of a chain. Document 01, Age of a chain; document 02, C-11. Assumes nothing.
use Rattle.std.specs.Prelude.{ℕ, ◌+◌, ◌-◌, ◌/◌, min, max, Bool, List, [], ◌∷◌, map, ltb, length, get_or, drop}
use Rattle.lists.specs.Lists.{each_below, only_if}
use Rattle.times.specs.Releases.{Timing, release, job_end, first_from}
use Rattle.times.specs.Hyperperiod.{lcm_of}
use Rattle.table.specs.Table.{Rows, timing_of, chain_of}
use Rattle.table.specs.declared.Table.{Table}

-- Following the chain from an instant through the tasks that are left: "task 2 takes it at its first release at or
-- after t; each middle task publishes one period after that release; the next task takes it at its first release at or
-- after that instant; the last such release is E(t)."
unfoldable pub follow : List Timing → ℕ → ℕ
follow [] t = t
follow (last ∷ []) t = first_from last t
follow (middle ∷ next ∷ more) t = follow (next ∷ more) (job_end middle (first_from middle t))

-- a chain of tasks 1 to m: the first, and the tasks after it
pub record Chain : Type 0 where
  pub first : Timing
  pub others : List Timing

-- E(t), the end of a start t, "counted as the end of a job of task 1": the tasks after it are followed
unfoldable pub end_of : Chain → ℕ → ℕ
end_of chain t = follow chain.others t

-- T1, the first period
abbrev pub first_period : Chain → ℕ
first_period chain = chain.first.period

-- the task a chain ends with; it may also be its second, or its first again
unfoldable pub last_task : Timing → List Timing → Timing
last_task task [] = task
last_task task (next ∷ more) = last_task next more

abbrev pub last_period : Chain → ℕ
last_period chain = (last_task chain.first chain.others).period

-- "A basic path is a start t with E(t) < E(t + T1), where T1 is the first period."
unfoldable pub is_basic : Chain → ℕ → Bool
is_basic chain t = ltb (end_of chain t) (end_of chain (t + first_period chain))

-- "Its length is E(t) − t."
unfoldable pub length_of : Chain → ℕ → ℕ
length_of chain t = end_of chain t - t

-- "Its age is T1 + E(t + T1) − t", which stops at the release of the last task
unfoldable pub age_at_release : Chain → ℕ → ℕ
age_at_release chain t = first_period chain + end_of chain (t + first_period chain) - t

-- "the valve moves one period of that task later .. Add the last task's period to every age" (C-11)
unfoldable pub age_of : Chain → ℕ → ℕ
age_of chain t = age_at_release chain t + last_period chain

-- "the least common multiple of the chain's own periods"
unfoldable pub round_of : Chain → ℕ
round_of chain = lcm_of (map (λ task. task.period) (chain.first ∷ chain.others))

-- the basic paths whose starts, "a multiple of the first period", go "from 0 up to, and without," the chain's own round
unfoldable pub basic_paths : Chain → List ℕ
basic_paths chain =
    each_below (round_of chain / first_period chain)
    (λ k. let t : ℕ = release chain.first k in only_if (is_basic chain t) t)

-- the largest of a list, and the least; 0 of an empty one
unfoldable pub largest : List ℕ → ℕ
largest [] = 0
largest (x ∷ xs) = max x (largest xs)

unfoldable pub least : List ℕ → ℕ
least [] = 0
least (x ∷ []) = x
least (x ∷ y ∷ more) = min x (least (y ∷ more))

-- "worst age, best age": of all basic paths of the round
unfoldable pub worst_age : Chain → ℕ
worst_age chain = largest (map (age_of chain) (basic_paths chain))

unfoldable pub best_age : Chain → ℕ
best_age chain = least (map (age_of chain) (basic_paths chain))

-- "number of paths, longest length, worst age, best age, jitter (worst minus best)"
pub record Ages : Type 0 where
  pub paths : ℕ
  pub longest : ℕ
  pub worst : ℕ
  pub best : ℕ
  pub jitter : ℕ

-- the answer for a chain
unfoldable pub ages_of : Chain → Ages
ages_of chain = record {
  paths = length (basic_paths chain);
  longest = largest (map (length_of chain) (basic_paths chain));
  worst = worst_age chain;
  best = best_age chain;
  jitter = worst_age chain - best_age chain;
}

-- the chain of these tasks of a table: the first, and the tasks after it
unfoldable pub chain_timings : Table → List ℕ → Chain
chain_timings table tasks = record {
  first = timing_of table (get_or tasks 0 0);
  others = map (timing_of table) (drop 1 tasks);
}

-- the answer for chain k of a table
unfoldable pub ages_of_chain : Table → Rows → ℕ → Ages
ages_of_chain table rows k = ages_of (chain_timings table (chain_of table rows k))
