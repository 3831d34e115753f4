-- What a table says of its tasks, labels and chains. Document 01: "A label has one writer and any number of readers";
-- "Of the readers field the most significant bit stands for task 0." Every later definition reads a task, a label or a
-- chain through these. Assumes nothing.
use Rattle.std.specs.Prelude.{ℕ, ◌-◌, ◌/◌, ◌%◌, ◌^◌, Bool, ◌&&◌, List, [], eqb, ltb, get_or, take}
use Rattle.lists.specs.Lists.{some_below}
use Rattle.times.specs.Releases.{Timing, every}
use Rattle.times.specs.Hyperperiod.{lcm_of}
use Rattle.table.specs.declared.Table.{Table}

-- the chains' task numbers: sixteen rows of eight
abbrev pub Rows : Type 0
Rows = List (List ℕ)

-- the core of task i
unfoldable pub core_of : Table → ℕ → ℕ
core_of table i = get_or table.core i 0

-- the period of task i
unfoldable pub period_of : Table → ℕ → ℕ
period_of table i = get_or table.period i 0

-- what fixes the releases of task i
unfoldable pub timing_of : Table → ℕ → Timing
timing_of table i = every (period_of table i)

-- the writer of label l
unfoldable pub writer_of : Table → ℕ → ℕ
writer_of table l = get_or table.writer l 0

-- task i is marked in a readers field of 32 bits: its most significant bit stands for task 0; no bit stands for a task
-- past 31
unfoldable pub marks : ℕ → ℕ → Bool
marks readers i = ltb i 32 && eqb (readers / 2 ^ (31 - i) % 2) 1

-- the readers field of label l
abbrev pub readers_of : Table → ℕ → ℕ
readers_of table l = get_or table.readers l 0

-- task i reads label l
unfoldable pub reads : Table → ℕ → ℕ → Bool
reads table l i = marks (readers_of table l) i

-- some label goes from task w to task r
unfoldable pub joins : Table → ℕ → ℕ → Bool
joins table w r = some_below table.labels (λ l. eqb (writer_of table l) w && reads table l r)

-- the task numbers of chain k
unfoldable pub chain_of : Table → Rows → ℕ → List ℕ
chain_of table rows k = take (get_or table.length k 0) (get_or rows k [])

-- the hyperperiod H: the least common multiple of the periods of all tasks
unfoldable pub hyperperiod_of : Table → ℕ
hyperperiod_of table = lcm_of (take table.tasks table.period)
