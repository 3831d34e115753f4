-- What document 01 asks of a table, rule by rule: Table image, and of Numbers that say no the rows 3 to 8 and 10.
-- Nothing here speaks of how an image is read. Assumes nothing.
use Rattle.std.specs.Prelude.{ℕ, suc, ◌≤◌, ◌<◌, ◌^◌, true, ◌≡◌, List, length, get_or}
use Rattle.table.specs.Table.{core_of, period_of, writer_of, readers_of, reads, joins, chain_of, hyperperiod_of}
use Rattle.table.specs.Image.{Whole}
use Rattle.table.specs.declared.Table.{Table}

-- "1 to 8": from the least to the most, both among them
abbrev pub FromTo : (least most value : ℕ) → Type 0
FromTo least most value = (least ≤ value) × (value ≤ most)

-- the rules of a chain, by its task numbers in their order
pub record ChainMeets (table : Table) (chain : List ℕ) : Type 0 where
  -- "chain length 2 to 8"
  pub chain_length : FromTo 2 8 (length chain)
  -- 8: "chain task not in the table"
  pub chain_task : (j : ℕ) → j < length chain → get_or chain j 0 < table.tasks
  -- "Each step of a chain needs a label that the earlier task writes and the next one reads."
  pub chain_step : (j : ℕ) → suc j < length chain → joins table (get_or chain j 0) (get_or chain (suc j) 0) ≡ true

-- the rules of a table with the rows of its chains; where a number that says no is cited, its condition does not hold
pub record MeetsRules (whole : Whole) : Type 0 where
  -- "Cores 1 to 8, tasks 1 to 32, labels 0 to 64, chains 0 to 16"
  pub cores : FromTo 1 8 whole.table.cores
  pub tasks : FromTo 1 32 whole.table.tasks
  pub labels : FromTo 0 64 whole.table.labels
  pub chains : FromTo 0 16 whole.table.chains
  -- 4: "a task's core is not below the core count"
  pub core : (i : ℕ) → i < whole.table.tasks → core_of whole.table i < whole.table.cores
  -- "period 1 to 1,000,000"
  pub period : (i : ℕ) → i < whole.table.tasks → FromTo 1 1000000 (period_of whole.table i)
  -- 6: "writer is no task of the table"
  pub writer : (l : ℕ) → l < whole.table.labels → writer_of whole.table l < whole.table.tasks
  -- "readers 32"
  pub readers : (l : ℕ) → l < whole.table.labels → readers_of whole.table l < 2 ^ 32
  -- 7: "a reader is no task of the table, or is the writer"
  pub reader : (l i : ℕ) → l < whole.table.labels → reads whole.table l i ≡ true
      → (i < whole.table.tasks) × ¬ (i ≡ writer_of whole.table l)
  -- "chain length 2 to 8"; 8: "chain task not in the table"; "Each step of a chain needs a label"
  pub chain : (k : ℕ) → k < whole.table.chains → ChainMeets whole.table (chain_of whole.table whole.rows k)
  -- "The hyperperiod H is the least common multiple of the periods of all tasks, at most 1,000,000."
  pub hyperperiod : hyperperiod_of whole.table ≤ 1000000
