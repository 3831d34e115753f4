-- The table image, field by field. Document 01, Table image, and of Numbers that say no the rows 1 to 10 with their
-- order. `field 4 2 test` takes a field of 4 bits and refuses it by 2 unless its value passes the test. Assumes
-- nothing.
use Rattle.std.specs.Prelude.{ℕ, ◌+◌, Bool, true, not, ◌&&◌, ◌||◌, List, [], ◌∷◌, map, eqb, leb, ltb, length, replicate}
use Rattle.lists.specs.Lists.{some_below, padded}
use Rattle.outcomes.specs.Outcome.{Outcome, gives, asked_of}
use Rattle.times.specs.Rounds.{in_limit}
use Rattle.taking.specs.Reading.{Taker, done, ◌then◌, field, in_row, check, zero_bits, nothing_follows}
use Rattle.table.specs.Table.{Rows, marks, joins, hyperperiod_of}
use Rattle.table.specs.declared.Table.{Table}

-- "Head: version 4, cores 4, tasks 6, labels 7, chains 5"
pub record Head : Type 0 where
  pub cores : ℕ
  pub tasks : ℕ
  pub labels : ℕ
  pub chains : ℕ

-- "Each task: core 3, period 20"
pub record Task : Type 0 where
  pub core : ℕ
  pub period : ℕ

-- "Each label: writer 5, readers 32"
pub record Label : Type 0 where
  pub writer : ℕ
  pub readers : ℕ

-- how many bits the head, a task and a label take
abbrev pub head_bits : ℕ
head_bits = 4 + 4 + 6 + 7 + 5

abbrev pub task_bits : ℕ
task_bits = 3 + 20

abbrev pub label_bits : ℕ
label_bits = 5 + 32

-- a value from `least` to `most`
unfoldable pub between : ℕ → ℕ → ℕ → Bool
between least most value = leb least value && leb value most

-- "Version is 1. Cores 1 to 8, tasks 1 to 32, labels 0 to 64, chains 0 to 16": refusals 2 and 3
unfoldable pub head_fields : Taker Head
head_fields =
    field 4 2 (λ version. eqb version 1) then λ version.
    field 4 3 (between 1 8) then λ cores.
    field 6 3 (between 1 32) then λ tasks.
    field 7 3 (between 0 64) then λ labels.
    field 5 3 (between 0 16) then λ chains.
    done (record { cores = cores; tasks = tasks; labels = labels; chains = chains })

-- 4: "a task's core is not below the core count"; 5: "period 0 or above 1,000,000"
unfoldable pub task_fields : (cores : ℕ) → Taker Task
task_fields cores =
    field 3 4 (λ core. ltb core cores) then λ core.
    field 20 5 (between 1 1000000) then λ period.
    done (record { core = core; period = period })

-- a readers field marks only tasks of the table, and not the writer; "A label may have no reader."
unfoldable pub right_readers : (tasks writer readers : ℕ) → Bool
right_readers tasks writer readers =
    not (some_below 32 (λ i. marks readers i && (not (ltb i tasks) || eqb i writer)))

-- 6: "writer is no task of the table"; 7: "a reader is no task of the table, or is the writer"
unfoldable pub label_fields : (tasks : ℕ) → Taker Label
label_fields tasks =
    field 5 6 (λ writer. ltb writer tasks) then λ writer.
    field 32 7 (right_readers tasks writer) then λ readers.
    done (record { writer = writer; readers = readers })

-- the table of a head, its tasks, its labels and the lengths of its chains; entries past a count are 0
unfoldable pub table_of : Head → List Task → List Label → List (List ℕ) → Table
table_of head tasks labels chains = record {
  cores = head.cores;
  tasks = head.tasks;
  labels = head.labels;
  chains = head.chains;
  core = padded 32 0 (map (λ task. task.core) tasks);
  period = padded 32 0 (map (λ task. task.period) tasks);
  writer = padded 64 0 (map (λ label. label.writer) labels);
  readers = padded 64 0 (map (λ label. label.readers) labels);
  length = padded 16 0 (map (λ chain. length chain) chains);
}

-- the chains' task numbers as sixteen rows of eight; entries past a length or a count are 0
unfoldable pub rows_of : List (List ℕ) → Rows
rows_of chains = padded 16 (replicate 8 0) (map (λ chain. padded 8 0 chain) chains)

-- "Each step of a chain needs a label that the earlier task writes and the next one reads." The first task ends no
-- step.
unfoldable pub step_holds : Table → List ℕ → ℕ → Bool
step_holds table [] next = true
step_holds table (earlier ∷ []) next = joins table earlier next
step_holds table (first ∷ second ∷ more) next = step_holds table (second ∷ more) next

-- a chain task is in the table, and its step has a label; "a task number's range is checked before its step"
unfoldable pub chain_task : Table → List ℕ → ℕ → Bool
chain_task table before task = ltb task table.tasks && step_holds table before task

-- "Each chain: length 4, then that many task numbers of 5". 8: "chain length outside 2 to 8; chain task not in the
-- table; no label for the step"
unfoldable pub chain_fields : Table → Taker (List ℕ)
chain_fields table =
    field 4 8 (between 2 8) then λ length.
    in_row length (λ before. field 5 8 (chain_task table before))

-- 9: "a fill bit is 1, or bytes follow", at the first such bit. "Zero bits fill the last byte; nothing follows."
unfoldable pub fill : Taker (Unit {0})
fill = zero_bits 9 then λ zeros. nothing_follows 9

-- an accepted table, with the rows of its chains
pub record Whole : Type 0 where
  pub table : Table
  pub rows : Rows

-- "Tasks, labels and chains follow the head in that order"; then 9
unfoldable pub all_fields : Taker Whole
all_fields =
    head_fields then λ head.
    in_row head.tasks (λ before. task_fields head.cores) then λ tasks.
    in_row head.labels (λ before. label_fields head.tasks) then λ labels.
    in_row head.chains (λ before. chain_fields (table_of head tasks labels [])) then λ chains.
    fill then λ filled.
    done (record { table = table_of head tasks labels chains; rows = rows_of chains })

-- then 10: "H above 1,000,000", at 0
unfoldable pub whole_fields : Taker Whole
whole_fields =
    all_fields then λ whole.
    check (in_limit (hyperperiod_of whole.table)) 10 0 then λ checked.
    done whole

-- any string of bytes: its table and rows, or the first refusal
unfoldable pub read_image : List ℕ → Outcome Whole
read_image image = asked_of (whole_fields image 0) (λ taken. gives taken.value)
