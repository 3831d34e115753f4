-- A body that was read into arrays that held nothing is a table but for its chains; and the chains after it, into arrays
-- that held nothing. No contract cites this file. Assumes nothing.
use Prim.Native.Nat.{ℕ, ◌+◌, ◌*◌, ◌≤◌, min}
use mathlib.Core.Path.{◌≡◌}
use mathlib.Core.List.{List, [], ◌∷◌, map}
use native.Mathlib.Omega.{arith}
use lib.ListN.{length, replicate, length-map}
use Rattle.lists.specs.Lists.{padded, over}
use Rattle.lists.proofs.Over.{over_filler}
use Rattle.outcomes.specs.Outcome.{gives}
use Rattle.taking.specs.Reading.{Taker, Taken, in_row}
use Rattle.taking.proofs.Checks.{checks_nothing, row_checks}
use Rattle.table.specs.Table.{Rows}
use Rattle.table.specs.Image.{Head, Task, Label, head_bits, task_bits, label_bits, head_fields, task_fields, label_fields}
use Rattle.table.specs.Image.{table_of, rows_of}
use Rattle.table.specs.declared.Table.{Table}
use Rattle.table.specs.declared.Refused.{Refused}
use Rattle.body.specs.Parts.{Body}
use Rattle.chains.specs.Parts.{ChainsTaken}
use Rattle.std.specs.Prelude.{Result}

-- head, tasks and labels that were taken, and the table of them
pub record TableBody (image : List ℕ) (table : Table) : Type 0 where
  pub head : Head
  pub tasks : List Task
  pub labels : List Label
  pub of_head : head_fields image 0 ≡ gives (record { value = head; next = head_bits })
  pub of_tasks : in_row head.tasks (λ before. task_fields head.cores) image head_bits
      ≡ gives (record { value = tasks; next = head_bits + task_bits * head.tasks })
  pub of_labels : in_row head.labels (λ before. label_fields head.tasks) image (head_bits + task_bits * head.tasks)
      ≡ gives (record { value = labels; next = head_bits + task_bits * head.tasks + label_bits * head.labels })
  pub held : table ≡ table_of head tasks labels []
  pub few_tasks : table.tasks ≤ 32
  pub few_labels : table.labels ≤ 64
  pub few_chains : table.chains ≤ 16

-- as many as were taken in a row
pub row_long : {A : Type 0} (one : List A → Taker A) (count : ℕ) (image : List ℕ) (at : ℕ) (given : Taken (List A))
    → in_row count one image at ≡ gives given → length given.value ≡ count
row_long one count image at given e =
    (row_checks (λ a. Unit {0}) one (λ before. checks_nothing (one before)) count image at given e).0

-- a column over nothing
column_held : {A : Type 0} (size : ℕ) (f : A → ℕ) (values : List A) → length values ≤ size
    → over (map f values) (replicate size 0) ≡ padded size 0 (map f values)
column_held size f values few = over_filler size 0 (map f values) (omega (arith, length-map values f))

-- the table of these counts and arrays
abbrev held_in : Head → (core period writer readers length : List ℕ) → Table
held_in head core period writer readers length = record {
  cores = head.cores;
  tasks = head.tasks;
  labels = head.labels;
  chains = head.chains;
  core = core;
  period = period;
  writer = writer;
  readers = readers;
  length = length;
}

module _ (image : List ℕ) where
  pub table_body : (head : Head) {core₀ period₀ writer₀ readers₀ core period writer readers length : List ℕ}
      → core₀ ≡ replicate 32 0 → period₀ ≡ replicate 32 0 → writer₀ ≡ replicate 64 0 → readers₀ ≡ replicate 64 0
      → length ≡ replicate 16 0
      → Body image head (core₀ ∷ period₀ ∷ []) (core ∷ period ∷ []) (writer₀ ∷ readers₀ ∷ []) (writer ∷ readers ∷ [])
      → TableBody image (held_in head core period writer readers length)
  unfolding table_of padded
  table_body head {core = core} {period = period} {writer = writer} {readers = readers} no_core no_period no_writer no_readers
      no_length body =
      let tasks = body.tasks in
      let labels = body.labels in
      let of_tasks = row_long _ _ _ _ _ body.of_tasks in
      let of_labels = row_long _ _ _ _ _ body.of_labels in
      let few_tasks : length tasks ≤ 32 = omega (arith, body.few_tasks) in
      let few_labels : length labels ≤ 64 = omega (arith, body.few_labels) in
      let tasks_columns = body.tasks_columns in
      let labels_columns = body.labels_columns in
      let of_core : core ≡ padded 32 0 (map (λ task. task.core) tasks) =
      cc (column_held 32 (λ task. task.core) tasks few_tasks) in
      let of_period : period ≡ padded 32 0 (map (λ task. task.period) tasks) =
      cc (column_held 32 (λ task. task.period) tasks few_tasks) in
      let of_writer : writer ≡ padded 64 0 (map (λ label. label.writer) labels) =
      cc (column_held 64 (λ label. label.writer) labels few_labels) in
      let of_readers : readers ≡ padded 64 0 (map (λ label. label.readers) labels) =
      cc (column_held 64 (λ label. label.readers) labels few_labels) in
      record {
        head = head;
        tasks = tasks;
        labels = labels;
        of_head = body.of_head;
        of_tasks = body.of_tasks;
        of_labels = body.of_labels;
        held = rw (of_core, of_period, of_writer, of_readers, no_length);
        few_tasks = body.few_tasks;
        few_labels = body.few_labels;
        few_chains = body.few_chains;
      }

  -- the chains after it, of which no more are looked at than the arrays hold
  pub chains_of_lem : (table : Table) {at at' next : ℕ} {image' : List ℕ} (r : Result (Unit {0}) Refused)
      {lengths : List ℕ} {rows₀ rows : Rows}
      → table.chains ≤ 16 → image' ≡ image → at' ≡ at → rows₀ ≡ rows_of []
      → ChainsTaken image' at' table (min table.chains 16) next r lengths rows₀ rows
      → ChainsTaken image at table table.chains next r lengths (replicate 16 (replicate 8 0)) rows
  unfolding rows_of padded
  chains_of_lem table r few same place no_rows read =
      let chains : min table.chains 16 ≡ table.chains = omega arith in
      rw (chains, same, place, no_rows) at read

  -- the lengths and rows of chains that were all taken, over nothing
  pub lengths_of : (chains : List (List ℕ)) → length chains ≤ 16
      → over (map (λ chain. length chain) chains) (replicate 16 0) ≡ padded 16 0 (map (λ chain. length chain) chains)
  lengths_of chains few = column_held 16 (λ chain. length chain) chains few

  pub rows_held : (chains : List (List ℕ)) → length chains ≤ 16
      → over (map (λ chain. padded 8 0 chain) chains) (replicate 16 (replicate 8 0)) ≡ rows_of chains
  unfolding rows_of
  rows_held chains few =
      over_filler 16 (replicate 8 0) (map (λ chain. padded 8 0 chain) chains)
      (omega (arith, length-map chains (λ chain. padded 8 0 chain)))
