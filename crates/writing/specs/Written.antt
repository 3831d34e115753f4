-- The image of a table, the other way round: its fields, in their order, as they are written. Document 01, Table image:
-- "Fields are packed without gaps"; "Tasks, labels and chains follow the head in that order. Zero bits fill the last
-- byte; nothing follows." Nothing here speaks of how an image is read. Assumes nothing.
use Rattle.std.specs.Prelude.{ℕ, ◌≡◌, List, [], ◌∷◌, ◌++◌, length}
use Rattle.lists.specs.Lists.{each_below, each_of}
use Rattle.bits.specs.Packing.{Field, bits, packed}
use Rattle.table.specs.Table.{core_of, period_of, writer_of, readers_of, chain_of}
use Rattle.table.specs.Image.{Head, Task, Label, Whole, table_of, rows_of}
use Rattle.table.specs.Rules.{MeetsRules}
use Rattle.table.specs.declared.Table.{Table}

-- "Head: version 4, cores 4, tasks 6, labels 7, chains 5"
unfoldable pub head_written : (version : ℕ) → Head → List Field
head_written version head =
    bits 4 version ∷ bits 4 head.cores ∷ bits 6 head.tasks ∷ bits 7 head.labels ∷ bits 5 head.chains ∷ []

-- "Each task: core 3, period 20"
unfoldable pub task_written : Task → List Field
task_written task = bits 3 task.core ∷ bits 20 task.period ∷ []

-- "Each label: writer 5, readers 32"
unfoldable pub label_written : Label → List Field
label_written label = bits 5 label.writer ∷ bits 32 label.readers ∷ []

-- "Each chain: length 4, then that many task numbers of 5"
unfoldable pub chain_written : List ℕ → List Field
chain_written chain = bits 4 (length chain) ∷ each_of chain (λ task. bits 5 task ∷ [])

-- the used entries of a table: its head, its tasks, its labels, and with the rows its chains
unfoldable pub head_of : Table → Head
head_of table = record {
  cores = table.cores;
  tasks = table.tasks;
  labels = table.labels;
  chains = table.chains;
}

unfoldable pub tasks_of : Table → List Task
tasks_of table = each_below table.tasks (λ i. record { core = core_of table i; period = period_of table i } ∷ [])

unfoldable pub labels_of : Table → List Label
labels_of table =
    each_below table.labels (λ l. record { writer = writer_of table l; readers = readers_of table l } ∷ [])

unfoldable pub chains_of : Whole → List (List ℕ)
chains_of whole = each_below whole.table.chains (λ k. chain_of whole.table whole.rows k ∷ [])

-- the fields of the image of a version, in their order
unfoldable pub image_fields : (version : ℕ) → Whole → List Field
image_fields version whole =
    head_written version (head_of whole.table)
    ++ each_of (tasks_of whole.table) task_written
    ++ each_of (labels_of whole.table) label_written
    ++ each_of (chains_of whole) chain_written

-- the image of a table in a version
unfoldable pub image_of : (version : ℕ) → Whole → List ℕ
image_of version whole = packed (image_fields version whole)

-- the same table in every used entry, and 0 in all others
unfoldable pub used_of : Whole → Whole
used_of whole = record {
  table = table_of (head_of whole.table) (tasks_of whole.table) (labels_of whole.table) (chains_of whole);
  rows = rows_of (chains_of whole);
}

-- the bytes are the image of this table, which meets the rules and holds 0 past its counts; "Version is 1"
pub record ImageOfRight (image : List ℕ) (whole : Whole) : Type 0 where
  pub written : image ≡ image_of 1 whole
  pub meets : MeetsRules whole
  pub used : used_of whole ≡ whole
