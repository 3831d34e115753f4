-- What the parts of a body answer, in document 01's numbers. No contract of a question cites this file. Assumes nothing.
use Rattle.std.specs.Prelude.{ℕ, ◌+◌, ◌*◌, ◌≤◌, ◌≡◌, List, [], ◌∷◌, Result, Ok, Err}
use Rattle.outcomes.specs.Outcome.{gives, refuses}
use Rattle.taking.specs.Reading.{in_row}
use Rattle.table.specs.Refusals.{number_of}
use Rattle.table.specs.Image.{Head, Task, Label, head_bits, task_bits, label_bits, head_fields, task_fields, label_fields}
use Rattle.table.specs.Image.{all_fields}
use Rattle.table.specs.declared.Refused.{Refused}
use Rattle.table.specs.declared.Table.{Table}
use Rattle.body.specs.Columns.{columns_over, RowRead}

-- the columns of tasks, and of labels
abbrev pub task_columns : List (Task → ℕ)
task_columns = (λ task. task.core) ∷ (λ task. task.period) ∷ []

abbrev pub label_columns : List (Label → ℕ)
label_columns = (λ label. label.writer) ∷ (λ label. label.readers) ∷ []

-- the tasks of an image, and the labels
abbrev pub TasksTaken
    : (image : List ℕ) (at cores count : ℕ) (r : Result (Unit {0}) Refused) (held arrays : List (List ℕ)) → Type 0
TasksTaken image at cores count = RowRead task_bits (task_fields cores) task_columns image at count

abbrev pub LabelsTaken
    : (image : List ℕ) (at tasks count : ℕ) (r : Result (Unit {0}) Refused) (held arrays : List (List ℕ)) → Type 0
LabelsTaken image at tasks count = RowRead label_bits (label_fields tasks) label_columns image at count

-- a table with other arrays of tasks, and with other arrays of labels
abbrev pub with_tasks : Table → (core period : List ℕ) → Table
with_tasks table core period = record {
  cores = table.cores;
  tasks = table.tasks;
  labels = table.labels;
  chains = table.chains;
  core = core;
  period = period;
  writer = table.writer;
  readers = table.readers;
  length = table.length;
}

abbrev pub with_labels : Table → (writer readers : List ℕ) → Table
with_labels table writer readers = record {
  cores = table.cores;
  tasks = table.tasks;
  labels = table.labels;
  chains = table.chains;
  core = table.core;
  period = table.period;
  writer = writer;
  readers = readers;
  length = table.length;
}

-- the counts of a table
abbrev pub head_in : Table → Head
head_in table = record { cores = table.cores; tasks = table.tasks; labels = table.labels; chains = table.chains }

-- head, tasks and labels that were taken; the arrays of tasks and those of labels hold them, over what they held
pub record Body (image : List ℕ) (head : Head) (tasks_held tasks_hold labels_held labels_hold : List (List ℕ)) : Type 0
  where
    pub tasks : List Task
    pub labels : List Label
    pub of_head : head_fields image 0 ≡ gives (record { value = head; next = head_bits })
    pub of_tasks : in_row head.tasks (λ before. task_fields head.cores) image head_bits
        ≡ gives (record { value = tasks; next = head_bits + task_bits * head.tasks })
    pub of_labels
        : in_row head.labels (λ before. label_fields head.tasks) image (head_bits + task_bits * head.tasks)
        ≡ gives (record { value = labels; next = head_bits + task_bits * head.tasks + label_bits * head.labels })
    pub tasks_columns : tasks_hold ≡ columns_over task_columns tasks tasks_held
    pub labels_columns : labels_hold ≡ columns_over label_columns labels labels_held
    pub few_tasks : head.tasks ≤ 32
    pub few_labels : head.labels ≤ 64
    pub few_chains : head.chains ≤ 16

-- the image up to its labels: head, tasks and labels, in a table over what it held, or the image's refusal
pub record BodyRead {A : Type 0} (image : List ℕ) (r : Result A Refused) (held holds : Table) : Type 0 where
  pub accepted : (a : A) → r ≡ Ok a
      → Body image (head_in holds) (held.core ∷ held.period ∷ []) (holds.core ∷ holds.period ∷ [])
      (held.writer ∷ held.readers ∷ []) (holds.writer ∷ holds.readers ∷ [])
  pub refused : (refused : Refused) → r ≡ Err refused
      → all_fields image 0 ≡ refuses (number_of refused.refusal) refused.place
