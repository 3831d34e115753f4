-- Head, tasks and labels in turn: a refused part refuses the image. No contract cites this file. Assumes nothing.
use Prim.Native.Nat.{ℕ, ◌+◌, ◌*◌}
use mathlib.Core.Path.{◌≡◌, sym, ap, ◌∙◌}
use mathlib.Core.List.{List, [], ◌∷◌}
use Rattle.std.specs.Prelude.{Result, Ok, Err}
use Rattle.outcomes.specs.Outcome.{gives, refuses}
use Rattle.table.specs.Refusals.{number_of}
use Rattle.table.specs.Image.{Head, head_bits, task_bits, head_fields, all_fields}
use Rattle.table.specs.declared.Refused.{Refused}
use Rattle.table.specs.declared.Table.{Table}
use Rattle.table.proofs.FieldRules.{head_counts}
use Rattle.fields.proofs.Steps.{taken, not_taken}
use Rattle.body.specs.Parts.{TasksTaken, LabelsTaken, BodyRead, with_tasks, with_labels}

-- a body that is refused refuses the image
pub body_refused : {A : Type 0} (image : List ℕ) (r : Result A Refused) (held holds : Table) (refused : Refused)
    → r ≡ Err refused → all_fields image 0 ≡ refuses (number_of refused.refusal) refused.place
    → BodyRead image r held holds
body_refused image r held holds refused told off = record {
  accepted = λ a accepted. absurd (cc);
  refused = λ other told_other.
      let same : refused ≡ other = cc in
      off ∙ ap (λ (refused : Refused). refuses (number_of refused.refusal) refused.place) same;
}

-- a refused head refuses the image
pub head_refused : (image : List ℕ) {n p : ℕ} → head_fields image 0 ≡ refuses n p → all_fields image 0 ≡ refuses n p
unfolding all_fields
head_refused image refused = rw refused

-- a table with the counts of a head
abbrev with_counts : Table → Head → Table
with_counts table head = record {
  cores = head.cores;
  tasks = head.tasks;
  labels = head.labels;
  chains = head.chains;
  core = table.core;
  period = table.period;
  writer = table.writer;
  readers = table.readers;
  length = table.length;
}

-- The tasks and the labels after a head that was taken.
module _ (image : List ℕ) (held : Table) (head : Head)
    (of_head : head_fields image 0 ≡ gives (record { value = head; next = head_bits })) where
  -- the tasks, where the reader stands
  module _ {image' : List ℕ} {at : ℕ} (same : image' ≡ image) (place : at ≡ head_bits) {r : Result (Unit {0}) Refused}
      {holds : List (List ℕ)}
      (read : TasksTaken image' at head.cores head.tasks r (held.core ∷ held.period ∷ []) holds) where
    pub of_tasks : TasksTaken image head_bits head.cores head.tasks r (held.core ∷ held.period ∷ []) holds
    of_tasks = rw (same, place) at read

    pub tasks_refused : (refused : Refused) → r ≡ Err refused
        → all_fields image 0 ≡ refuses (number_of refused.refusal) refused.place
    unfolding all_fields
    tasks_refused refused told = rw (of_head, not_taken _ _ refused told of_tasks.said)

  -- the labels after them
  module _ {core period : List ℕ} (tasks_read : TasksTaken image head_bits head.cores head.tasks (Ok tt)
      (held.core ∷ held.period ∷ []) (core ∷ period ∷ []))
      {image' : List ℕ} {at : ℕ} {table : Table} (same : image' ≡ image)
      (place : at ≡ head_bits + task_bits * head.tasks) (rest : table ≡ with_tasks (with_counts held head) core period)
      {r : Result (Unit {0}) Refused} {holds : List (List ℕ)}
      (read : LabelsTaken image' at table.tasks table.labels r (table.writer ∷ table.readers ∷ []) holds) where
    of_labels : LabelsTaken image (head_bits + task_bits * head.tasks) head.tasks head.labels r
        (held.writer ∷ held.readers ∷ []) holds
    of_labels = rw (same, place, rest) at read

    pub labels_refused : (refused : Refused) → r ≡ Err refused
        → all_fields image 0 ≡ refuses (number_of refused.refusal) refused.place
    unfolding all_fields
    labels_refused refused told =
        rw (of_head, ← tasks_read.said, not_taken _ _ refused told of_labels.said)

    -- all were taken
    pub body_read : {A : Type 0} (a : A) {writer readers : List ℕ} {last : Table} → r ≡ Ok tt
        → holds ≡ writer ∷ readers ∷ [] → last ≡ with_labels table writer readers → BodyRead image (Ok a) held last
    body_read a {writer} {readers} labels_taken are is =
        rw (is, rest) (record {
          accepted = λ b told. record {
            tasks = tasks_read.values;
            labels = of_labels.values;
            of_head = of_head;
            of_tasks = sym tasks_read.said;
            of_labels = taken _ _ tt labels_taken of_labels.said;
            tasks_columns = tasks_read.holds;
            labels_columns = sym are ∙ of_labels.holds;
            few_tasks = (head_counts _ _ _ of_head).tasks.1;
            few_labels = (head_counts _ _ _ of_head).labels.1;
            few_chains = (head_counts _ _ _ of_head).chains.1;
          };
          refused = λ refused told. absurd (cc);
        })
