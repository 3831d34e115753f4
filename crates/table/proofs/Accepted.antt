-- What is known of every accepted table: the parts that its image was read as, with their rules; that it is sound; and
-- its hyperperiod's limit. Assumes nothing.
use Prim.Native.Nat.{ℕ}
use mathlib.Core.Bool.{true}
use mathlib.Core.Path.{◌≡◌, refl, sym, subst}
use mathlib.Core.List.{List, []}
use lib.Dec.{leb}
use lib.ListN.{length}
use Rattle.lists.proofs.All.{All}
use Rattle.outcomes.specs.Outcome.{Outcome, gives, refuses, asked_of}
use Rattle.outcomes.proofs.Outcomes.{same_given, gives_no_refusal}
use Rattle.taking.specs.Reading.{Taken, in_row, check}
use Rattle.table.specs.Table.{hyperperiod_of}
use Rattle.table.specs.Image.{Head, Task, Label, Whole, head_fields, table_of, rows_of, fill, all_fields, whole_fields}
use Rattle.table.specs.Image.{read_image}
use Rattle.table.specs.Rules.{ChainMeets}
use Rattle.table.proofs.ChainRules.{chain_checks}
use Rattle.taking.proofs.Checks.{Checks, checks_nothing, done_checks, then_checks, check_checks, row_checks}
use Rattle.table.proofs.FieldRules.{Counts, head_counts, TaskRules, task_rules, LabelRules, label_rules}
use Rattle.table.proofs.Sound.{Sound, table_sound}

-- what an image tells of its table: the parts that it is put together of, and the rules that each of them meets
pub record Told (whole : Whole) : Type 0 where
  pub head : Head
  pub tasks : List Task
  pub labels : List Label
  pub chains : List (List ℕ)
  pub is : record { table = table_of head tasks labels chains; rows = rows_of chains } ≡ whole
  pub counts : Counts head
  pub of_tasks : (length tasks ≡ head.tasks) × All (TaskRules head.cores) tasks
  pub of_labels : (length labels ≡ head.labels) × All (LabelRules head.tasks) labels
  pub of_chains : (length chains ≡ head.chains) × All (ChainMeets (table_of head tasks labels [])) chains

all_told : Checks Told all_fields
unfolding all_fields
all_told =
    then_checks _ _ head_fields _ head_counts (λ head counts.
    then_checks _ _ (in_row head.tasks _) _ (row_checks _ _ (λ before. task_rules head.cores) head.tasks)
    (λ tasks of_tasks.
    then_checks _ _ (in_row head.labels _) _ (row_checks _ _ (λ before. label_rules head.tasks) head.labels)
    (λ labels of_labels.
    then_checks _ _ (in_row head.chains _) _
    (row_checks _ _ (λ before. chain_checks (table_of head tasks labels [])) head.chains) (λ chains of_chains.
    then_checks _ _ fill _ (checks_nothing _) (λ filled free.
    done_checks Told _ (record {
      head = head;
      tasks = tasks;
      labels = labels;
      chains = chains;
      is = refl;
      counts = counts;
      of_tasks = of_tasks;
      of_labels = of_labels;
      of_chains = of_chains;
    }))))))

whole_told : Checks Told whole_fields
unfolding whole_fields
whole_told =
    then_checks _ _ all_fields _ all_told (λ whole told.
    then_checks _ _ (check _ 10 0) _ (checks_nothing _) (λ checked free. done_checks Told whole told))

-- what the whole image tells of a table holds of every accepted table
accepted_has : (P : Whole → Type 0) → Checks P whole_fields
    → (image : List ℕ) (whole : Whole) → read_image image ≡ gives whole → P whole
unfolding read_image
accepted_has P checks image whole e = go (whole_fields image 0) (checks image 0) e
  where
    go : (outcome : Outcome (Taken Whole)) → ((taken : Taken Whole) → outcome ≡ gives taken → P taken.value)
        → asked_of outcome (λ taken. gives taken.value) ≡ gives whole → P whole
    go (gives taken) has e = subst P (same_given e) (has taken refl)
    go (refuses number place) has e = absurd (gives_no_refusal (sym e))

pub accepted_told : (image : List ℕ) (whole : Whole) → read_image image ≡ gives whole → Told whole
accepted_told = accepted_has _ whole_told

pub accepted_sound : (image : List ℕ) (whole : Whole) → read_image image ≡ gives whole → Sound whole.table
accepted_sound image whole e =
    let told = accepted_told image whole e in
    subst (λ w. Sound w.table) told.is
    (table_sound told.head told.tasks told.labels told.chains told.counts.tasks.0 told.of_tasks.0
    told.of_labels.0 told.of_tasks.1 told.of_labels.1)

-- the hyperperiod of an accepted table is within its limit
within_checks : Checks (λ whole. leb (hyperperiod_of whole.table) 1000000 ≡ true) whole_fields
unfolding whole_fields
within_checks =
    then_checks _ _ all_fields _ (checks_nothing _) (λ whole free.
    then_checks _ _ (check _ 10 0) _ (check_checks _ 10 0) (λ checked right.
    done_checks (λ whole. leb (hyperperiod_of whole.table) 1000000 ≡ true) whole right))

pub accepted_within : (image : List ℕ) (whole : Whole) → read_image image ≡ gives whole
    → leb (hyperperiod_of whole.table) 1000000 ≡ true
accepted_within = accepted_has _ within_checks
