-- Every accepted table meets the rules of document 01. Assumes nothing.
use Prim.Native.Nat.{ℕ, ◌-◌, ◌<◌, ◌≤◌}
use mathlib.Core.Path.{◌≡◌, sym, ap, ◌∙◌, subst}
use mathlib.Core.List.{List, [], map}
use native.Mathlib.Omega.{arith}
use lib.ListN.{length, get_or, take, replicate}
use lib.Seq.{take-append_seam}
use borrow.Author.Tests.{leb-true}
use Rattle.lists.specs.Lists.{padded}
use Rattle.lists.proofs.All.{All, all_within}
use Rattle.lists.proofs.Padded.{padded_at}
use Rattle.outcomes.specs.Outcome.{gives}
use Rattle.table.specs.Table.{core_of, period_of, writer_of, readers_of, reads, joins, chain_of, hyperperiod_of}
use Rattle.table.specs.Image.{Head, Task, Label, Whole, table_of, rows_of, read_image}
use Rattle.table.specs.Rules.{ChainMeets, MeetsRules}
use Rattle.table.proofs.Accepted.{accepted_told, accepted_within}
use Rattle.table.proofs.FieldRules.{Counts, TaskRules, LabelRules, no_task, no_label}

-- the task numbers of a chain, as they were read
pub chain_at_lem : (head : Head) (tasks : List Task) (labels : List Label) (chains : List (List ℕ)) (k : ℕ)
    → k < length chains → get_or chains k [] ≡ chain_of (table_of head tasks labels chains) (rows_of chains) k
unfolding chain_of table_of rows_of padded
chain_at_lem head tasks labels chains k inside =
    let chain = get_or chains k [] in
    let row = get_or (padded 16 (replicate 8 0) (map (λ chain. padded 8 0 chain) chains)) k [] in
    sym (ap (λ n. take n row) (padded_at 16 0 (λ chain. length chain) chains [] 0 k inside)
    ∙ ap (take (length chain)) (padded_at 16 (replicate 8 0) (λ chain. padded 8 0 chain) chains [] [] k inside)
    ∙ take-append_seam chain (replicate (8 - length chain) 0))

-- the rules of a chain do not speak of the lengths that a table holds
same_chain : (head : Head) (tasks : List Task) (labels : List Label) (chains : List (List ℕ)) (chain : List ℕ)
    → ChainMeets (table_of head tasks labels []) chain → ChainMeets (table_of head tasks labels chains) chain
unfolding table_of joins writer_of reads
same_chain head tasks labels chains chain meets =
    record { chain_length = meets.chain_length; chain_task = meets.chain_task; chain_step = meets.chain_step }

module _ (head : Head) (tasks : List Task) (labels : List Label) (chains : List (List ℕ)) where
  abbrev whole : Whole
  whole = record { table = table_of head tasks labels chains; rows = rows_of chains }

  -- the entries of a task and of a label, as they were read
  pub task_at : (i : ℕ) → i < length tasks
      → record { core = core_of whole.table i; period = period_of whole.table i } ≡ get_or tasks i no_task
  unfolding table_of core_of period_of
  task_at i inside =
      rw (
        padded_at 32 0 (λ task. task.core) tasks no_task 0 i inside,
        padded_at 32 0 (λ task. task.period) tasks no_task 0 i inside,
      )

  pub label_at : (l : ℕ) → l < length labels
      → record { writer = writer_of whole.table l; readers = readers_of whole.table l } ≡ get_or labels l no_label
  unfolding table_of writer_of
  label_at l inside =
      rw (
        padded_at 64 0 (λ label. label.writer) labels no_label 0 l inside,
        padded_at 64 0 (λ label. label.readers) labels no_label 0 l inside,
      )

  parts_meet_rules : Counts head
      → (length tasks ≡ head.tasks) × All (TaskRules head.cores) tasks
      → (length labels ≡ head.labels) × All (LabelRules head.tasks) labels
      → (length chains ≡ head.chains) × All (ChainMeets (table_of head tasks labels [])) chains
      → hyperperiod_of whole.table ≤ 1000000
      → MeetsRules whole
  unfolding table_of reads
  parts_meet_rules counts of_tasks of_labels of_chains within =
      let task : (i : ℕ) → i < head.tasks → TaskRules head.cores _ =
      λ i known.
      subst (TaskRules head.cores) (sym (task_at i (omega (arith, of_tasks.0))))
      (all_within _ tasks no_task of_tasks.1 i (omega (arith, of_tasks.0))) in
      let label : (l : ℕ) → l < head.labels → LabelRules head.tasks _ =
      λ l known.
      subst (LabelRules head.tasks) (sym (label_at l (omega (arith, of_labels.0))))
      (all_within _ labels no_label of_labels.1 l (omega (arith, of_labels.0))) in
      record {
        cores = counts.cores;
        tasks = counts.tasks;
        labels = counts.labels;
        chains = counts.chains;
        core = λ i known. (task i known).core;
        period = λ i known. (task i known).period;
        writer = λ l known. (label l known).writer;
        readers = λ l known. (label l known).readers;
        reader = λ l i known marked. (label l known).marked i marked;
        chain = λ k known.
            let inside : k < length chains = omega (arith, of_chains.0) in
            subst (ChainMeets whole.table) (chain_at_lem head tasks labels chains k inside)
            (same_chain head tasks labels chains _ (all_within _ chains [] of_chains.1 k inside));
        hyperperiod = within;
      }

-- every accepted table
pub accepted_meets_rules : (image : List ℕ) (whole : Whole) → read_image image ≡ gives whole → MeetsRules whole
accepted_meets_rules image whole e =
    let told = accepted_told image whole e in
    let within = leb-true _ _ (accepted_within image whole e) in
    subst MeetsRules told.is
    (parts_meet_rules told.head told.tasks told.labels told.chains told.counts told.of_tasks
    told.of_labels told.of_chains (subst (λ w. hyperperiod_of w.table ≤ 1000000) (sym told.is) within))
