-- A table that was put together of a head, tasks, labels and chains: its used entries are those again. Assumes nothing.
use Prim.Native.Nat.{ℕ}
use mathlib.Core.Path.{◌≡◌, refl, sym}
use mathlib.Core.List.{List, []}
use native.Mathlib.Omega.{arith}
use lib.ListN.{length}
use Rattle.lists.proofs.Each.{one_each_same}
use Rattle.table.specs.Image.{Head, Task, Label, Whole, table_of, rows_of}
use Rattle.table.proofs.FieldRules.{no_task, no_label}
use Rattle.table.proofs.MeetsRules.{task_at, label_at, chain_at_lem}
use Rattle.writing.specs.Written.{head_of, tasks_of, labels_of, chains_of}

module _ (head : Head) (tasks : List Task) (labels : List Label) (chains : List (List ℕ)) where
  abbrev pub whole : Whole
  whole = record { table = table_of head tasks labels chains; rows = rows_of chains }

  pub same_head : head_of whole.table ≡ head
  unfolding head_of table_of
  same_head = refl

  pub same_tasks : length tasks ≡ head.tasks → tasks_of whole.table ≡ tasks
  unfolding tasks_of table_of
  same_tasks long =
      one_each_same _ no_task tasks head.tasks long (λ i known. task_at head tasks labels chains i (omega arith))

  pub same_labels : length labels ≡ head.labels → labels_of whole.table ≡ labels
  unfolding labels_of table_of
  same_labels long =
      one_each_same _ no_label labels head.labels long (λ l known. label_at head tasks labels chains l (omega arith))

  pub same_chains : length chains ≡ head.chains → chains_of whole ≡ chains
  unfolding chains_of table_of
  same_chains long =
      one_each_same _ [] chains head.chains long (λ k known.
      sym (chain_at_lem head tasks labels chains k (omega arith)))
