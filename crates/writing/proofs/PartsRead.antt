-- The written parts of an image are read: the head, a task, a label and a chain that meet the rules. Assumes nothing.
use Prim.Native.Nat.{ℕ, zero, suc, ◌<◌, ◌≤◌}
use mathlib.Core.Bool.{Bool, true, false, not, ◌&&◌, ◌||◌}
use mathlib.Core.Path.{◌≡◌, refl, ap, ◌∙◌}
use mathlib.Core.List.{List, [], ◌∷◌}
use native.Mathlib.Omega.{arith}
use borrow.Author.Tests.{lt-ltb, le-leb, ne_eqb}
use lib.Dec.{lit<, leb, ltb, eqb}
use lib.ListN.{length, get_or, take}
use lib.Seq.{take-suc}
use Rattle.lists.proofs.Bools.{and_of_parts}
use Rattle.lists.proofs.Lists.{some_below_nothing}
use Rattle.bits.specs.Packing.{bits}
use Rattle.taking.specs.Reading.{field, in_row}
use Rattle.table.specs.Table.{marks}
use Rattle.table.specs.Image.{Head, Task, Label, between, head_fields, task_fields, right_readers, label_fields}
use Rattle.table.specs.Image.{step_holds, chain_task, chain_fields}
use Rattle.table.specs.Rules.{FromTo, ChainMeets}
use Rattle.table.specs.declared.Table.{Table}
use Rattle.table.proofs.FieldRules.{Counts, TaskRules, Marked, LabelRules}
use Rattle.table.proofs.ChainRules.{step_from_last}
use Rattle.writing.specs.Written.{head_written, task_written, label_written, chain_written}
use Rattle.taking.proofs.HeldRead.{Reads, done_reads, then_reads, field_reads, row_reads}

in_range : {least most v : ℕ} → FromTo least most v → between least most v ≡ true
unfolding between
in_range {least} {most} {v} bounds =
    and_of_parts (leb least v) (leb v most) (le-leb least v bounds.0) (le-leb v most bounds.1)

pub head_reads : (head : Head) → Counts head → Reads head_fields (head_written 1 head) head
unfolding head_fields head_written
head_reads head counts =
    let cores = counts.cores in
    let tasks = counts.tasks in
    let labels = counts.labels in
    let chains = counts.chains in
    then_reads _ (field_reads 4 2 1 (λ version. eqb version 1) (lit< tt) refl)
    (then_reads _ (field_reads 4 3 head.cores (between 1 8) (omega arith) (in_range cores))
    (then_reads _ (field_reads 6 3 head.tasks (between 1 32) (omega arith) (in_range tasks))
    (then_reads _ (field_reads 7 3 head.labels (between 0 64) (omega arith) (in_range labels))
    (then_reads _ (field_reads 5 3 head.chains (between 0 16) (omega arith) (in_range chains))
    (done_reads head)))))

pub task_reads : (cores : ℕ) (task : Task) → cores ≤ 8 → TaskRules cores task
    → Reads (task_fields cores) (task_written task) task
unfolding task_fields task_written
task_reads cores task few rules =
    let known = rules.core in
    let period = rules.period in
    then_reads _ (field_reads 3 4 task.core (λ core. ltb core cores) (omega arith) (lt-ltb _ _ known))
    (then_reads _ (field_reads 20 5 task.period (between 1 1000000) (omega arith) (in_range period))
    (done_reads task))

right : (tasks : ℕ) (label : Label) → Marked tasks label → right_readers tasks label.writer label.readers ≡ true
unfolding right_readers
right tasks label marked =
    ap not (some_below_nothing 32 _ (λ i below.
    go (marks label.readers i) (ltb i tasks) (eqb i label.writer)
    (λ is. lt-ltb i tasks (marked i is).0) (λ is. ne_eqb i label.writer (marked i is).1)))
  where
    go : (a b c : Bool) → (a ≡ true → b ≡ true) → (a ≡ true → c ≡ false) → (a && (not b || c)) ≡ false
    go false b c known other = refl
    go true b c known other = rw (known refl, other refl)

pub label_reads : (tasks : ℕ) (label : Label) → tasks ≤ 32 → LabelRules tasks label
    → Reads (label_fields tasks) (label_written label) label
unfolding label_fields label_written
label_reads tasks label few rules =
    let known = rules.writer in
    then_reads _ (field_reads 5 6 label.writer (λ writer. ltb writer tasks) (omega arith) (lt-ltb _ _ known))
    (then_reads _ (field_reads 32 7 label.readers (right_readers tasks label.writer) rules.readers
    (right tasks label rules.marked))
    (done_reads label))

module _ (table : Table) (chain : List ℕ) (meets : ChainMeets table chain) where
  -- each task of the chain passes, after those before it
  step : (k : ℕ) → k < length chain → step_holds table (take k chain) (get_or chain k 0) ≡ true
  unfolding step_holds
  step zero below = refl
  step (suc k) below =
      ap (λ before. step_holds table before (get_or chain (suc k) 0)) (take-suc chain k 0 (omega arith))
      ∙ step_from_last table (take k chain) (get_or chain k 0) (get_or chain (suc k) 0)
      ∙ meets.chain_step k below

  pub chain_reads : table.tasks ≤ 32 → Reads (chain_fields table) (chain_written chain) chain
  unfolding chain_fields chain_written chain_task
  chain_reads few =
      let size = meets.chain_length in
      then_reads (λ length. in_row length (λ before. field 5 8 (chain_task table before)))
      (field_reads 4 8 (length chain) (between 2 8) (omega arith) (in_range size))
      (row_reads (λ before. field 5 8 (chain_task table before)) (λ task. bits 5 task ∷ []) 0 chain (λ k below.
      let known = meets.chain_task k below in
      field_reads 5 8 (get_or chain k 0) (chain_task table (take k chain)) (omega arith)
      (and_of_parts _ _ (lt-ltb _ _ known) (step k below))))
