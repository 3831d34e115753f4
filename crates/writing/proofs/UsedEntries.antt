-- A table and the same table with 0 past its counts: each used entry, the labels that join two tasks, the rules of a
-- chain, and the hyperperiod. Assumes nothing.
use Prim.Native.Nat.{ℕ, suc, ◌-◌, ◌<◌, ◌≤◌}
use mathlib.Core.Bool.{◌&&◌}
use mathlib.Core.Logic.{by_cases}
use mathlib.Core.Path.{◌≡◌, sym, ap, ap₂, ◌∙◌}
use mathlib.Core.List.{List, map}
use native.Mathlib.Decide.{dec_lt}
use native.Mathlib.Omega.{arith}
use lib.Dec.{eqb}
use lib.ListN.{length, get_or, replicate, length-append, length-map, get_or-eq_default}
use lib.Seq.{ext_get_or, get_or-take, length-take-le}
use Rattle.lists.specs.Lists.{padded}
use Rattle.lists.proofs.Each.{length_one_each}
use Rattle.lists.proofs.Lists.{some_below_same}
use Rattle.lists.proofs.Padded.{padded_one_each}
use Rattle.times.specs.Hyperperiod.{lcm_of}
use Rattle.table.specs.Table.{core_of, period_of, writer_of, readers_of, marks, reads, joins, hyperperiod_of}
use Rattle.table.specs.Image.{Task, table_of}
use Rattle.table.specs.Rules.{FromTo, ChainMeets}
use Rattle.table.specs.declared.Table.{Table}
use Rattle.writing.specs.Written.{head_of, tasks_of, labels_of}

module _ (table : Table) (chains : List (List ℕ)) where
  -- the table with its used entries
  abbrev used : Table
  used = table_of (head_of table) (tasks_of table) (labels_of table) chains

  used_period : (i : ℕ) → i < table.tasks → period_of used i ≡ period_of table i
  unfolding table_of period_of tasks_of
  used_period i known = padded_one_each 32 (λ task. task.period) _ table.tasks i known

  used_writer : (l : ℕ) → l < table.labels → writer_of used l ≡ writer_of table l
  unfolding table_of writer_of labels_of
  used_writer l known = padded_one_each 64 (λ label. label.writer) _ table.labels l known

  used_readers : (l : ℕ) → l < table.labels → readers_of used l ≡ readers_of table l
  unfolding table_of labels_of
  used_readers l known = padded_one_each 64 (λ label. label.readers) _ table.labels l known

  pub used_joins : (w r : ℕ) → joins used w r ≡ joins table w r
  unfolding joins reads table_of head_of
  used_joins w r =
      some_below_same table.labels _ _ (λ l known.
      ap₂ (λ writer readers. eqb writer w && marks readers r) (used_writer l known) (used_readers l known))

  pub used_chain : (chain : List ℕ) → ChainMeets table chain → ChainMeets used chain
  unfolding table_of head_of
  used_chain chain meets = record {
    chain_length = meets.chain_length;
    chain_task = meets.chain_task;
    chain_step = λ j below. used_joins (get_or chain j 0) (get_or chain (suc j) 0) ∙ meets.chain_step j below;
  }

  pub used_hyperperiod : FromTo 1 32 table.tasks → ((i : ℕ) → i < table.tasks → 0 < period_of table i)
      → hyperperiod_of used ≡ hyperperiod_of table
  unfolding hyperperiod_of table_of head_of period_of tasks_of padded
  used_hyperperiod few positive =
      let n = table.tasks in
      let own = used.period in
      let each = length_one_each {A = Task} (λ i. record { core = core_of table i; period = period_of table i }) n in
      let entries = map (λ task. task.period) (tasks_of table) in
      let enough : n ≤ length own =
      omega (
        arith,
        length-append entries (replicate (32 - length entries) 0),
        length-map (tasks_of table) (λ task. task.period),
      ) in
      let all : n ≤ length table.period = by_cases (dec_lt (n - 1) (length table.period)) (λ inside. omega arith)
      (λ past.
      let some = positive (n - 1) (omega arith) in
      let none = get_or-eq_default table.period 0 {n = n - 1} (omega arith) in
      omega arith) in
      ap lcm_of (ext_get_or 0 _ _ (length-take-le n own enough ∙ sym (length-take-le n table.period all)) (λ i below.
      let taken = length-take-le n own enough in
      let known : i < n = omega arith in
      get_or-take n own i 0 known ∙ used_period i known ∙ sym (get_or-take n table.period i 0 known)))
