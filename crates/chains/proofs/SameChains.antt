-- The chains of a table by its first 64 labels alone: those past its arrays go to no task. No contract cites this file.
-- Assumes nothing.
use Prim.Native.Nat.{ℕ, zero, suc, ◌≤◌, min}
use mathlib.Core.Path.{◌≡◌, refl, ap, ◌∙◌, fun_ext}
use mathlib.Core.Bool.{Bool, false, ◌&&◌, and-false, or-false}
use mathlib.Core.Logic.{⊎_elim, by_cases}
use mathlib.Core.List.{List, [], ◌∷◌}
use native.Mathlib.Decide.{dec_lt}
use native.Mathlib.Omega.{arith}
use Rattle.std.proofs.Math.Nat.{zero-min, min-eq_left}
use Rattle.std.proofs.Math.ListN.{get_or-eq_default}
use lib.Dec.{eqb}
use lib.ListN.{length}
use Rattle.lists.specs.Lists.{some_below}
use Rattle.lists.proofs.Bools.{true_or_false}
use Rattle.taking.specs.Reading.{◌then◌, field, in_row}
use Rattle.table.specs.Table.{writer_of, reads, joins}
use Rattle.table.specs.Image.{between, step_holds, chain_task, chain_fields}
use Rattle.table.specs.declared.Table.{Table}
use Rattle.table.proofs.Sound.{none_marked}

-- tables of as many tasks and with labels for the same steps have the same chains
module _ (a b : Table) (tasks : a.tasks ≡ b.tasks) (joined : (w r : ℕ) → joins a w r ≡ joins b w r) where
  step_same : (before : List ℕ) (next : ℕ) → step_holds a before next ≡ step_holds b before next
  unfolding step_holds
  step_same [] next = refl
  step_same (earlier ∷ []) next = joined earlier next
  step_same (first ∷ second ∷ more) next = step_same (second ∷ more) next

  task_same : chain_task a ≡ chain_task b
  unfolding chain_task
  task_same = fun_ext (λ before. fun_ext (λ task. rw (← step_same before task, tasks)))

  pub chain_same : chain_fields a ≡ chain_fields b
  unfolding chain_fields
  chain_same =
      ap (λ task. field 4 8 (between 2 8) then λ length. in_row length (λ before. field 5 8 (task before))) task_same

-- numbers that do not pass need not be looked at
some_within : (n bound : ℕ) (test : ℕ → Bool) → ((k : ℕ) → bound ≤ k → test k ≡ false)
    → some_below (min n bound) test ≡ some_below n test
unfolding some_below
some_within zero bound test none = rw zero-min
some_within (suc n) bound test none =
    by_cases (dec_lt n bound)
    (λ below. ap (λ m. some_below m test) (min-eq_left below))
    (λ past.
    let all : min (suc n) bound ≡ min n bound = omega arith in
    ap (λ m. some_below m test) all ∙ some_within n bound test none ∙ rw (none n (omega arith), or-false))

-- the table with no more labels than 64
abbrev pub held : Table → Table
held table = record {
  cores = table.cores;
  tasks = table.tasks;
  labels = min table.labels 64;
  chains = table.chains;
  core = table.core;
  period = table.period;
  writer = table.writer;
  readers = table.readers;
  length = table.length;
}

module _ (table : Table) (long : length table.readers ≡ 64) where
  no_label : (w r l : ℕ) → 64 ≤ l → (eqb (writer_of table l) w && reads table l r) ≡ false
  unfolding reads
  no_label w r l past =
      ⊎_elim
      (λ marked. absurd (none_marked r (rw (get_or-eq_default table.readers 0 {n = l} (omega arith)) at marked)))
      (λ unmarked. rw unmarked (and-false _))
      (true_or_false (reads table l r))

  joins_held : (w r : ℕ) → joins (held table) w r ≡ joins table w r
  unfolding joins writer_of reads
  joins_held w r = some_within table.labels 64 _ (no_label w r)

  pub chains_held : chain_fields (held table) ≡ chain_fields table
  chains_held = chain_same (held table) table refl joins_held
