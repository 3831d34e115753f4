-- What holds of every accepted table: each task is on a core of the table; each period is above 0 and divides the
-- hyperperiod, which is above 0; the writer of a label and each reader of it are tasks of the table, and only labels of
-- the table have readers. Assumes nothing.
use Prim.Native.Nat.{ℕ, ◌-◌, ◌/◌, ◌%◌, ◌^◌, ◌≤◌, ◌<◌, ◌∣◌}
use mathlib.Core.Bool.{true}
use mathlib.Core.Logic.{by_cases}
use mathlib.Core.Path.{◌≡◌, refl, sym, ap, ◌∙◌, subst}
use mathlib.Core.List.{List, map}
use native.Mathlib.Nat.{zero-div, le_dest}
use native.Mathlib.Decide.{dec_lt}
use native.Mathlib.Omega.{arith}
use lib.Dec.{ltb}
use lib.ListN.{length, get_or, take, replicate, length-append, length-take, length-map, get_or-append}
use lib.Seq.{get_or-take, get_or-append-add}
use borrow.Author.Tests.{eqb-true}
use Rattle.lists.specs.Lists.{padded}
use Rattle.lists.proofs.Bools.{and_parts}
use Rattle.times.specs.Hyperperiod.{lcm_of}
use Rattle.times.proofs.Hyperperiod.{period_divides_hyperperiod, hyperperiod_positive}
use Rattle.table.specs.Table.{core_of, period_of, writer_of, marks, reads, hyperperiod_of}
use Rattle.table.specs.Image.{Head, Task, Label, table_of}
use Rattle.table.specs.declared.Table.{Table}
use Rattle.table.proofs.FieldRules.{TaskRules, LabelRules}
use Rattle.lists.proofs.All.{All, all_append, all_replicate, all_within, all_at, all_map, all_also}

pub record Sound (table : Table) : Type 0 where
  pub core_known : (i : ℕ) → i < table.tasks → core_of table i < table.cores
  pub period_positive : (i : ℕ) → i < table.tasks → 0 < period_of table i
  pub period_divides : (i : ℕ) → i < table.tasks → period_of table i ∣ hyperperiod_of table
  pub round_positive : 0 < hyperperiod_of table
  pub writer_known : (l : ℕ) → writer_of table l < table.tasks
  pub reader_known : (l r : ℕ) → reads table l r ≡ true → r < table.tasks
  pub label_known : (l r : ℕ) → reads table l r ≡ true → l < table.labels

-- a readers field marks only tasks below the count
abbrev MarksBelow : ℕ → ℕ → Type 0
MarksBelow tasks readers = (i : ℕ) → marks readers i ≡ true → i < tasks

-- a readers field of 0 marks no task
pub none_marked : (i : ℕ) → marks 0 i ≡ true → ⊥
unfolding marks
none_marked i marked =
    let bit = eqb-true (0 / 2 ^ (31 - i) % 2) 1 (and_parts (ltb i 32) _ marked).1 in
    let never : ◌≡◌ {A = ℕ} 0 1 = ap (λ q. q % 2) (sym (zero-div (2 ^ (31 - i)))) ∙ bit in
    omega arith

past_padding : (size : ℕ) (entries : List ℕ) (i : ℕ) → length entries ≤ i → get_or (padded size 0 entries) i 0 ≡ 0
unfolding padded
past_padding size entries i past =
    let (more, there) = le_dest past in
    ap (λ k. get_or (padded size 0 entries) k 0) (sym there)
    ∙ get_or-append-add entries (replicate (size - length entries) 0) more 0
    ∙ all_at (λ n. n ≡ 0) (replicate (size - length entries) 0) 0
    (all_replicate (λ n. n ≡ 0) (size - length entries) 0 refl) refl more

-- a table of a head and of as many tasks and labels as it says, each of them right
module _ (head : Head) (tasks : List Task) (labels : List Label) (chains : List (List ℕ))
    (some-task : 0 < head.tasks)
    (count_tasks : length tasks ≡ head.tasks) (count_labels : length labels ≡ head.labels)
    (tasks_right : All (TaskRules head.cores) tasks)
    (Labels-right : All (LabelRules head.tasks) labels)
  where
    -- an entry of any number that each entry of the labels has right, and 0 too
    label_entry : (P : ℕ → Type 0) (f : Label → ℕ) → All (λ label. P (f label)) labels → P 0
        → (l : ℕ) → P (get_or (padded 64 0 (map f labels)) l 0)
    unfolding padded
    label_entry P f right of_0 =
        let entries = map f labels in
        all_at P (padded 64 0 entries) 0
        (all_append P entries (replicate (64 - length entries) 0) (all_map P f labels right)
        (all_replicate P (64 - length entries) 0 of_0))
        of_0

    -- an entry of a task that each entry of the tasks has right
    task_entry : (P : ℕ → Type 0) (f : Task → ℕ) → All (λ task. P (f task)) tasks
        → (i : ℕ) → i < head.tasks → P (get_or (padded 32 0 (map f tasks)) i 0)
    unfolding padded
    task_entry P f right i known =
        let entries = map f tasks in
        let inside : i < length entries = omega (arith, length-map tasks f) in
        rw (get_or-append entries (replicate (32 - length entries) 0) 0 i inside)
        (all_within P entries 0 (all_map P f tasks right) i inside)

    all_listed : length (take head.tasks (padded 32 0 (map (λ task. task.period) tasks))) ≡ head.tasks
    unfolding padded
    all_listed =
        let entries = map (λ task. task.period) tasks in
        omega (
          arith,
          length-take head.tasks (padded 32 0 entries),
          length-append entries (replicate (32 - length entries) 0),
          length-map tasks (λ task. task.period),
        )

    no_reader_past : (l r : ℕ) → reads (table_of head tasks labels chains) l r ≡ true → ¬ (l < head.labels) → ⊥
    unfolding table_of reads
    no_reader_past l r marked past =
        let entries = map (λ label. label.readers) labels in
        none_marked r (subst (λ field. marks field r ≡ true)
        (past_padding 64 entries l (omega (arith, length-map labels (λ label. label.readers)))) marked)

    pub table_sound : Sound (table_of head tasks labels chains)
    unfolding table_of core_of period_of hyperperiod_of writer_of reads
    table_sound = record {
      core_known = task_entry (λ c. c < head.cores) (λ task. task.core)
          (all_also _ _ (λ task rules. rules.core) tasks tasks_right);
      period_positive = task_entry (λ p. 0 < p) (λ task. task.period)
          (all_also _ _ (λ task rules. rules.period.0) tasks tasks_right);
      period_divides = λ i known.
          let entries = padded 32 0 (map (λ task. task.period) tasks) in
          subst (λ p. p ∣ lcm_of (take head.tasks entries)) (get_or-take head.tasks entries i 0 known)
          (period_divides_hyperperiod (take head.tasks entries) i (omega (arith, all_listed)));
      round_positive =
          let entries = padded 32 0 (map (λ task. task.period) tasks) in
          hyperperiod_positive (take head.tasks entries) (λ i inside.
          let known : i < head.tasks = omega (arith, all_listed) in
          rw (get_or-take head.tasks entries i 0 known)
          (task_entry (λ p. 0 < p) (λ task. task.period)
          (all_also _ _ (λ task rules. rules.period.0) tasks tasks_right) i known));
      writer_known = label_entry (λ w. w < head.tasks) (λ label. label.writer)
          (all_also _ _ (λ label rules. rules.writer) labels Labels-right) some-task;
      reader_known = label_entry (MarksBelow head.tasks) (λ label. label.readers)
          (all_also _ _ (λ label rules i marked. (rules.marked i marked).0) labels Labels-right)
          (λ i marked. absurd (none_marked i marked));
      label_known = λ l r marked.
          by_cases (dec_lt l head.labels) (λ inside. inside) (λ past. absurd (no_reader_past l r marked past));
    }
