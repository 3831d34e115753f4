-- What is known of a head, a task and a label that were read: the rules of document 01 that their fields were checked
-- by. Assumes nothing.
use Prim.Native.Nat.{ℕ, ◌<◌, ◌^◌}
use mathlib.Core.Bool.{Bool, true, false, not, ◌&&◌, ◌||◌, false≢true}
use mathlib.Core.Path.{◌≡◌, refl, sym}
use lib.Dec.{ltb, eqb}
use borrow.Author.Tests.{ltb-true, not-true, eqb-false}
use Rattle.lists.proofs.Bools.{and_parts}
use Rattle.lists.proofs.Lists.{some_below_none_passes}
use Rattle.taking.specs.Reading.{field}
use Rattle.table.specs.Table.{marks}
use Rattle.table.specs.Image.{Head, Task, Label, between, head_fields, task_fields, right_readers, label_fields}
use Rattle.table.specs.Rules.{FromTo}
use Rattle.taking.proofs.Checks.{Checks, checks_nothing, done_checks, then_checks, field_checks, field_narrow}
use Rattle.table.proofs.Ranges.{between_bounds}

-- the counts of a head that was taken
pub record Counts (head : Head) : Type 0 where
  pub cores : FromTo 1 8 head.cores
  pub tasks : FromTo 1 32 head.tasks
  pub labels : FromTo 0 64 head.labels
  pub chains : FromTo 0 16 head.chains

pub head_counts : Checks Counts head_fields
unfolding head_fields
head_counts =
    then_checks _ _ (field 4 2 _) _ (checks_nothing _) (λ version free.
    then_checks _ _ (field 4 3 _) _ (field_checks 4 3 (between 1 8)) (λ cores c.
    then_checks _ _ (field 6 3 _) _ (field_checks 6 3 (between 1 32)) (λ tasks t.
    then_checks _ _ (field 7 3 _) _ (field_checks 7 3 (between 0 64)) (λ labels l.
    then_checks _ _ (field 5 3 _) _ (field_checks 5 3 (between 0 16)) (λ chains k.
    done_checks Counts _ (record {
      cores = between_bounds 1 8 cores c;
      tasks = between_bounds 1 32 tasks t;
      labels = between_bounds 0 64 labels l;
      chains = between_bounds 0 16 chains k;
    }))))))

-- the rules of a task that was taken
pub record TaskRules (cores : ℕ) (task : Task) : Type 0 where
  pub core : task.core < cores
  pub period : FromTo 1 1000000 task.period

pub task_rules : (cores : ℕ) → Checks (TaskRules cores) (task_fields cores)
unfolding task_fields
task_rules cores =
    then_checks _ _ (field 3 4 _) _ (field_checks 3 4 (λ core. ltb core cores)) (λ core known.
    then_checks _ _ (field 20 5 _) _ (field_checks 20 5 (between 1 1000000)) (λ period right.
    done_checks (TaskRules cores) _ (record {
      core = ltb-true core cores known;
      period = between_bounds 1 1000000 period right;
    })))

-- every reader that a field marks is a task of the table and not the writer
abbrev pub Marked : (tasks : ℕ) → Label → Type 0
Marked tasks label = (i : ℕ) → marks label.readers i ≡ true → (i < tasks) × ¬ (i ≡ label.writer)

pub right_marked : (tasks writer readers : ℕ) → right_readers tasks writer readers ≡ true
    → Marked tasks (record { writer = writer; readers = readers })
unfolding right_readers marks
right_marked tasks writer readers right i marked =
    let inside = ltb-true i 32 (and_parts (ltb i 32) _ marked).0 in
    let passed = some_below_none_passes 32 _ (not-true _ right) i inside in
    let told = go (marks readers i) (ltb i tasks) (eqb i writer) marked passed in
    (ltb-true i tasks told.0, eqb-false i writer told.1)
  where
    go : (a b c : Bool) → a ≡ true → (a && (not b || c)) ≡ false → (b ≡ true) × (c ≡ false)
    go true true c marked passed = (refl, passed)
    go true false c marked passed = absurd (false≢true (sym passed))
    go false b c marked passed = absurd (false≢true marked)

-- the rules of a label that was taken
pub record LabelRules (tasks : ℕ) (label : Label) : Type 0 where
  pub writer : label.writer < tasks
  pub readers : label.readers < 2 ^ 32
  pub marked : Marked tasks label

pub label_rules : (tasks : ℕ) → Checks (LabelRules tasks) (label_fields tasks)
unfolding label_fields
label_rules tasks =
    then_checks _ _ (field 5 6 _) _ (field_checks 5 6 (λ writer. ltb writer tasks)) (λ writer known.
    then_checks (λ readers. (readers < 2 ^ 32) × (right_readers tasks writer readers ≡ true)) _ (field 32 7 _) _
    (λ image at given e. (
      field_narrow 32 7 (right_readers tasks writer) image at given e,
      field_checks 32 7 (right_readers tasks writer) image at given e,
    ))
    (λ readers both.
    done_checks (LabelRules tasks) _ (record {
      writer = ltb-true writer tasks known;
      readers = both.0;
      marked = right_marked tasks writer readers both.1;
    })))

-- what stands for a task or a label past the last one
abbrev pub no_task : Task
no_task = record { core = 0; period = 0 }

abbrev pub no_label : Label
no_label = record { writer = 0; readers = 0 }
