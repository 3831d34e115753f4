-- "The largest image is 480 bytes": so many are reached. A table of 32 tasks, 64 labels and 16 chains of 8 tasks; each
-- rule is a test that computes. Assumes nothing.
use Prim.Native.Nat.{ℕ, suc, ◌<◌, ◌^◌}
use mathlib.Core.Bool.{Bool, true, false, not}
use mathlib.Core.Path.{◌≡◌, refl, subst, sym, ◌∙◌}
use mathlib.Core.List.{List, [], ◌∷◌, ◌++◌}
use native.Mathlib.Omega.{arith}
use borrow.Author.Tests.{ltb-true, not-false}
use lib.Dec.{ltb}
use lib.ListN.{length, get_or, replicate, get_or-replicate}
use Rattle.lists.specs.Lists.{some_below, each_below, each_of, padded}
use Rattle.lists.proofs.Lists.{some_below_none_passes}
use Rattle.outcomes.specs.Outcome.{gives}
use Rattle.bits.specs.Packing.{bits_of, bits_of_all, bytes_for}
use Rattle.bits.proofs.Held.{bits_in, length_packed}
use Rattle.times.specs.Hyperperiod.{gcd_in, gcd, lcm, lcm_from, lcm_of}
use Rattle.table.specs.Table.{core_of, period_of, writer_of, readers_of, marks, reads, joins, chain_of, hyperperiod_of}
use Rattle.table.specs.Image.{Task, Label, Whole, between, right_readers, table_of, rows_of, read_image}
use Rattle.table.specs.Rules.{ChainMeets, MeetsRules}
use Rattle.table.proofs.FieldRules.{right_marked}
use Rattle.table.proofs.MeetsRules.{chain_at_lem}
use Rattle.table.proofs.Ranges.{between_bounds}
use Rattle.writing.specs.Written.{head_written, task_written, label_written, chain_written, head_of, tasks_of, labels_of}
use Rattle.writing.specs.Written.{chains_of, image_fields, image_of, used_of}
use Rattle.writing.proofs.ReadOfWritten.{read_of_written}

-- a chain that goes to and fro between two tasks
abbrev chain : List ℕ
chain = 0 ∷ 1 ∷ 0 ∷ 1 ∷ 0 ∷ 1 ∷ 0 ∷ 1 ∷ []

-- 32 tasks of period 1; 63 labels from task 0 to task 1 and one back
unfoldable largest : Whole
largest =
    let tasks : List Task = replicate 32 (record { core = 0; period = 1 }) in
    let labels : List Label =
    replicate 63 (record { writer = 0; readers = 2 ^ 30 }) ++ record { writer = 1; readers = 2 ^ 31 } ∷ [] in
    record {
      table = table_of (record { cores = 1; tasks = 32; labels = 64; chains = 16 }) tasks labels (replicate 16 chain);
      rows = rows_of (replicate 16 chain);
    }

-- what a test says of every number below a bound
passes : (n : ℕ) (test : ℕ → Bool) → some_below n (λ k. not (test k)) ≡ false → (k : ℕ) → k < n → test k ≡ true
passes n test none k below = not-false (test k) (some_below_none_passes n (λ k. not (test k)) none k below)

core_right : some_below 32 (λ i. not (ltb (core_of largest.table i) 1)) ≡ false
unfolding some_below core_of largest table_of padded
core_right = refl

period_right : some_below 32 (λ i. not (between 1 1000000 (period_of largest.table i))) ≡ false
unfolding some_below period_of largest table_of padded between
period_right = refl

writer_right : some_below 64 (λ l. not (ltb (writer_of largest.table l) 32)) ≡ false
unfolding some_below writer_of largest table_of padded
writer_right = refl

readers_right : some_below 64 (λ l. not (ltb (readers_of largest.table l) (2 ^ 32))) ≡ false
unfolding some_below largest table_of padded
readers_right = refl

reader_right : some_below 64 (λ l. not (right_readers 32 (writer_of largest.table l) (readers_of largest.table l)))
    ≡ false
unfolding some_below writer_of right_readers marks largest table_of padded
reader_right = refl

task_right : some_below 8 (λ j. not (ltb (get_or chain j 0) 32)) ≡ false
unfolding some_below
task_right = refl

step_right : some_below 7 (λ j. not (joins largest.table (get_or chain j 0) (get_or chain (suc j) 0))) ≡ false
unfolding some_below writer_of marks reads joins largest table_of padded
step_right = refl

chain_meets : ChainMeets largest.table chain
unfolding largest table_of
chain_meets = record {
  chain_length = (omega arith, omega arith);
  chain_task = λ j below. ltb-true _ _ (passes 8 (λ j. ltb (get_or chain j 0) 32) task_right j below);
  chain_step = λ j below.
      passes 7 (λ j. joins largest.table (get_or chain j 0) (get_or chain (suc j) 0)) step_right j (omega arith);
}

-- every chain of the table is this one
each_chain : (k : ℕ) → k < 16 → chain ≡ chain_of largest.table largest.rows k
unfolding largest
each_chain k below =
    sym (get_or-replicate 16 k chain [] below) ∙ chain_at_lem _ _ _ (replicate 16 chain) k below

each_reader : (l i : ℕ) → l < 64 → reads largest.table l i ≡ true → (i < 32) × ¬ (i ≡ writer_of largest.table l)
unfolding reads
each_reader l i below marked =
    right_marked 32 (writer_of largest.table l) (readers_of largest.table l)
    (passes 64 (λ l. right_readers 32 (writer_of largest.table l) (readers_of largest.table l)) reader_right l below)
    i marked

meets : MeetsRules largest
unfolding largest table_of hyperperiod_of gcd_in gcd lcm lcm_from lcm_of padded
meets = record {
  cores = (omega arith, omega arith);
  tasks = (omega arith, omega arith);
  labels = (omega arith, omega arith);
  chains = (omega arith, omega arith);
  core = λ i below. ltb-true _ _ (passes 32 (λ i. ltb (core_of largest.table i) 1) core_right i below);
  period = λ i below.
      between_bounds 1 1000000 _
      (passes 32 (λ i. between 1 1000000 (period_of largest.table i)) period_right i below);
  writer = λ l below. ltb-true _ _ (passes 64 (λ l. ltb (writer_of largest.table l) 32) writer_right l below);
  readers = λ l below.
      ltb-true _ _ (passes 64 (λ l. ltb (readers_of largest.table l) (2 ^ 32)) readers_right l below);
  reader = each_reader;
  chain = λ k below. subst (ChainMeets largest.table) (each_chain k below) chain_meets;
  hyperperiod = omega arith;
}

all_bits : bytes_for (bits_in (image_fields 1 largest)) ≡ 480
unfolding image_fields head_written task_written label_written chain_written head_of tasks_of labels_of chains_of each_below
    each_of bits_of bits_of_all bytes_for core_of period_of writer_of chain_of largest table_of rows_of padded
all_bits = refl

long : length (image_of 1 largest) ≡ 480
unfolding image_of
long = length_packed (image_fields 1 largest) ∙ all_bits

-- its image is accepted, and has 480 bytes
pub largest_reached : (image : List ℕ) × (whole : Whole) × (read_image image ≡ gives whole) × (length image ≡ 480)
largest_reached = (image_of 1 largest, used_of largest, read_of_written largest meets, long)
