-- What `gather` leaves: the counters of a core at tick 0, at the start of what was lent. Assumes nothing.
use Prim.Native.Nat.{ℕ, ◌*◌, ◌<◌, ◌≤◌, min}
use mathlib.Core.Path.{◌≡◌, refl, sym, ap, ap₂, ◌∙◌}
use mathlib.Core.Bool.{Bool, false}
use mathlib.Core.List.{List, [], ◌∷◌, map}
use native.Mathlib.Omega.{arith}
use lib.Dec.{eqb}
use lib.ListN.{length, get_or, take, length-map}
use lib.Seq.{take_at}
use Rattle.lists.proofs.Bools.{false_unless_true}
use Rattle.lists.proofs.Each.{length_each_below, length_each_of, length_only_if}
use Rattle.lists.proofs.Over.{over_appended}
use Rattle.table.specs.Table.{marks, joins}
use Rattle.table.specs.Image.{Whole}
use Rattle.table.specs.Rules.{MeetsRules}
use Rattle.gathering.specs.Pairs.{code_of, own_task, pair_counted, tasks_in, pairs_with, pairs_below}
use Rattle.gathering.specs.Counters.{counter_of, counter_from}
use Rattle.gathering.specs.Stored.{Stored}
use Rattle.gathering.proofs.Codes.{counter_at_zero}
use Rattle.gathering.proofs.Walk.{all_writers}
use Rattle.counting.specs.Counting.{joined_of, pairs_in, Counting}
use Rattle.counting.proofs.OfTable.{joined_joins, joined_known}

-- two that do the same with each
map_each : (f g : ℕ → ℕ) → ((x : ℕ) → f x ≡ g x) → (xs : List ℕ) → map f xs ≡ map g xs
map_each f g same [] = refl
map_each f g same (x ∷ xs) = ap₂ ◌∷◌ (same x) (map_each f g same xs)

-- no task past those of a table writes a label
unjoined : (whole : Whole) → MeetsRules whole → (w r : ℕ) → whole.table.tasks ≤ w → w < 32
    → marks (get_or (joined_of whole.table) w 0) r ≡ false
unjoined whole rules w r past known =
    joined_joins whole rules w r known
    ∙ false_unless_true (joins whole.table w r) (λ joined.
    absurd (omega (arith, (joined_known whole rules w r joined).0)))

module _ (kind : Bool) (core : ℕ) where
  -- there are at most 32 pairs of each writer
  few_tasks : (mask : ℕ) → length (tasks_in mask) ≤ 1 * 32
  unfolding tasks_in
  few_tasks mask = length_each_below 1 32 _ (λ r known. length_only_if (marks mask r) r)

  one_pair : (cores : List ℕ) (w r : ℕ) → length (pair_counted kind core cores w r) ≤ 1
  unfolding pair_counted
  one_pair cores w r = length_only_if (eqb (get_or cores (own_task kind w r) 0) core) (code_of w r)

  few_pairs : (cores joined : List ℕ) (writers : ℕ) → length (pairs_below kind core cores joined writers) ≤ 32 * writers
  unfolding pairs_with
  few_pairs cores joined writers =
      length_each_below 32 writers _ (λ w known.
      let tasks = tasks_in (get_or joined w 0) in
      omega (
        arith,
        length_each_of 1 tasks (pair_counted kind core cores w) (one_pair cores w),
        few_tasks (get_or joined w 0),
      ))

  module _ (cores joined : List ℕ) (tasks : ℕ) {held array : List ℕ} {count : ℕ}
      (stored : Stored (counter_of 0) (pairs_below kind core cores joined (min tasks 32)) held count array)
    where
      -- no more than there can be
      pub count_few : count ≤ 1024
      count_few = omega (arith, stored.many, few_pairs cores joined (min tasks 32))

      -- those of a table with these arrays
      module _ (whole : Whole) (rules : MeetsRules whole) (tasks_same : tasks ≡ whole.table.tasks)
          (cores_same : cores ≡ whole.table.core) (joined_same : joined ≡ joined_of whole.table)
        where
          pairs_same : pairs_below kind core cores joined (min tasks 32) ≡ pairs_in kind whole.table core
          pairs_same =
              let few = rules.tasks.1 in
              let all : min tasks 32 ≡ whole.table.tasks = omega arith in
              rw (all, cores_same, joined_same)
              (all_writers kind core whole.table.core (joined_of whole.table) whole.table.tasks (omega arith)
              (unjoined whole rules))

          pub count_is : count ≡ length (pairs_in kind whole.table core)
          count_is = stored.many ∙ ap length pairs_same

          -- where there is room for them
          pub counting_starts : count ≤ length held → Counting kind whole.table core 0 (take count array)
          counting_starts room =
              let pairs = pairs_below kind core cores joined (min tasks 32) in
              let long = length-map pairs (counter_of 0) in
              ap (take count) (stored.holds ∙ over_appended _ held (omega (arith, long, stored.many)))
              ∙ take_at _ _ count (long ∙ sym stored.many)
              ∙ map_each (counter_of 0) (counter_from kind whole.table.period 0)
              (λ pair. sym (counter_at_zero kind whole.table.period pair)) pairs
              ∙ ap (map (counter_from kind whole.table.period 0)) pairs_same
