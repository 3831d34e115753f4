-- The counters that were gathered are ready at tick 0. No contract cites this file. Assumes nothing.
use Prim.Native.Nat.{ℕ, ◌≤◌}
use mathlib.Core.Bool.{true, false}
use mathlib.Core.Path.{◌≡◌, refl, ap, ◌∙◌}
use mathlib.Core.List.{List}
use native.Mathlib.Omega.{arith}
use lib.ListN.{length, take, length-map}
use lib.Seq.{take_all}
use Rattle.lists.proofs.Over.{length_over}
use Rattle.table.specs.Image.{Whole}
use Rattle.table.specs.declared.Table.{Table}
use Rattle.counting.specs.Counting.{joined_of, pairs_in}
use Rattle.counting.proofs.Start.{count_is, counting_starts}
use Rattle.frames.specs.Counts.{Right}
use Rattle.frames.specs.Ready.{Ready, StoredBoth}
use Rattle.frames.specs.declared.Both.{Both}

module _ {table : Table} {core : ℕ} {joined publishing₀ reading₀ publishing reading : List ℕ} {both : Both}
    (gathered : StoredBoth table core joined publishing₀ reading₀ both publishing reading)
  where
    -- the arrays are as long as they were
    pub long_publishing : length publishing ≡ length publishing₀
    long_publishing = ap length gathered.published.holds ∙ length_over _ publishing₀

    pub long_reading : length reading ≡ length reading₀
    long_reading = ap length gathered.read.holds ∙ length_over _ reading₀

    module _ (right : Right table) (from : joined ≡ joined_of table) where
      abbrev whole : Whole
      whole = record { table = table; rows = right.rows }

      -- the parts that were filled, where there is room
      module _ (first : both.publishing ≤ length publishing₀) (second : both.reading ≤ length reading₀) where
        pub ready_parts : Ready table core 0 (take both.publishing publishing) (take both.reading reading)
        ready_parts = record {
          publishing_counts = counting_starts false core table.core joined table.tasks gathered.published whole right.meets
              refl refl from first;
          reading_counts = counting_starts true core table.core joined table.tasks gathered.read whole right.meets
              refl refl from second;
        }

      -- all that was lent, where counters that were ready had as much room
      pub ready_again : {publishing₁ reading₁ : List ℕ} → Ready table core 0 publishing₁ reading₁
          → length publishing₀ ≡ length publishing₁ → length reading₀ ≡ length reading₁
          → Ready table core 0 publishing reading
      ready_again ready first second =
          let of_publishing = count_is false core table.core joined table.tasks gathered.published whole right.meets
          refl refl from in
          let of_reading = count_is true core table.core joined table.tasks gathered.read whole right.meets
          refl refl from in
          let many_publishing = ap length ready.publishing_counts ∙ length-map (pairs_in false table core) _ in
          let many_reading = ap length ready.reading_counts ∙ length-map (pairs_in true table core) _ in
          rw (
            take_all both.publishing publishing (omega (arith, long_publishing)),
            take_all both.reading reading (omega (arith, long_reading)),
          ) at (ready_parts (omega arith) (omega arith))
