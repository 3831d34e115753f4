-- Document 01, Four errors that come easily: each as a wrong way to copy, beside the listed copies. No theorem but the
-- controls speaks of these. Assumes nothing.
use Rattle.std.specs.Prelude.{ℕ, zero, suc, ◌*◌, ◌%◌, not, ◌&&◌, List, eqb}
use Rattle.lists.specs.Lists.{some_below}
use Rattle.times.specs.Releases.{Timing, floor}
use Rattle.times.specs.Points.{larger, publishes_at}
use Rattle.table.specs.Table.{timing_of, writer_of, reads, hyperperiod_of}
use Rattle.table.specs.declared.Table.{Table}
use Rattle.copies.specs.Copies.{written, served}
use Rattle.copies.specs.Plans.{Plan}
use Rattle.runs.specs.Runs.{Turns, ValueRead, State, at_start, after_writes, after_reads, after_acts}

-- "Taking the reading point by floor, so that a fast reader is served before the writer has published."
unfoldable pub reading_by_floor : Timing → Timing → ℕ → ℕ
reading_by_floor writer reader n = floor (n * larger writer reader) reader.period * reader.period

unfoldable pub served_by_floor : Table → Plan
served_by_floor table = record {
  writes = λ l t. written table l t;
  serves = λ l r t. reads table l r
      && some_below (suc (t % hyperperiod_of table))
      (λ n. eqb (reading_by_floor (timing_of table (writer_of table l)) (timing_of table r) n) (t % hyperperiod_of table));
}

-- "Publishing for one reader only, where a label has two readers with different periods."
unfoldable pub published_for_one : (only : ℕ) → Table → Plan
published_for_one only table = record {
  writes = λ l t. reads table l only
      && publishes_at (hyperperiod_of table) (timing_of table (writer_of table l)) (timing_of table only) t;
  serves = λ l r t. served table l r t;
}

-- "Reading before writing at an instant that both tasks share."
unfoldable pub state_after_reading_first : {Value : Type 0} → Plan → (initial : ℕ → Value) → Turns Value → ℕ → State Value
state_after_reading_first plan initial turns zero = at_start initial
state_after_reading_first plan initial turns (suc t) =
    after_acts turns t (after_writes plan t (after_reads plan t (state_after_reading_first plan initial turns t)))

unfoldable pub values_reading_first : {Value : Type 0}
    → Plan → (initial : ℕ → Value) → Turns Value → ℕ → List (ValueRead Value)
values_reading_first plan initial turns n = (state_after_reading_first plan initial turns n).jobs.read

-- "Leaving instant 0 out because nothing has been written yet: in the second round it carries the last jobs' values."
unfoldable pub without_instant0 : Table → Plan
without_instant0 table = record {
  writes = λ l t. written table l t && not (eqb (t % hyperperiod_of table) 0);
  serves = λ l r t. served table l r t && not (eqb (t % hyperperiod_of table) 0);
}
