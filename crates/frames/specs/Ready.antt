-- The counters of a core, ready at a tick. No contract of a question cites this file. Assumes nothing.
use Rattle.std.specs.Prelude.{ℕ, ◌≤◌, min, true, false, List}
use Rattle.table.specs.declared.Table.{Table}
use Rattle.label_masks.specs.LabelMasks.{WrittenLabels, ReadLabels}
use Rattle.label_masks.specs.declared.LabelMasks.{LabelMasks}
use Rattle.gathering.specs.Counters.{counter_of}
use Rattle.gathering.specs.Pairs.{pairs_below}
use Rattle.gathering.specs.Stored.{Stored}
use Rattle.counting.specs.Counting.{Counting}
use Rattle.frames.specs.declared.Both.{Both}

-- publishing counters and reading counters, each at its first point at or after tick t
pub record Ready (table : Table) (core t : ℕ) (publishing reading : List ℕ) : Type 0 where
  pub publishing_counts : Counting false table core t publishing
  pub reading_counts : Counting true table core t reading

-- the labels that each task of a table writes and reads
pub record MasksOf (table : Table) (masks : LabelMasks) : Type 0 where
  pub of_writers : WrittenLabels table.labels table.writer masks.written
  pub of_readers : ReadLabels table.labels table.tasks table.readers masks.read

-- the counters of the pairs of a core, at tick 0, were stored over what two arrays held, as far as these go; a core has no
-- more of a kind than there are pairs of tasks
pub record StoredBoth (table : Table) (core : ℕ) (joined publishing₀ reading₀ : List ℕ) (r : Both)
    (publishing reading : List ℕ) : Type 0 where
  pub published : Stored (counter_of 0) (pairs_below false core table.core joined (min table.tasks 32)) publishing₀
      r.publishing publishing
  pub read : Stored (counter_of 0) (pairs_below true core table.core joined (min table.tasks 32)) reading₀ r.reading
      reading
  pub few_publishing : r.publishing ≤ 1024
  pub few_reading : r.reading ≤ 1024
