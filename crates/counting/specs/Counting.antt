-- The counters of a core of a table, at a tick: one for each pair of communicating tasks whose own task is on the core,
-- with its first point at or after the tick. No contract of a question cites this file. Assumes nothing.
use Rattle.std.specs.Prelude.{ℕ, Bool, cond, List, ◌≡◌}
use Rattle.times.specs.Releases.{Timing}
use Rattle.times.specs.Points.{publishes_at, serves_at}
use Rattle.table.specs.declared.Table.{Table}
use Rattle.gathering.specs.Pairs.{joined_masks, pairs_of}
use Rattle.gathering.specs.Counters.{counters_from}

-- t, modulo the round H, is a publishing point or a reading point of the pair
unfoldable pub point_at : (reads : Bool) → (H : ℕ) → (writer reader : Timing) → ℕ → Bool
point_at reads H writer reader t = cond reads (serves_at H writer reader t) (publishes_at H writer reader t)

-- of each task of a table the readers of the labels that it writes
abbrev pub joined_of : Table → List ℕ
joined_of table = joined_masks table.labels table.writer table.readers

-- the pairs of a table that a core counts
abbrev pub pairs_in : (reads : Bool) → Table → (core : ℕ) → List ℕ
pairs_in reads table core = pairs_of reads core table.core (joined_of table)

-- these are the counters of a core of a table at tick t
abbrev pub Counting : (reads : Bool) → Table → (core t : ℕ) → (counters : List ℕ) → Type 0
Counting reads table core t counters =
    counters ≡ counters_from reads core table.core table.period (joined_of table) t
