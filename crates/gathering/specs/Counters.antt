-- The counters. Document 003: "two counters for each pair of communicating tasks: one for write operations, and one for
-- read operations. Such counters can be used to identify the time instants in which the LET communications for a pair
-- of tasks must be performed." A counter is one number: the tick of its pair's next point, and the pair, in ten bits.
-- Ticks go up to 2^22 - 1, which no point in a round of an accepted table reaches. Assumes nothing.
use Rattle.std.specs.Prelude.{ℕ, ◌+◌, ◌*◌, ◌/◌, ◌%◌, min, Bool, cond, List, map, get_or}
use Rattle.times.specs.Releases.{Timing, every}
use Rattle.next_points.specs.Next.{next_publishing, next_reading}
use Rattle.gathering.specs.Pairs.{pairs_of}

-- the last tick that a counter can have
abbrev pub last_tick : ℕ
last_tick = 4194303

-- the counter of a pair with its next point; the pair is said by its number, or by another counter of it
unfoldable pub counter_of : (point pair : ℕ) → ℕ
counter_of point pair = min point last_tick * 1024 + pair % 1024

-- the tick of a counter, and the writer and the reader of its pair
abbrev pub tick_in : ℕ → ℕ
tick_in counter = counter / 1024

abbrev pub writer_in : ℕ → ℕ
writer_in counter = counter / 32 % 32

abbrev pub reader_in : ℕ → ℕ
reader_in counter = counter % 32

-- what fixes the releases of task i, by the periods of all tasks
abbrev pub timing_in : List ℕ → ℕ → Timing
timing_in periods i = every (get_or periods i 0)

-- the first point of a pair at or after t: a publishing point or a reading point
unfoldable pub point_from : (reads : Bool) → (writer reader : Timing) → ℕ → ℕ
point_from reads writer reader t = cond reads (next_reading writer reader t) (next_publishing writer reader t)

-- the counter of a pair whose next point is its first at or after t
unfoldable pub counter_from : (reads : Bool) → (periods : List ℕ) → (t pair : ℕ) → ℕ
counter_from reads periods t pair =
    counter_of (point_from reads (timing_in periods (writer_in pair)) (timing_in periods (reader_in pair)) t) pair

-- the counters of a core at t
abbrev pub counters_from : (reads : Bool) → (core : ℕ) → (cores periods joined : List ℕ) → (t : ℕ) → List ℕ
counters_from reads core cores periods joined t = map (counter_from reads periods t) (pairs_of reads core cores joined)
