-- What is due at an instant, by the counters, and the counters after it. Document 003: "Such code sections are executed
-- when the corresponding counter reaches zero, where the latter is re-initialized to the next value"; here a counter
-- holds the tick of its next point. No contract of a question cites this file. Assumes nothing.
use Rattle.std.specs.Prelude.{ℕ, ◌+◌, ◌/◌, ◌^◌, min, Bool, cond, List, [], ◌∷◌, map, eqb, get_or, replicate}
use Rattle.std.specs.Int.Bits.{bit_and, bit_or}
use Rattle.std.specs.Int.Count.{ones}
use Rattle.times.specs.Releases.{Timing}
use Rattle.next_points.specs.Next.{publishing_after, reading_after}
use Rattle.gathering.specs.Pairs.{with_mask}
use Rattle.gathering.specs.Counters.{counter_of, tick_in, writer_in, reader_in, timing_in}

-- the point of a pair after a point: a publishing point or a reading point
unfoldable pub point_after : (reads : Bool) → (writer reader : Timing) → ℕ → ℕ
point_after reads writer reader t = cond reads (reading_after writer reader t) (publishing_after writer reader t)

-- a counter that went on to the point after its own
unfoldable pub gone_on : (reads : Bool) → (periods : List ℕ) → ℕ → ℕ
gone_on reads periods counter =
    let writer = timing_in periods (writer_in counter) in
    let reader = timing_in periods (reader_in counter) in
    counter_of (point_after reads writer reader (tick_in counter)) counter

-- a counter after tick t: one whose point t is goes on
unfoldable pub stepped : (reads : Bool) → (periods : List ℕ) → (t counter : ℕ) → ℕ
stepped reads periods t counter = cond (eqb (tick_in counter) t) (gone_on reads periods counter) counter

-- the masks with the reader of one more counter, for its writer, where its point is t
unfoldable pub with_one : (t : ℕ) → (masks : List ℕ) → ℕ → List ℕ
with_one t masks counter =
    cond (eqb (tick_in counter) t) (with_mask masks (writer_in counter) (2147483648 / 2 ^ reader_in counter)) masks

-- the labels that go from the writer of a counter's pair to its reader, by the labels that each task writes and reads
unfoldable pub common_labels : (written read : List ℕ) → ℕ → ℕ
common_labels written read counter = bit_and (get_or written (writer_in counter) 0) (get_or read (reader_in counter) 0)

-- a mask of labels with those of one more counter, where its point is t
unfoldable pub with_labels : (t : ℕ) → (written read : List ℕ) → (labels counter : ℕ) → ℕ
with_labels t written read labels counter =
    cond (eqb (tick_in counter) t) (bit_or labels (common_labels written read counter)) labels

-- how many labels counters have, with those of one more counter, where its point is t
unfoldable pub with_count : (t : ℕ) → (written read : List ℕ) → (count counter : ℕ) → ℕ
with_count t written read count counter =
    cond (eqb (tick_in counter) t) (count + ones (common_labels written read counter)) count

-- one counter after the other
unfoldable pub folded : {S : Type 0} → (S → ℕ → S) → S → List ℕ → S
folded with_one_lem state [] = state
folded with_one_lem state (counter ∷ counters) = folded with_one_lem (with_one_lem state counter) counters

-- of each writer the readers of the counters whose point is t, as masks; their labels; and how many labels each has, added
-- up
abbrev pub masks_due : (t : ℕ) → List ℕ → List ℕ
masks_due t counters = folded (with_one t) (replicate 32 0) counters

abbrev pub labels_due : (t : ℕ) → (written read : List ℕ) → List ℕ → ℕ
labels_due t written read counters = folded (with_labels t written read) 0 counters

abbrev pub count_due : (t : ℕ) → (written read : List ℕ) → List ℕ → ℕ
count_due t written read counters = folded (with_count t written read) 0 counters

-- the least of some counters and one more number
unfoldable pub least_of : ℕ → List ℕ → ℕ
least_of least [] = least
least_of least (counter ∷ counters) = least_of (min least counter) counters

-- the next tick at which a counter is due; the last one where there is no counter
unfoldable pub next_due : (reads : Bool) → (periods : List ℕ) → (t : ℕ) → List ℕ → ℕ
next_due reads periods t counters = tick_in (least_of 4294967295 (map (stepped reads periods t) counters))
