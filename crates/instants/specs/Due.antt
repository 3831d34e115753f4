-- The copies of one instant, from two masks for each writer: of the readers for which it publishes at the instant, and
-- of those that are served from it. Document 01, Copies and frames: "Inside a frame come the writes by rising label,
-- then the reads by rising label and, within a label, rising task." Masks are readers fields: the most significant bit
-- stands for task 0. Tasks are below 32 and labels below 64, as in every accepted table. Assumes nothing.
use Rattle.std.specs.Prelude.{ℕ, ◌%◌, ◌<◌, min, Bool, ◌&&◌, List, [], ◌∷◌, ◌++◌, ◌≡◌, eqb, ltb, get_or}
use Rattle.lists.specs.Lists.{some_below, each_below, only_if}
use Rattle.masks.specs.Masks.{holds, each_held}
use Rattle.times.specs.Points.{publishes_at, serves_at}
use Rattle.table.specs.Table.{core_of, timing_of, marks, joins, hyperperiod_of}
use Rattle.table.specs.declared.Table.{Table}
use Rattle.copies.specs.Copies.{Copy, write, read}

-- task r is marked by both masks
abbrev pub in_both : (one other : ℕ) → ℕ → Bool
in_both one other r = marks one r && marks other r

-- the write of a label: its writer publishes for "at least one of its readers"
unfoldable pub write_due : (readers publishes : ℕ) → (label writer : ℕ) → List Copy
write_due readers publishes label writer = only_if (some_below 32 (in_both readers publishes)) (write label writer)

-- the reads of a label: those of its readers that are served, by rising task
unfoldable pub reads_due : (readers serves : ℕ) → (label : ℕ) → List Copy
reads_due readers serves label = each_below 32 (λ r. only_if (in_both readers serves r) (read label r))

-- the writer of a label, a task below 32
unfoldable pub writer_due : List ℕ → ℕ → ℕ
writer_due writer l = get_or writer l 0 % 32

-- the writes of the first labels, by rising label
unfoldable pub writes_due : (writer readers publishes : List ℕ) → (labels : ℕ) → List Copy
writes_due writer readers publishes labels =
    each_below labels
    (λ l. write_due (get_or readers l 0) (get_or publishes (writer_due writer l) 0) l (writer_due writer l))

-- the reads of the first labels, by rising label and, within a label, rising task
unfoldable pub all_reads_due : (writer readers serves : List ℕ) → (labels : ℕ) → List Copy
all_reads_due writer readers serves labels =
    each_below labels (λ l. reads_due (get_or readers l 0) (get_or serves (writer_due writer l) 0) l)

-- "the writes by rising label, then the reads"
unfoldable pub copies_due : (labels : ℕ) → (writer readers publishes serves : List ℕ) → List Copy
copies_due labels writer readers publishes serves =
    writes_due writer readers publishes (min labels 64) ++ all_reads_due writer readers serves (min labels 64)

-- the same by masks of labels: the writes of the labels of one mask, and the reads of those of another
unfoldable pub writes_in : (writer : List ℕ) → (written : ℕ) → List Copy
writes_in writer written = each_held 64 written (λ l. write l (writer_due writer l) ∷ [])

unfoldable pub reads_in : (writer readers serves : List ℕ) → (labels : ℕ) → List Copy
reads_in writer readers serves labels =
    each_held 64 labels (λ l. reads_due (get_or readers l 0) (get_or serves (writer_due writer l) 0) l)

-- label l is due by the masks of an instant: some of its readers is marked for its writer
unfoldable pub is_due : (writer readers masks : List ℕ) → (l : ℕ) → Bool
is_due writer readers masks l = some_below 32 (in_both (get_or readers l 0) (get_or masks (writer_due writer l) 0))

-- a mask of labels holds those of the first labels that are due
abbrev pub HoldsDue : (labels : ℕ) (writer readers masks : List ℕ) (held : ℕ) → Type 0
HoldsDue labels writer readers masks held =
    (l : ℕ) → l < 64 → holds 64 held l ≡ (ltb l labels && is_due writer readers masks l)

-- the masks of an instant and a core of a table: a writer's mask marks a task where a label goes from the one to the
-- other, the instant is a point of the pair and the copy belongs to the core
pub record Due (table : Table) (core t : ℕ) (publishes serves : List ℕ) : Type 0 where
  -- "The write belongs to the writer's core"
  pub publishing : (w r : ℕ) → w < 32 → r < 32 → marks (get_or publishes w 0) r
      ≡ (eqb (core_of table w) core && joins table w r
      && publishes_at (hyperperiod_of table) (timing_of table w) (timing_of table r) t)
  -- "the read to the reader's"
  pub serving : (w r : ℕ) → w < 32 → r < 32 → marks (get_or serves w 0) r
      ≡ (eqb (core_of table r) core && joins table w r
      && serves_at (hyperperiod_of table) (timing_of table w) (timing_of table r) t)
