-- The pairs of communicating tasks that a core counts. Document 01, Copies and frames: "label l is written at t when t,
-- modulo H, is a publishing point of its writer with at least one of its readers"; "The write belongs to the writer's
-- core, the read to the reader's." The tasks that read from a writer stand in a mask like a readers field: its most
-- significant bit stands for task 0. Assumes nothing.
use Rattle.std.specs.Prelude.{ℕ, zero, suc, ◌+◌, ◌*◌, min, Bool, cond, List, eqb, get_or, set, replicate}
use Rattle.std.specs.Int.Bits.{bit_or}
use Rattle.lists.specs.Lists.{each_below, each_of, only_if}
use Rattle.table.specs.Table.{marks}
use Rattle.instants.specs.Due.{writer_due}

-- the masks, that of task w with the tasks of one more
unfoldable pub with_mask : (masks : List ℕ) → (w mask : ℕ) → List ℕ
with_mask masks w mask = set masks w (bit_or (get_or masks w 0) mask)

-- of each task the readers of those of the first labels that it writes
unfoldable pub joined_below : (writer readers : List ℕ) → (labels : ℕ) → List ℕ
joined_below writer readers zero = replicate 32 0
joined_below writer readers (suc l) = with_mask (joined_below writer readers l) (writer_due writer l) (get_or readers l 0)

-- of each task the readers of the labels that it writes; labels are below 64
unfoldable pub joined_masks : (labels : ℕ) → (writer readers : List ℕ) → List ℕ
joined_masks labels writer readers = joined_below writer readers (min labels 64)

-- the number of a pair
abbrev pub code_of : (w r : ℕ) → ℕ
code_of w r = w * 32 + r

-- the task to whose core a point belongs: the writer for a publishing point, the reader for a reading point
abbrev pub own_task : (reads : Bool) → (w r : ℕ) → ℕ
own_task reads w r = cond reads r w

-- a pair, where its own task is on the core
unfoldable pub pair_counted : (reads : Bool) → (core : ℕ) → (cores : List ℕ) → (w r : ℕ) → List ℕ
pair_counted reads core cores w r = only_if (eqb (get_or cores (own_task reads w r) 0) core) (code_of w r)

-- the tasks that a mask marks, by rising number
unfoldable pub tasks_in : ℕ → List ℕ
tasks_in mask = each_below 32 (λ r. only_if (marks mask r) r)

-- the pairs of one writer with the tasks of a mask
unfoldable pub pairs_with : (reads : Bool) → (core : ℕ) → (cores : List ℕ) → (w mask : ℕ) → List ℕ
pairs_with reads core cores w mask = each_of (tasks_in mask) (pair_counted reads core cores w)

-- the pairs that a core counts, of the first writers: by rising writer and, within a writer, rising reader
abbrev pub pairs_below : (reads : Bool) → (core : ℕ) → (cores joined : List ℕ) → (writers : ℕ) → List ℕ
pairs_below reads core cores joined writers = each_below writers (λ w. pairs_with reads core cores w (get_or joined w 0))

-- the pairs that a core counts
unfoldable pub pairs_of : (reads : Bool) → (core : ℕ) → (cores joined : List ℕ) → List ℕ
pairs_of reads core cores joined = pairs_below reads core cores joined 32
