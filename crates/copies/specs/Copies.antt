-- Copies and frames. Document 01, Copies and frames: when a label is written, when a reader is served, and which
-- copies a core has at an instant, in their order. Assumes nothing.
use Rattle.std.specs.Prelude.{ℕ, Bool, ◌&&◌, List, [], ◌∷◌, ◌++◌, eqb}
use Rattle.lists.specs.Lists.{some_below, each_below, only_if}
use Rattle.times.specs.Points.{publishes_at, serves_at}
use Rattle.table.specs.Table.{core_of, timing_of, writer_of, reads, hyperperiod_of}
use Rattle.table.specs.declared.Table.{Table}

-- "label l is written at t when t, modulo H, is a publishing point of its writer with at least one of its readers"
unfoldable pub written : Table → ℕ → ℕ → Bool
written table l t =
    some_below table.tasks
    (λ r. reads table l r
    && publishes_at (hyperperiod_of table) (timing_of table (writer_of table l)) (timing_of table r) t)

-- "reader r of l is served at t when t, modulo H, is a reading point of that pair"
unfoldable pub served : Table → ℕ → ℕ → ℕ → Bool
served table l r t =
    reads table l r && serves_at (hyperperiod_of table) (timing_of table (writer_of table l)) (timing_of table r) t

-- a copy: "A write copies outgoing to shared; a read copies shared to one reader's incoming."
pub data Copy : Type 0 where
  write : (label writer : ℕ) → Copy
  read : (label reader : ℕ) → Copy

-- "The write belongs to the writer's core, the read to the reader's. The two may be the same core; the copies are still
-- listed.": the writes of a core at t, by rising label
unfoldable pub writes_at : Table → ℕ → ℕ → List Copy
writes_at table core t =
    each_below table.labels
    (λ l. only_if (eqb (core_of table (writer_of table l)) core && written table l t) (write l (writer_of table l)))

-- and the reads of a core at t, by rising label and, within a label, rising task
unfoldable pub reads_at : Table → ℕ → ℕ → List Copy
reads_at table core t =
    each_below table.labels
    (λ l. each_below table.tasks
    (λ r. only_if (eqb (core_of table r) core && served table l r t) (read l r)))

-- "Inside a frame come the writes by rising label, then the reads by rising label and, within a label, rising task."
unfoldable pub copies_at : Table → ℕ → ℕ → List Copy
copies_at table core t = writes_at table core t ++ reads_at table core t

-- "A frame is one instant at which a core has at least one copy."
pub record Frame : Type 0 where
  pub start : ℕ
  pub copies : List Copy

-- "Instants without one are not listed."
unfoldable pub frames_at : ℕ → List Copy → List Frame
frames_at t [] = []
frames_at t (copy ∷ more) = record { start = t; copies = copy ∷ more } ∷ []

-- the frames of a core, "within a round 0 to H−1", by rising time
unfoldable pub frames_of : Table → ℕ → List Frame
frames_of table core = each_below (hyperperiod_of table) (λ t. frames_at t (copies_at table core t))
