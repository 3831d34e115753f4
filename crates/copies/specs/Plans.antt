-- At which ticks a label is written and a reader of it is served: by the listed copies, round after round, and by full
-- copying. Document 01, Copies and frames: "Full copying, which demand 3 compares with, writes each label at every
-- release of its writer, serves each reader at every release of that reader, and copies at no other time." Assumes
-- nothing.
use Rattle.std.specs.Prelude.{ℕ, Bool, ◌&&◌, ltb}
use Rattle.times.specs.Releases.{is_release}
use Rattle.table.specs.Table.{timing_of, writer_of, reads}
use Rattle.table.specs.declared.Table.{Table}
use Rattle.copies.specs.Copies.{written, served}

-- whether a label is written at a tick, and whether a reader of it is served at a tick
pub record Plan : Type 0 where
  pub writes : (label tick : ℕ) → Bool
  pub serves : (label reader tick : ℕ) → Bool

-- the listed copies
unfoldable pub listed_plan : Table → Plan
listed_plan table = record { writes = λ l t. written table l t; serves = λ l r t. served table l r t }

-- full copying
unfoldable pub full_plan : Table → Plan
full_plan table = record {
  writes = λ l t. ltb l table.labels && is_release (timing_of table (writer_of table l)) t;
  serves = λ l r t. reads table l r && is_release (timing_of table r) t;
}
