-- What a reader of an image into a lent table answers. No contract of a question cites this file. Assumes nothing.
use Rattle.std.specs.Prelude.{ℕ, ◌≡◌, List, replicate, Result}
use Rattle.table.specs.Table.{Rows}
use Rattle.table.specs.Shown.{shown_of}
use Rattle.table.specs.declared.Refused.{Refused}
use Rattle.table.specs.declared.Table.{Table}
use Rattle.body.specs.Parts.{head_in}
use Rattle.images.specs.Parts.{WholeRead}

-- arrays of tasks and labels that hold nothing
pub record NoArrays (table : Table) : Type 0 where
  pub no_core : table.core ≡ replicate 32 0
  pub no_period : table.period ≡ replicate 32 0
  pub no_writer : table.writer ≡ replicate 64 0
  pub no_readers : table.readers ≡ replicate 64 0

-- the image's answer with its hyperperiod; where it is accepted its table, beside the rows of its chains; and the counts
-- that it shows, which of a refused one are 0
pub record ArraysShown (image : List ℕ) (r : Result ℕ Refused) (table : Table) : Type 0 where
  pub rows : Rows
  pub whole : WholeRead image r table rows
  pub counts : head_in table ≡ head_in (shown_of image).table
