-- What reading all fields of an image answers, in document 01's numbers. No contract of a question cites this file. Assumes
-- nothing.
use Rattle.std.specs.Prelude.{ℕ, ◌≡◌, List, [], replicate, Result}
use Rattle.table.specs.Table.{Rows}
use Rattle.table.specs.Image.{rows_of, all_fields}
use Rattle.table.specs.declared.Refused.{Refused}
use Rattle.table.specs.declared.Table.{Table}
use Rattle.fields.specs.TakenTo.{taken_as}

-- arrays and rows that hold nothing: all their entries are 0, whatever the counts beside them
pub record HoldNothing (table : Table) (rows : Rows) : Type 0 where
  pub no_core : table.core ≡ replicate 32 0
  pub no_period : table.period ≡ replicate 32 0
  pub no_writer : table.writer ≡ replicate 64 0
  pub no_readers : table.readers ≡ replicate 64 0
  pub no_length : table.length ≡ replicate 16 0
  pub no_rows : rows ≡ rows_of []

-- all fields and the fill: the table and the rows, with the bit after them, or the image's refusal
pub record FieldsRead (image : List ℕ) (r : Result (Unit {0}) Refused) (table : Table) (rows : Rows) : Type 0 where
  pub next : ℕ
  pub said : taken_as (λ done. record { table = table; rows = rows }) next r ≡ all_fields image 0
