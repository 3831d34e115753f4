-- What the parts of the reader answer, in document 01's numbers. The reader's own contract does not cite this file.
-- Assumes nothing.
use Rattle.std.specs.Prelude.{ℕ, ◌≡◌, List, Result, IfOk}
use Rattle.outcomes.specs.Outcome.{gives, asked_of}
use Rattle.table.specs.Refusals.{said_of}
use Rattle.table.specs.Table.{Rows, hyperperiod_of}
use Rattle.table.specs.Image.{read_image}
use Rattle.table.specs.declared.Refused.{Refused}
use Rattle.table.specs.declared.Table.{Table}

-- the whole image: its table and rows, with its hyperperiod, or its refusal
pub record WholeRead (image : List ℕ) (r : Result ℕ Refused) (table : Table) (rows : Rows) : Type 0 where
  pub said : asked_of (said_of r) (λ round. gives (record { table = table; rows = rows })) ≡ read_image image
  pub round : IfOk r (λ round. round ≡ hyperperiod_of table)
