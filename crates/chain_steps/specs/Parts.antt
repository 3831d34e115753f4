-- What reading the steps of a chain answers, in document 01's numbers. No contract of a question cites this file. Assumes
-- nothing.
use Rattle.std.specs.Prelude.{ℕ, ◌+◌, ◌*◌, ◌≡◌, List, Result, IfOk}
use Rattle.lists.specs.Lists.{padded}
use Rattle.taking.specs.Reading.{field, in_row}
use Rattle.fields.specs.TakenTo.{taken_as}
use Rattle.table.specs.Image.{chain_task}
use Rattle.table.specs.declared.Refused.{Refused}
use Rattle.table.specs.declared.Table.{Table}

-- a chain's task numbers from bit `at` on, with the bit after them, or the refusal's number and place; the row holds
-- those that were taken, and then 0
pub record StepsTaken (image : List ℕ) (at : ℕ) (table : Table) (count : ℕ) (r : Result (List ℕ) Refused) : Type 0 where
  pub steps : List ℕ
  pub said : taken_as (λ row. steps) (at + 5 * count) r
      ≡ in_row count (λ before. field 5 8 (chain_task table before)) image at
  pub held : IfOk r (λ row. row ≡ padded 8 0 steps)
