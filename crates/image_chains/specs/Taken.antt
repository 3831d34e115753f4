-- What is taken of one chain of a table. No contract of a question cites this file. Assumes nothing.
use Rattle.std.specs.Prelude.{ℕ, ◌<◌, ◌≡◌, List, length, get_or}
use Rattle.lists.specs.Lists.{over}
use Rattle.table.specs.Rules.{MeetsRules}
use Rattle.table.specs.Table.{Rows, chain_of}
use Rattle.table.specs.Image.{Whole}
use Rattle.table.specs.declared.Table.{Table}
use Rattle.image_chains.specs.PeriodsShown.{periods_in}

-- a table that meets the rules, with the rows of its chains; it tells how long each chain is
pub record RightRows (table : Table) (rows : Rows) : Type 0 where
  pub meets : MeetsRules (record { table = table; rows = rows })
  pub long : (k : ℕ) → k < table.chains → get_or table.length k 0 ≡ length (chain_of table rows k)

-- how many tasks the chain has, and their periods over the first entries that were lent
pub record PeriodsTaken (whole : Whole) (k count : ℕ) (held left : List ℕ) : Type 0 where
  pub count_is : count ≡ length (periods_in whole k)
  pub periods : left ≡ over (periods_in whole k) held
