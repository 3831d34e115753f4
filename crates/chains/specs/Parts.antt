-- What the parts of the chains answer, in document 01's numbers. No contract of a question cites this file. Assumes
-- nothing.
use Rattle.std.specs.Prelude.{ℕ, ◌+◌, ◌*◌, ◌≤◌, ◌≡◌, List, map, length, Result, IfOk}
use Rattle.lists.specs.Lists.{padded, over}
use Rattle.taking.specs.Reading.{in_row}
use Rattle.fields.specs.TakenTo.{taken_as}
use Rattle.table.specs.Table.{Rows}
use Rattle.table.specs.Image.{chain_fields}
use Rattle.table.specs.declared.Refused.{Refused}
use Rattle.table.specs.declared.Table.{Table}
use Rattle.chains.specs.declared.parts.Chain.{Chain}

-- a chain holds these task numbers: their length; and the row
pub record HoldsSteps (steps : List ℕ) (chain : Chain) : Type 0 where
  pub long : chain.length ≡ length steps
  pub few : chain.length ≤ 8
  pub held : chain.row ≡ padded 8 0 steps

-- a chain from bit `at` on, with the bit after it, or the refusal's number and place; its length and its row
pub record ChainTaken (image : List ℕ) (at : ℕ) (table : Table) (next : ℕ) (r : Result Chain Refused) : Type 0 where
  pub steps : List ℕ
  pub said : taken_as (λ chain. steps) next r ≡ chain_fields table image at
  pub holds : IfOk r (HoldsSteps steps)

-- the chains from bit `at` on, with the bit after them, or the refusal's number and place; the array holds their
-- lengths and the rows their task numbers, over what they held
pub record ChainsTaken (image : List ℕ) (at : ℕ) (table : Table) (count next : ℕ) (r : Result (Unit {0}) Refused)
    (lengths : List ℕ) (rows₀ rows : Rows) : Type 0 where
  pub values : List (List ℕ)
  pub said : taken_as (λ done. values) next r ≡ in_row count (λ before. chain_fields table) image at
  pub near : IfOk r (λ done. next ≤ at + 44 * count)
  pub lengths_held : lengths ≡ over (map (λ chain. length chain) values) table.length
  pub held : rows ≡ over (map (λ chain. padded 8 0 chain) values) rows₀

-- a table with other lengths of its chains
abbrev pub lengthened : Table → List ℕ → Table
lengthened table lengths = record {
  cores = table.cores;
  tasks = table.tasks;
  labels = table.labels;
  chains = table.chains;
  core = table.core;
  period = table.period;
  writer = table.writer;
  readers = table.readers;
  length = lengths;
}
