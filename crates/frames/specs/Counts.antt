-- What is counted of a core's frames, and of which tables it is said. No contract of a question cites this file. Assumes
-- nothing.
use Rattle.std.specs.Prelude.{ℕ, ◌≡◌, List, length}
use Rattle.lists.specs.Lists.{each_of}
use Rattle.table.specs.Table.{Rows, hyperperiod_of}
use Rattle.table.specs.Rules.{MeetsRules}
use Rattle.table.specs.declared.Table.{Table}
use Rattle.table.proofs.Sound.{Sound}
use Rattle.copies.specs.Copies.{Frame, frames_of}
use Rattle.frames.specs.declared.Measured.{Measured}

-- a table that meets the rules, with the rows of some chains, and holds no reader past its labels
pub record Right (table : Table) : Type 0 where
  pub rows : Rows
  pub meets : MeetsRules (record { table = table; rows = rows })
  pub sound : Sound table

-- a right table, and its round
pub record RightRound (table : Table) (round : ℕ) : Type 0 where
  pub right : Right table
  pub is : round ≡ hyperperiod_of table

-- how many frames there are, and how many copies in all of them
pub record Counts (frames : List Frame) (r : Measured) : Type 0 where
  pub many : r.frames ≡ length frames
  pub copies : r.copies ≡ length (each_of frames (λ frame. frame.copies))

-- the frames of a core were counted
abbrev pub CountsFrames : Table → ℕ → Measured → Type 0
CountsFrames table core r = Counts (frames_of table core) r
