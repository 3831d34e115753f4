-- The table of an accepted image, by what reading it answered, is right, and a question asked of the image is asked of it;
-- of a refused image the refusal is handed on. No contract cites this file. Assumes nothing.
use Prim.Native.Nat.{ℕ}
use mathlib.Core.List.{List}
use mathlib.Core.Path.{◌≡◌, sym}
use Rattle.std.specs.Prelude.{Result, Ok, Err}
use Rattle.outcomes.specs.Outcome.{Outcome, gives, refuses, asked_of}
use Rattle.table.specs.Refusals.{number_of}
use Rattle.table.specs.declared.Refused.{Refused}
use Rattle.table.specs.Image.{Whole, read_image}
use Rattle.table.specs.Table.{Rows}
use Rattle.table.specs.declared.Table.{Table}
use Rattle.table.proofs.Accepted.{accepted_sound}
use Rattle.table.proofs.MeetsRules.{accepted_meets_rules}
use Rattle.images.specs.Parts.{WholeRead}
use Rattle.frames.specs.Counts.{RightRound}

module _ (image : List ℕ) {round : ℕ} {table : Table} {rows : Rows} (whole : WholeRead image (Ok round) table rows) where
  accepted : read_image image ≡ gives (record { table = table; rows = rows })
  accepted = sym whole.said

  pub accepted_right : RightRound table round
  accepted_right = record {
    right = record {
      rows = rows;
      meets = accepted_meets_rules image _ accepted;
      sound = accepted_sound image _ accepted;
    };
    is = whole.round;
  }

  -- a question asked of the image is asked of the table and the rows
  pub accepted_asked : {A : Type 0} (question : Whole → Outcome A)
      → asked_of (read_image image) question ≡ question (record { table = table; rows = rows })
  accepted_asked question = rw accepted

-- a refused image
pub refused_asked : (image : List ℕ) {r : Result ℕ Refused} {table : Table} {rows : Rows} → WholeRead image r table rows
    → {refused : Refused} → r ≡ Err refused → {A : Type 0} (question : Whole → Outcome A)
    → asked_of (read_image image) question ≡ refuses (number_of refused.refusal) refused.place
refused_asked image {table = table} {rows = rows} whole told question = rw (← whole.said, told)
