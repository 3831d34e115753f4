-- A copy's core plays no part in what jobs read: where tasks are moved to other cores of the table, the listings make
-- the same plan. Which core a copy belongs to is fixed by the listings alone. Assumes nothing.
use Prim.Native.Nat.{ℕ}
use mathlib.Core.Path.{◌≡◌, sym, ◌∙◌}
use mathlib.Core.List.{List}
use Rattle.outcomes.specs.Outcome.{gives}
use Rattle.table.specs.Image.{Whole, read_image}
use Rattle.table.specs.Table.{period_of, timing_of, writer_of, reads, hyperperiod_of}
use Rattle.table.specs.declared.Table.{Table}
use Rattle.table.proofs.Sound.{Sound}
use Rattle.table.proofs.Accepted.{accepted_sound}
use Rattle.copies.specs.Copies.{written, served}
use Rattle.copies.specs.Plans.{listed_plan}
use Rattle.runs.specs.FramePlan.{listings_plan}
use Rattle.runs.specs.Moved.{Moved}
use Rattle.runs.proofs.SamePlan.{same_plan}

module _ (table other : Table) (moved : Moved table other) where
  same_listed : listed_plan table ≡ listed_plan other
  unfolding listed_plan written served reads period_of timing_of writer_of hyperperiod_of
  same_listed = rw (moved.tasks, moved.period, moved.writer, moved.readers)

  pub same_listings_plan : Sound table → Sound other → listings_plan table ≡ listings_plan other
  same_listings_plan sound of_other = same_plan table sound ∙ same_listed ∙ sym (same_plan other of_other)

-- of two accepted tables
pub cores_play_no_part : (image image' : List ℕ) (whole other : Whole)
    → read_image image ≡ gives whole → read_image image' ≡ gives other
    → Moved whole.table other.table → listings_plan whole.table ≡ listings_plan other.table
cores_play_no_part image image' whole other accepted accepted' moved =
    same_listings_plan whole.table other.table moved
    (accepted_sound image whole accepted) (accepted_sound image' other accepted')
