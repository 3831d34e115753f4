-- The third demand: "Run an accepted table with only the listed copies, or copying every label at every release: every
-- job reads the same values, however long the run. Jobs are arbitrary: what they write may depend in any way on the
-- tick and on what their task has read." Assumes nothing.
use Prim.Native.Nat.{ℕ}
use mathlib.Core.Path.{◌≡◌, ap, ◌∙◌}
use mathlib.Core.List.{List}
use Rattle.outcomes.specs.Outcome.{gives}
use Rattle.table.specs.Image.{Whole, read_image}
use Rattle.copies.specs.Plans.{listed_plan, full_plan}
use Rattle.runs.specs.Runs.{Turns, values_read}
use Rattle.runs.specs.FramePlan.{listings_plan}
use Rattle.runs.proofs.SameReads.{same_values_read}
use Rattle.table.proofs.Accepted.{accepted_sound}
use Rattle.runs.proofs.CopiesSuffice.{listed_copies_suffice}
use Rattle.runs.proofs.SamePlan.{same_plan}

-- values of any type, any initial values, any turns, any number of ticks
pub no_job_can_tell : (image : List ℕ) (whole : Whole) → read_image image ≡ gives whole
    → (Value : Type 0) (initial : ℕ → Value) (turns : Turns Value) (n : ℕ)
    → values_read (listed_plan whole.table) initial turns n ≡ values_read (full_plan whole.table) initial turns n
no_job_can_tell image whole accepted Value =
    same_values_read (listed_plan whole.table) (full_plan whole.table)
    (listed_copies_suffice whole.table (accepted_sound image whole accepted))

-- the same where the listings themselves are carried out: of every core every frame, in every round
pub no_job_can_tell_by_listings : (image : List ℕ) (whole : Whole) → read_image image ≡ gives whole
    → (Value : Type 0) (initial : ℕ → Value) (turns : Turns Value) (n : ℕ)
    → values_read (listings_plan whole.table) initial turns n ≡ values_read (full_plan whole.table) initial turns n
no_job_can_tell_by_listings image whole accepted Value initial turns n =
    ap (λ plan. values_read plan initial turns n) (same_plan whole.table (accepted_sound image whole accepted))
    ∙ no_job_can_tell image whole accepted Value initial turns n
