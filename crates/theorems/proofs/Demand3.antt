-- DEMAND 3. Run an accepted table with only the listed copies, or copying every label at every release: every job reads
-- the same values, however long the run. Jobs are arbitrary: what they write may depend in any way on the tick and on
-- what their task has read.
-- To be read before, besides what demand 2 names of times, table and copies: copies/specs/Plans, runs/specs/Runs and
-- FramePlan, and for what is said at the end runs/specs/Moved, Controls and Errors (all under crates/).
--
-- What a run is, and which definition says it (crates/runs/specs/Runs.antt, where no other is named):
--   all copies of a label start equal, at any value of any type: at_start
--   at a tick all writes, then all reads, then the jobs: state_after
--   a write copies outgoing to shared, a read shared to one reader's incoming: after_writes, after_reads
--   jobs read their own task's incoming copy and write an outgoing one: after_act
--   both runs have the same turns at the same ticks in the same order: one `turns` stands on both sides
--   any turns of any tasks at any ticks: Turns
--   what is written depends on the tick and on what the task has read, and on nothing else: the type of Turn's `act`,
--   which is given these two
--   the listed copies are those of all cores' frames, round after round: listings_plan (FramePlan.antt)
--   full copying: full_plan (crates/copies/specs/Plans.antt)
--   what is compared is every value that any job reads, with its tick, task and label: values_read
-- A copy's core plays no part in what jobs read; it is demand 2 that fixes it. Assumes nothing.
use Prim.Native.Nat.{ℕ, ◌<◌}
use mathlib.Core.Path.{◌≡◌}
use mathlib.Core.Logic.{◌≢◌}
use mathlib.Core.List.{List, [], ◌∷◌}
use Rattle.outcomes.specs.Outcome.{gives}
use Rattle.table.specs.Image.{Whole, rows_of, read_image}
use Rattle.copies.specs.Plans.{listed_plan, full_plan}
use Rattle.questions.specs.Questions.{listing}
use Rattle.runs.specs.BytesPlan.{bytes_plan}
use Rattle.runs.specs.Controls.{pair, two_readers, apart, apart_image, tell, talk}
use Rattle.runs.specs.Errors.{served_by_floor, published_for_one, values_reading_first, without_instant0}
use Rattle.runs.specs.FramePlan.{listings_plan}
use Rattle.runs.specs.Moved.{Moved}
use Rattle.runs.specs.Runs.{Turns, values_read}
use Rattle.runs.proofs.Controls as controls
use Rattle.runs.proofs.CoresAside as cores
use Rattle.runs.proofs.Errors as errors
use Rattle.runs.proofs.NoJobCanTell as runs
use Rattle.theorems.proofs.HandedOut.{by_bytes_handed_out}

pub no_job_can_tell : (image : List ℕ) (whole : Whole) → read_image image ≡ gives whole
    → (Value : Type 0) (initial : ℕ → Value) (turns : Turns Value) (n : ℕ)
    → values_read (listings_plan whole.table) initial turns n ≡ values_read (full_plan whole.table) initial turns n
no_job_can_tell = runs.no_job_can_tell_by_listings

-- The same of the bytes that the listing's question gives for all cores, each in some room: taken out of the bytes again
-- (crates/listings/specs/FromBytes.antt) and carried out round after round (crates/runs/specs/BytesPlan.antt).
pub no_job_can_tell_by_bytes : (image : List ℕ) (whole : Whole) → read_image image ≡ gives whole
    → (bytes : ℕ → List ℕ) (room : ℕ → ℕ)
    → ((core : ℕ) → core < whole.table.cores → listing image core (room core) ≡ gives (bytes core))
    → (Value : Type 0) (initial : ℕ → Value) (turns : Turns Value) (n : ℕ)
    → values_read (bytes_plan whole.table.cores bytes) initial turns n
    ≡ values_read (full_plan whole.table) initial turns n
no_job_can_tell_by_bytes = by_bytes_handed_out

-- A copy's core plays no part: where tasks are moved to other cores, the listings make the same copies at the same
-- ticks.
pub cores_play_no_part : (image image' : List ℕ) (whole other : Whole)
    → read_image image ≡ gives whole → read_image image' ≡ gives other
    → Moved whole.table other.table → listings_plan whole.table ≡ listings_plan other.table
cores_play_no_part = cores.cores_play_no_part

-- Controls, by computation. Two tasks on two cores, each of which writes numbers made of all that it has read: the
-- table is accepted, and the two runs read the same. (More of them: crates/runs/proofs/Controls.antt.)
pub apart_is_accepted : read_image apart_image ≡ gives (record { table = apart 2 5; rows = rows_of [] })
apart_is_accepted = controls.apart_accepted

pub two_cores_run_alike
    : values_read (listings_plan (apart 2 5)) (λ l. l) talk 20 ≡ values_read (full_plan (apart 2 5)) (λ l. l) talk 20
two_cores_run_alike = controls.listings_apart

-- And each of document 01's four errors that come easily is seen by some job.
pub reading_by_floor_is_seen
    : values_read (served_by_floor (pair 5 2)) (λ l. 0) (tell (1 ∷ [])) 7
    ≢ values_read (full_plan (pair 5 2)) (λ l. 0) (tell (1 ∷ [])) 7
reading_by_floor_is_seen = errors.reading_by_floor_is_seen

pub publishing_for_one_is_seen
    : values_read (published_for_one 1 two_readers) (λ l. 0) (tell (1 ∷ 2 ∷ [])) 7
    ≢ values_read (full_plan two_readers) (λ l. 0) (tell (1 ∷ 2 ∷ [])) 7
publishing_for_one_is_seen = errors.publishing_for_one_is_seen

pub reading_first_is_seen
    : values_reading_first (listed_plan (pair 2 5)) (λ l. 0) (tell (1 ∷ [])) 11
    ≢ values_read (full_plan (pair 2 5)) (λ l. 0) (tell (1 ∷ [])) 11
reading_first_is_seen = errors.reading_first_is_seen

pub leaving_instant_0_out_is_seen
    : values_read (without_instant0 (pair 2 5)) (λ l. 0) (tell (1 ∷ [])) 11
    ≢ values_read (full_plan (pair 2 5)) (λ l. 0) (tell (1 ∷ [])) 11
leaving_instant_0_out_is_seen = errors.leaving_instant_0_out_is_seen
