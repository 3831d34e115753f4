-- In an accepted table every number of a listing fits its field: the core in 3 bits; H, the frame count and a start in
-- 20; the copies of a frame in 12, labels in 6, tasks in 5. So the bytes of each listing are that listing again.
-- Assumes nothing.
use Prim.Native.Nat.{ℕ, ◌*◌, ◌<◌, ◌≤◌, ◌^◌}
use mathlib.Core.Bool.{Bool, ◌&&◌}
use mathlib.Core.Path.{◌≡◌}
use mathlib.Core.List.{List, [], ◌∷◌}
use native.Mathlib.Nat.{le_trans}
use native.Mathlib.Omega.{arith}
use lib.Dec.{eqb}
use lib.ListN.{length, length-append}
use Rattle.lists.proofs.All.{All, all_append, all_each_below, all_only_if}
use Rattle.lists.proofs.Each.{length_each_below, length_only_if}
use Rattle.outcomes.specs.Outcome.{gives}
use Rattle.table.specs.Table.{core_of, writer_of, hyperperiod_of}
use Rattle.table.specs.Image.{Whole, read_image}
use Rattle.table.specs.Rules.{MeetsRules}
use Rattle.table.specs.declared.Table.{Table}
use Rattle.table.proofs.MeetsRules.{accepted_meets_rules}
use Rattle.copies.specs.Copies.{written, served, Copy, write, read, Frame, writes_at, reads_at, copies_at}
use Rattle.copies.specs.Copies.{frames_at, frames_of}
use Rattle.copies.specs.Listing.{core_listing, copy_fields, frame_fields, listing_fields, listing_of}
use Rattle.listings.specs.Fits.{Fits}
use Rattle.listings.specs.FromBytes.{listing_in}
use Rattle.listings.proofs.Fitting.{fits_each}
use Rattle.listings.proofs.TakenBack.{listing_read_back}

-- the numbers of a copy fit, and those of a frame
abbrev CopyFits : Copy → Type 0
CopyFits copy = Fits (copy_fields copy)

abbrev FrameFits : Frame → Type 0
FrameFits frame = Fits (frame_fields frame)

-- whether a core has at t the write of label l, and its read for task r
abbrev writing : Table → (core t l : ℕ) → Bool
writing table core t l = eqb (core_of table (writer_of table l)) core && written table l t

abbrev reading : Table → (core t l r : ℕ) → Bool
reading table core t l r = eqb (core_of table r) core && served table l r t

module _ (whole : Whole) (meets : MeetsRules whole) (core : ℕ) where
  write_fits : (l : ℕ) → l < whole.table.labels → CopyFits (write l (writer_of whole.table l))
  unfolding copy_fields
  write_fits l known =
      let labels = meets.labels in
      let tasks = meets.tasks in
      let writer = meets.writer l known in
      omega arith

  read_fits : (l r : ℕ) → l < whole.table.labels → r < whole.table.tasks → CopyFits (read l r)
  unfolding copy_fields
  read_fits l r known there =
      let labels = meets.labels in
      let tasks = meets.tasks in
      omega arith

  copies_fit : (t : ℕ) → All CopyFits (copies_at whole.table core t)
  unfolding copies_at writes_at reads_at
  copies_fit t =
      all_append CopyFits (writes_at whole.table core t) (reads_at whole.table core t)
      (all_each_below CopyFits whole.table.labels _ (λ l known.
      all_only_if CopyFits (writing whole.table core t l) _ (λ due. write_fits l known)))
      (all_each_below CopyFits whole.table.labels _ (λ l known.
      all_each_below CopyFits whole.table.tasks _ (λ r there.
      all_only_if CopyFits (reading whole.table core t l r) _ (λ due. read_fits l r known there))))

  -- at most 64 writes and 64 times 32 reads
  pub few_copies : (t : ℕ) → length (copies_at whole.table core t) < 2 ^ 12
  unfolding copies_at writes_at reads_at
  few_copies t =
      let labels = meets.labels in
      let tasks = meets.tasks in
      let writes : length (writes_at whole.table core t) ≤ 1 * whole.table.labels =
      length_each_below 1 whole.table.labels _ (λ l known.
      length_only_if (writing whole.table core t l) (write l (writer_of whole.table l))) in
      let reads : length (reads_at whole.table core t) ≤ 32 * whole.table.labels =
      length_each_below 32 whole.table.labels _ (λ l known.
      le_trans
      (length_each_below 1 whole.table.tasks _ (λ r there.
      length_only_if (reading whole.table core t l r) (read l r)))
      (omega arith)) in
      omega (arith, length-append (writes_at whole.table core t) (reads_at whole.table core t))

  frame_fits : (t : ℕ) → t < hyperperiod_of whole.table → (copies : List Copy) → All CopyFits copies
      → length copies < 2 ^ 12 → All FrameFits (frames_at t copies)
  unfolding frames_at frame_fields
  frame_fits t inside [] fit few = tt
  frame_fits t inside (copy ∷ more) fit few =
      let round = meets.hyperperiod in
      ((omega arith, (few, fits_each copy_fields (copy ∷ more) fit)), tt)

  few_frames : (t : ℕ) (copies : List Copy) → length (frames_at t copies) ≤ 1
  unfolding frames_at
  few_frames t [] = omega arith
  few_frames t (copy ∷ more) = omega arith

  pub numbers_fit : core < whole.table.cores → Fits (listing_fields (core_listing whole.table core))
  unfolding listing_fields frames_of
  numbers_fit known =
      let cores = meets.cores in
      let round = meets.hyperperiod in
      let count : length (frames_of whole.table core) ≤ 1 * hyperperiod_of whole.table =
      length_each_below 1 (hyperperiod_of whole.table) _ (λ t inside. few_frames t _) in
      let frames = fits_each frame_fields (frames_of whole.table core)
      (all_each_below FrameFits (hyperperiod_of whole.table) _ (λ t inside.
      frame_fits t inside _ (copies_fit t) (few_copies t))) in
      (omega arith, (omega arith, (omega arith, frames)))

-- of every accepted table, the bytes of a core's listing are that listing, with nothing left over but zero bits
pub listing_taken_back : (image : List ℕ) (whole : Whole) → read_image image ≡ gives whole
    → (core : ℕ) → core < whole.table.cores
    → listing_in (listing_of whole.table core) ≡ gives (core_listing whole.table core)
unfolding listing_of
listing_taken_back image whole accepted core known =
    listing_read_back (core_listing whole.table core)
    (numbers_fit whole (accepted_meets_rules image whole accepted) core known)
