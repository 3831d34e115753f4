-- A listing that was put and ended: its bits can be counted, and its bytes are those of the listing. No contract cites
-- this file. Assumes nothing.
use Prim.Native.Nat.{ℕ, ◌*◌, ◌≤◌}
use mathlib.Core.Path.{◌≡◌}
use mathlib.Core.List.{List, [], ◌∷◌}
use native.Mathlib.Omega.{arith}
use lib.ListN.{length}
use Rattle.lists.specs.Lists.{over, each_of}
use Rattle.bits.specs.Packing.{bits, bits_of_all}
use Rattle.packing.specs.Inked.{Inked, Finished, Countable}
use Rattle.packing.specs.declared.Pen.{Pen}
use Rattle.packing.proofs.FieldsPut.{fields_finished}
use Rattle.packing.proofs.Inking.{inked_nothing}
use Rattle.table.specs.Table.{hyperperiod_of}
use Rattle.table.specs.declared.Table.{Table}
use Rattle.copies.specs.Copies.{frames_of}
use Rattle.copies.specs.Listing.{core_listing, frame_fields, listing_fields, listing_of}
use Rattle.copies.proofs.Frames.{copies_in, frames_all, frames_few, copies_few}
use Rattle.copies.proofs.ListingBits.{listing_bits}
use Rattle.listings.proofs.NumbersFit.{few_copies}
use Rattle.instants.specs.Puts.{Puts}
use Rattle.instants.proofs.Putting.{puts_then}
use Rattle.frames.specs.Counts.{Right}

module _ (table : Table) (right : Right table) (core : ℕ) where
  -- no more frames than ticks in a round
  pub few_frames : length (frames_of table core) ≤ hyperperiod_of table
  few_frames = rw (← frames_all table core) (frames_few table core (hyperperiod_of table))

  -- no more copies than each tick may have
  pub few_copied : copies_in (frames_of table core) ≤ 4095 * hyperperiod_of table
  few_copied =
      rw (← frames_all table core) (copies_few table core 4095
      (λ u. omega (arith, few_copies (record { table = table; rows = right.rows }) right.meets core u))
      (hyperperiod_of table))

  -- the bits of a listing can be counted
  countable : Countable (bits_of_all (listing_fields (core_listing table core)))
  countable =
      let round = right.meets.hyperperiod in
      omega (arith, listing_bits (core_listing table core), few_frames, few_copied, round)

  -- head and frames put from the first bit on, and ended
  pub listing_ended : {held first bytes after : List ℕ} {head pen : Pen} {round frames count : ℕ}
      → round ≡ hyperperiod_of table → frames ≡ length (frames_of table core)
      → Puts held first (record { at = 0; filled = 0; word = 0 }) head
      (bits 3 core ∷ bits 20 round ∷ bits 20 frames ∷ [])
      → Puts first bytes head pen (each_of (frames_of table core) frame_fields)
      → ((held bits : List ℕ) → Inked held bytes pen bits → Countable bits → Finished held after bits count)
      → (after ≡ over (listing_of table core) held) × (count ≡ length (listing_of table core))
  unfolding listing_fields listing_of
  listing_ended {held} {after = after} {count = count} is many head frames ends =
      let all = puts_then (rw (is, many) at head) frames in
      fields_finished held after (listing_fields (core_listing table core)) count
      (ends held _ (all.inked held [] (inked_nothing held) countable) countable)
