-- The listing of a core: what it holds, and its bytes. Document 01, Copies and frames: "A listing: core 3, H 20, frame
-- count 20; then each frame by rising time: start 20, copy count 12, and each copy as kind 1 (0 write, 1 read), label
-- 6, task 5 (the writer's or the reader's). Zero bits fill the last byte. Most significant bit first throughout."
-- Assumes nothing.
use Rattle.std.specs.Prelude.{ℕ, List, [], ◌∷◌, length}
use Rattle.lists.specs.Lists.{each_below, each_of}
use Rattle.bits.specs.Packing.{Field, bits, packed}
use Rattle.table.specs.Table.{hyperperiod_of}
use Rattle.table.specs.declared.Table.{Table}
use Rattle.copies.specs.Copies.{Copy, write, read, Frame, frames_of}

-- what a listing holds: a core, H, which is its round, and frames
pub record Listing : Type 0 where
  pub core : ℕ
  pub round : ℕ
  pub frames : List Frame

-- the listing of a core of a table
abbrev pub core_listing : Table → ℕ → Listing
core_listing table core = record { core = core; round = hyperperiod_of table; frames = frames_of table core }

-- the listings of all cores of a table, by rising core
unfoldable pub all_listings : Table → List Listing
all_listings table = each_below table.cores (λ core. core_listing table core ∷ [])

-- "each copy as kind 1 (0 write, 1 read), label 6, task 5 (the writer's or the reader's)"
unfoldable pub copy_fields : Copy → List Field
copy_fields (write label writer) = bits 1 0 ∷ bits 6 label ∷ bits 5 writer ∷ []
copy_fields (read label reader) = bits 1 1 ∷ bits 6 label ∷ bits 5 reader ∷ []

-- "start 20, copy count 12", and each copy
unfoldable pub frame_fields : Frame → List Field
frame_fields frame = bits 20 frame.start ∷ bits 12 (length frame.copies) ∷ each_of frame.copies copy_fields

-- "core 3, H 20, frame count 20; then each frame"
unfoldable pub listing_fields : Listing → List Field
listing_fields listing =
    bits 3 listing.core ∷ bits 20 listing.round ∷ bits 20 (length listing.frames)
    ∷ each_of listing.frames frame_fields

-- the bytes of the listing of a core
unfoldable pub listing_of : Table → ℕ → List ℕ
listing_of table core = packed (listing_fields (core_listing table core))
