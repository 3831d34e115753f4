-- What writing a listing leaves. No contract of a question cites this file. Assumes nothing.
use Rattle.std.specs.Prelude.{ℕ, ◌<◌, ◌≡◌, List, length}
use Rattle.lists.specs.Lists.{over}
use Rattle.table.specs.declared.Table.{Table}
use Rattle.copies.specs.Copies.{frames_of}
use Rattle.copies.specs.Listing.{listing_of}

-- the bytes of the listing over what the bytes held, as far as they go, and how many they are; of a core of the table,
-- where so many frames are told as it has
abbrev pub WritesListing : (table : Table) (core frames : ℕ) (held bytes : List ℕ) (count : ℕ) → Type 0
WritesListing table core frames held bytes count =
    core < table.cores → frames ≡ length (frames_of table core)
    → (bytes ≡ over (listing_of table core) held) × (count ≡ length (listing_of table core))
