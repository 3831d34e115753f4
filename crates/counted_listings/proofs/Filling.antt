-- The listing of a core where there is room for it and where there is none. No contract cites this file. Assumes nothing.
use Prim.Native.Nat.{ℕ, ◌+◌, ◌*◌, ◌/◌, ◌<◌, ◌≤◌}
use mathlib.Core.Path.{◌≡◌, refl, ap, ◌∙◌}
use mathlib.Core.List.{List}
use lib.ListN.{length}
use Rattle.std.specs.Prelude.{Some, None}
use Rattle.lists.specs.Lists.{over}
use Rattle.bits.specs.Packing.{bytes_for}
use Rattle.bits.proofs.Held.{length_packed}
use Rattle.table.specs.declared.Table.{Table}
use Rattle.copies.specs.Listing.{core_listing, listing_fields, listing_of}
use Rattle.copies.proofs.ListingBits.{listing_bits}
use Rattle.frames.specs.Counts.{CountsFrames}
use Rattle.frames.specs.declared.Measured.{Measured}
use Rattle.counted_listings.specs.Listed.{Fills}

module _ (table : Table) (core : ℕ) (buffer : List ℕ) (measured : Measured) (counts : CountsFrames table core measured) where
  -- how many bytes the listing takes, as it was measured
  abbrev pub needed : ℕ
  needed = (43 + 32 * measured.frames + 12 * measured.copies + 7) / 8

  listing_long : length (listing_of table core) ≡ needed
  unfolding listing_of bytes_for
  listing_long =
      rw (counts.many, counts.copies)
      (length_packed (listing_fields (core_listing table core))
      ∙ ap (λ bits. (bits + 7) / 8) (listing_bits (core_listing table core)))

  pub buffer_short : length buffer < needed → Fills table core buffer None buffer
  buffer_short short = (rw listing_long short, refl)

  pub buffer_filled : needed ≤ length buffer → {count : ℕ} {after : List ℕ}
      → (after ≡ over (listing_of table core) buffer) × (count ≡ length (listing_of table core))
      → Fills table core buffer (Some count) after
  buffer_filled enough wrote = (rw listing_long enough, wrote.1, wrote.0)
