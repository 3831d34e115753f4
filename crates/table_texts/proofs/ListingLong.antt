-- How long a listing is, by the frames and copies that were counted. No contract cites this file. Assumes nothing.
use Prim.Native.Nat.{ℕ, ◌+◌, ◌*◌, ◌/◌, ◌<◌}
use mathlib.Core.Bool.{true}
use mathlib.Core.Path.{◌≡◌, sym, ap, ◌∙◌}
use native.Mathlib.Omega.{arith}
use lib.Dec.{ltb}
use lib.ListN.{length}
use borrow.Author.Tests.{ltb-true, lt-ltb}
use Rattle.lists.proofs.Bools.{same_test}
use Rattle.bits.specs.Packing.{bytes_for}
use Rattle.bits.proofs.Held.{length_packed}
use Rattle.table.specs.declared.Table.{Table}
use Rattle.copies.specs.Listing.{core_listing, listing_fields, listing_of}
use Rattle.copies.proofs.ListingBits.{listing_bits}
use Rattle.frames.specs.Counts.{CountsFrames}
use Rattle.frames.specs.declared.Measured.{Measured}

module _ (table : Table) (core : ℕ) (measured : Measured) (counts : CountsFrames table core measured) where
  listing_long : length (listing_of table core) ≡ (43 + 32 * measured.frames + 12 * measured.copies + 7) / 8
  unfolding listing_of bytes_for
  listing_long =
      rw (counts.many, counts.copies)
      (length_packed (listing_fields (core_listing table core))
      ∙ ap (λ bits. (bits + 7) / 8) (listing_bits (core_listing table core)))

  -- whether it needs more than 65,536 bytes
  pub listing_tested : ltb 524288 (43 + 32 * measured.frames + 12 * measured.copies)
      ≡ ltb 65536 (length (listing_of table core))
  listing_tested =
      let bits = 43 + 32 * measured.frames + 12 * measured.copies in
      let bytes = length (listing_of table core) in
      same_test (ltb 524288 bits) (ltb 65536 bytes)
      (λ more. lt-ltb 65536 bytes (omega (arith, listing_long, ltb-true 524288 bits more)))
      (λ more. lt-ltb 524288 bits (omega (arith, listing_long, ltb-true 65536 bytes more)))

  -- the copies alone are too many
  pub copies_long : 524288 < measured.copies → true ≡ ltb 65536 (length (listing_of table core))
  copies_long more =
      let bits = 43 + 32 * measured.frames + 12 * measured.copies in
      sym (lt-ltb 524288 bits (omega arith)) ∙ listing_tested
