-- How long the text of a core is: where its listing needs no more than 65,536 bytes, no more than 305,816. So a program
-- can have room for it. No contract cites this file. Assumes nothing.
use Prim.Native.Nat.{ℕ, ◌+◌, ◌*◌, ◌/◌, ◌<◌, ◌≤◌}
use mathlib.Core.Path.{◌≡◌, ap, ◌∙◌}
use mathlib.Core.List.{List, [], ◌∷◌, ◌++◌}
use native.Mathlib.Omega.{arith}
use lib.ListN.{length, length-append}
use Rattle.lists.specs.Lists.{each_of}
use Rattle.lists.proofs.All.{All, all_also}
use Rattle.bits.specs.Packing.{bytes_for}
use Rattle.bits.proofs.Held.{length_packed}
use Rattle.table.specs.Image.{Whole}
use Rattle.table.specs.Rules.{MeetsRules}
use Rattle.copies.specs.Copies.{Copy, write, read, Frame, frames_of}
use Rattle.copies.specs.Listing.{core_listing, copy_fields, frame_fields, listing_fields, listing_of}
use Rattle.copies.proofs.Frames.{copies_in}
use Rattle.copies.proofs.ListingBits.{listing_bits}
use Rattle.listings.specs.Fits.{Fits}
use Rattle.listings.proofs.Fitting.{fits_at}
use Rattle.listings.proofs.NumbersFit.{numbers_fit}
use Rattle.ages.proofs.Rising.{all_by_number}
use Rattle.printing.specs.Printed.{copy_text, frame_text, core_text}
use Rattle.printing.specs.Words.{core_word, newline, decimal, named}
use Rattle.texts.proofs.DecimalsShort.{decimal_short}

-- a copy takes at most 7 bytes, as " R63:31"
copy_short : (copy : Copy) → Fits (copy_fields copy) → length (copy_text copy) ≤ 7
unfolding copy_fields copy_text
copy_short (write label writer) fits =
    omega (arith, decimal_short 1 label (omega (arith, fits.1.0)))
copy_short (read label reader) fits =
    let two : length (decimal label) ≤ 2 = decimal_short 1 label (omega (arith, fits.1.0)) in
    let too : length (decimal reader) ≤ 2 = decimal_short 1 reader (omega (arith, fits.1.1.0)) in
    omega (arith, length-append (decimal label) (58 ∷ decimal reader))

copies_short : (copies : List Copy) → All (λ copy. length (copy_text copy) ≤ 7) copies
    → length (each_of copies copy_text) ≤ 7 * length copies
unfolding each_of
copies_short [] each = omega arith
copies_short (copy ∷ copies) each =
    let one = each.0 in
    omega (arith, copies_short copies each.1, length-append (copy_text copy) (each_of copies copy_text))

-- a frame's line at most 8 and those of its copies
frame_short : (frame : Frame) → Fits (frame_fields frame) → length (frame_text frame) ≤ 8 + 7 * length frame.copies
unfolding frame_fields frame_text
frame_short frame fits =
    let copies = frame.copies in
    let start : length (decimal frame.start) ≤ 7 = decimal_short 6 frame.start (omega (arith, fits.0)) in
    let each : All (λ copy. Fits (copy_fields copy)) copies =
    all_by_number (λ copy. Fits (copy_fields copy)) (write 0 0) copies
    (fits_at copy_fields (write 0 0) copies fits.1.1) in
    omega (
      arith,
      copies_short copies (all_also _ _ copy_short copies each),
      length-append (decimal frame.start ++ each_of copies copy_text) (newline ∷ []),
      length-append (decimal frame.start) (each_of copies copy_text),
    )

-- so of 32 bits for a frame and 12 for a copy no more than seven twelfths
frames_short : (frames : List Frame)
    → All (λ frame. length (frame_text frame) ≤ 8 + 7 * length frame.copies) frames
    → length (each_of frames frame_text) ≤ 8 * length frames + 7 * copies_in frames
unfolding each_of
frames_short [] each = omega arith
frames_short (frame ∷ frames) each =
    let one = each.0 in
    omega (
      arith,
      frames_short frames each.1,
      length-append (frame_text frame) (each_of frames frame_text),
      length-append frame.copies (each_of frames (λ frame. frame.copies)),
    )

module _ (whole : Whole) (meets : MeetsRules whole) (core : ℕ) (known : core < whole.table.cores) where
  all_short : length (each_of (frames_of whole.table core) frame_text)
      ≤ 8 * length (frames_of whole.table core) + 7 * copies_in (frames_of whole.table core)
  unfolding listing_fields
  all_short =
      let frames = frames_of whole.table core in
      let none : Frame = record { start = 0; copies = [] } in
      let fits = numbers_fit whole meets core known in
      frames_short frames (all_also _ _ frame_short frames
      (all_by_number (λ frame. Fits (frame_fields frame)) none frames
      (fits_at frame_fields none frames fits.1.1.1)))

  pub core_short : length (listing_of whole.table core) ≤ 65536
      → length (core_text (core_listing whole.table core)) ≤ 305816
  unfolding core_text named listing_of bytes_for
  core_short short =
      let frames = frames_of whole.table core in
      let cores = meets.cores.1 in
      let one : length (decimal core) ≤ 1 = decimal_short 0 core (omega arith) in
      let long : length (listing_of whole.table core) ≡ (43 + 32 * length frames + 12 * copies_in frames + 7) / 8 =
      length_packed (listing_fields (core_listing whole.table core))
      ∙ ap (λ bits. (bits + 7) / 8) (listing_bits (core_listing whole.table core)) in
      omega (
        arith,
        all_short,
        length-append (core_word ++ 32 ∷ decimal core) (newline ∷ each_of frames frame_text),
      )
