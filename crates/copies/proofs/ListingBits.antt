-- How many bits a listing has: 43 for its head, 32 for each frame and 12 for each copy. Assumes nothing.
use Prim.Native.Nat.{◌+◌, ◌*◌}
use mathlib.Core.Path.{◌≡◌}
use mathlib.Core.List.{List, [], ◌∷◌}
use native.Mathlib.Omega.{arith}
use lib.ListN.{length, length-append}
use Rattle.lists.specs.Lists.{each_of}
use Rattle.bits.proofs.Held.{bits_in}
use Rattle.bits.proofs.HowMany.{bits_none, bits_more, bits_both, bits_each}
use Rattle.copies.specs.Copies.{Copy, write, read, Frame}
use Rattle.copies.specs.Listing.{Listing, copy_fields, frame_fields, listing_fields}
use Rattle.copies.proofs.Frames.{copies_in}

copy_bits : (copy : Copy) → bits_in (copy_fields copy) ≡ 12
unfolding copy_fields
copy_bits (write label writer) = rw (bits_more, bits_more, bits_more, bits_none)
copy_bits (read label reader) = rw (bits_more, bits_more, bits_more, bits_none)

frame_bits : (frame : Frame) → bits_in (frame_fields frame) ≡ 32 + 12 * length frame.copies
unfolding frame_fields
frame_bits frame = rw (bits_more, bits_more) (omega (arith, bits_each copy_fields 12 copy_bits frame.copies))

frames_bits : (frames : List Frame) → bits_in (each_of frames frame_fields) ≡ 32 * length frames + 12 * copies_in frames
unfolding each_of
frames_bits [] = omega (arith, bits_none)
frames_bits (frame ∷ frames) =
    omega (
      arith,
      bits_both (frame_fields frame) (each_of frames frame_fields),
      frame_bits frame,
      frames_bits frames,
      length-append frame.copies (each_of frames (λ frame. frame.copies)),
    )

pub listing_bits : (listing : Listing)
    → bits_in (listing_fields listing) ≡ 43 + 32 * length listing.frames + 12 * copies_in listing.frames
unfolding listing_fields
listing_bits listing =
    rw (bits_more, bits_more, bits_more) (omega (arith, frames_bits listing.frames))
