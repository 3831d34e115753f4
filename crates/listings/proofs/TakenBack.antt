-- The fields of a listing, taken again where some bytes hold them: a copy, a frame, and the whole listing. Assumes
-- nothing.
use Prim.Native.Nat.{ℕ, ◌<◌, ◌^◌}
use mathlib.Core.Path.{◌≡◌, refl}
use mathlib.Core.List.{List, [], ◌∷◌}
use native.Mathlib.Nat.{zero-add}
use lib.Dec.{lit<}
use lib.ListN.{length, get_or}
use Rattle.lists.specs.Lists.{each_of}
use Rattle.bits.specs.Packing.{Field, bits, packed}
use Rattle.bits.proofs.Held.{packed_held}
use Rattle.outcomes.specs.Outcome.{gives}
use Rattle.taking.specs.Reading.{Taker, done, ◌then◌, in_row}
use Rattle.taking.proofs.HeldRead.{Reads, done_reads, then_reads, field_reads, row_reads}
use Rattle.taking.proofs.FillRead.{packed_fill}
use Rattle.table.specs.Image.{fill}
use Rattle.copies.specs.Copies.{Copy, write, read, Frame}
use Rattle.copies.specs.Listing.{Listing, copy_fields, frame_fields, listing_fields}
use Rattle.listings.specs.Fits.{Fits}
use Rattle.listings.specs.FromBytes.{any, take_copy, take_frame, take_listing, listing_in}
use Rattle.listings.proofs.Fitting.{fits_at}

-- one field
any_reads : (w v : ℕ) → v < 2 ^ w → Reads (any w) (bits w v ∷ []) v
any_reads w v small = field_reads w 1 v _ small refl

-- the last of several, and what is made of it
last_reads : {A B : Type 0} {first : Taker A} (f : A → B) {fs : List Field} {a : A} → Reads first fs a
    → Reads (first then λ x. done (f x)) fs (f a)
last_reads f of_first = record { taken = λ image at held. rw (of_first.taken image at held) }

-- a row of what fits
row_of : {A : Type 0} (one : Taker A) (f : A → List Field) (d : A) (xs : List A)
    → ((x : A) → Fits (f x) → Reads one (f x) x) → Fits (each_of xs f)
    → Reads (in_row (length xs) (λ before. one)) (each_of xs f) xs
row_of one f d xs each fits =
    row_reads (λ before. one) f d xs (λ k below. each (get_or xs k d) (fits_at f d xs fits k below))

copy_reads : (copy : Copy) → Fits (copy_fields copy) → Reads take_copy (copy_fields copy) copy
unfolding take_copy copy_fields
copy_reads (write label writer) fits =
    then_reads _ (any_reads 1 0 (lit< tt)) (then_reads _ (any_reads 6 label fits.1.0)
    (then_reads _ (any_reads 5 writer fits.1.1.0) (done_reads (write label writer))))
copy_reads (read label reader) fits =
    then_reads _ (any_reads 1 1 (lit< tt)) (then_reads _ (any_reads 6 label fits.1.0)
    (then_reads _ (any_reads 5 reader fits.1.1.0) (done_reads (read label reader))))

frame_reads : (frame : Frame) → Fits (frame_fields frame) → Reads take_frame (frame_fields frame) frame
unfolding take_frame frame_fields
frame_reads frame fits =
    then_reads _ (any_reads 20 frame.start fits.0)
    (then_reads _ (any_reads 12 (length frame.copies) fits.1.0)
    (last_reads _ (row_of take_copy copy_fields (write 0 0) frame.copies copy_reads fits.1.1)))

-- wherever the fields of a listing are held, it is taken again
pub listing_reads : (listing : Listing) → Fits (listing_fields listing)
    → Reads take_listing (listing_fields listing) listing
unfolding take_listing listing_fields
listing_reads listing fits =
    then_reads _ (any_reads 3 listing.core fits.0)
    (then_reads _ (any_reads 20 listing.round fits.1.0)
    (then_reads _ (any_reads 20 (length listing.frames) fits.1.1.0)
    (last_reads _ (row_of take_frame frame_fields (record { start = 0; copies = [] }) listing.frames frame_reads
    fits.1.1.1))))

-- the bytes of a listing are that listing, with nothing left over but zero bits
pub listing_read_back : (listing : Listing) → Fits (listing_fields listing)
    → listing_in (packed (listing_fields listing)) ≡ gives listing
unfolding listing_in fill
listing_read_back listing fits =
    let fields = listing_fields listing in
    rw ((listing_reads listing fits).taken (packed fields) 0 (packed_held fields), zero-add, packed_fill 9 fields)
