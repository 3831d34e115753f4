-- DEMAND 1. Any string of bytes gets a table or one numbered refusal with its place, in document 01's order, and the
-- reader always ends. No entry point expects a checked caller. A refusal writes nothing into a lent buffer.
-- To be read before: outcomes/specs/Outcome, bits/specs/Bits and Found, taking/specs/Reading, table/specs/Table,
-- Refusals, Image and Shown, images/specs/TableShown, pair_points/specs/PairPoints, questions/specs/Questions,
-- c_answers/specs/Said (all under crates/).
-- Of a function, `statement M` is the text that the toolchain makes of its contract: on the language's machine, with
-- any ghost state of type M, a call ends, does nothing undefined, and returns an r of which the `ensures` holds; it is
-- quoted here. Assumes nothing.
use Prim.Native.Nat.{ℕ, ◌≤◌, ◌<◌}
use mathlib.Core.Path.{◌≡◌}
use mathlib.Core.List.{List}
use lib.ListN.{length, take}
use Rattle.outcomes.specs.Outcome.{gives, refuses}
use Rattle.bits.specs.Bits.{bit_count}
use Rattle.table.specs.Image.{Whole, fill, read_image}
use Rattle.table.specs.Refusals.{said_of_image}
use Rattle.table.specs.Shown.{answer_of, shown_of}
use Rattle.table.specs.Table.{Rows}
use Rattle.table.proofs.FillSays.{fill_says_nine}
use Rattle.table.proofs.FirstBytes as first
use Rattle.table.proofs.Numbers.{image_refusal}
use Rattle.images.proofs.Determined as images
use Rattle.images.proofs.read_rows.Met as read_rows_met
use Rattle.images.proofs.read_rows.Statement as read-rows
use Rattle.images.proofs.read_table.Met as read_table_met
use Rattle.images.proofs.read_table.Statement as read_table
use Rattle.images.specs.declared.TableRead.{TableRead}
use Rattle.writing.proofs.LargestImage.{largest_image}
use Rattle.writing.proofs.LargestReached as reached
use Rattle.questions.specs.Questions.{points, listing, lent_after, ages}
use Rattle.questions.proofs.Determined.{same_refusal_whichever_question}
use Rattle.capi.proofs.chain_ages.liskobran_ages_slice.Met as c_ages_met
use Rattle.capi.proofs.chain_ages.liskobran_ages_slice.Statement as c_ages
use Rattle.capi.proofs.cores.liskobran_listing_slice.Met as c_listing_met
use Rattle.capi.proofs.cores.liskobran_listing_slice.Statement as c_listing
use Rattle.capi.proofs.pairs.liskobran_points_slice.Met as c_points_met
use Rattle.capi.proofs.pairs.liskobran_points_slice.Statement as c_points
use Rattle.capi.proofs.reading.liskobran_read_slice.Met as c_read_met
use Rattle.capi.proofs.reading.liskobran_read_slice.Statement as c_read

-- The reader of the image, run on the language's machine, ends on every string of bytes and answers as its contract
-- says (crates/images, src/lib.rt): what document 01's definition `read_image` says of the image, and of a refused one no
-- more than its number and place.
--     said_of_image r.answer ≡ answer_of image,  r.table ≡ shown_of image .table
pub reader_answers : {M : Type 1} → read_table.statement M
reader_answers = read_table_met.met

-- The rows:  r ≡ shown_of image .rows
pub rows_answered : {M : Type 1} → read-rows.statement M
rows_answered = read_rows_met.met

-- What reading an image shows is determined: the answer, each field of the table and each entry of the rows.
pub image_determined : (image : List ℕ) (a b : TableRead) (rows_a rows_b : Rows)
    → said_of_image a.answer ≡ answer_of image → a.table ≡ (shown_of image).table → rows_a ≡ (shown_of image).rows
    → said_of_image b.answer ≡ answer_of image → b.table ≡ (shown_of image).table → rows_b ≡ (shown_of image).rows
    → (a.answer ≡ b.answer) × (a.table ≡ b.table) × (rows_a ≡ rows_b)
image_determined = images.image_determined

-- A refusal has a number from 1 to 10, and its place is a bit of the image or the end of it.
pub one_numbered_refusal : (image : List ℕ) (number place : ℕ) → read_image image ≡ refuses number place
    → (1 ≤ number) × (number ≤ 10) × (place ≤ bit_count image)
one_numbered_refusal = image_refusal

-- Of a place within an image the fill is refused by 9 alone.
pub fill_is_refused_by_nine : (image : List ℕ) (at : ℕ) → at ≤ bit_count image → (number place : ℕ)
    → fill image at ≡ refuses number place → number ≡ 9
fill_is_refused_by_nine = fill_says_nine

-- "The largest image is 480 bytes": an accepted image has at most so many, and one has so many.
pub no_larger_image : (image : List ℕ) (whole : Whole) → read_image image ≡ gives whole → length image ≤ 480
no_larger_image = largest_image

pub largest_reached : (image : List ℕ) × (whole : Whole) × (read_image image ≡ gives whole) × (length image ≡ 480)
largest_reached = reached.largest_reached

-- An image of more than 481 bytes is answered by as many of its first bytes, if these are more than 481 too.
pub first_bytes_decide : (image : List ℕ) (n : ℕ) → 481 < n → n ≤ length image
    → read_image (take n image) ≡ read_image image
first_bytes_decide = first.first_bytes_decide

-- A refused image gets the same refusal whichever question is asked, and a lent buffer then holds what it held.
pub same_refusal : (image : List ℕ) (number place : ℕ) → answer_of image ≡ refuses number place
    → ((writer reader n : ℕ) → points image writer reader n ≡ refuses number place)
    × ((core : ℕ) (buffer : List ℕ)
    → (listing image core (length buffer) ≡ refuses number place)
    × (lent_after (listing image core (length buffer)) buffer ≡ buffer))
    × ((chain : ℕ) → ages image chain ≡ refuses number place)
same_refusal = same_refusal_whichever_question

-- The C interface says the same (crates/capi, src; crates/capi_c exports these functions with the same promises): number
-- 0 and the values of an answer, or the refusal's number and place and 0 for each value.
--     r ≡ read_said (answer_of image),  r ≡ points_said (points image writer reader n)
--     r ≡ ages_said (ages image chain)
--     r ≡ listing_said (bytes_listed (listing image core (length buffer))), and the buffer as under demand 2
pub c_reader_answers : {M : Type 1} → c_read.statement M
c_reader_answers = c_read_met.met

pub c_points_answered : {M : Type 1} → c_points.statement M
c_points_answered = c_points_met.met

pub c_listing_answered : {M : Type 1} → c_listing.statement M
c_listing_answered = c_listing_met.met

pub c_ages_answered : {M : Type 1} → c_ages.statement M
c_ages_answered = c_ages_met.met
