-- A listing taken out of bytes, field by field. Document 01, Copies and frames: "A listing: core 3, H 20, frame count
-- 20; then each frame by rising time: start 20, copy count 12, and each copy as kind 1 (0 write, 1 read), label 6, task
-- 5 (the writer's or the reader's). Zero bits fill the last byte." Nothing is asked of the numbers. Assumes nothing.
use Rattle.std.specs.Prelude.{ℕ, true, cond, List, eqb}
use Rattle.outcomes.specs.Outcome.{Outcome, gives, asked_of}
use Rattle.taking.specs.Reading.{Taker, done, ◌then◌, field, in_row}
use Rattle.table.specs.Image.{fill}
use Rattle.copies.specs.Copies.{Copy, write, read, Frame}
use Rattle.copies.specs.Listing.{Listing}

-- the next field, whatever its value: refused by 1 where the bytes end inside or before it, and by no other number
abbrev pub any : (width : ℕ) → Taker ℕ
any width = field width 1 (λ value. true)

-- "kind 1 (0 write, 1 read), label 6, task 5 (the writer's or the reader's)"
abbrev pub copy_of : (kind label task : ℕ) → Copy
copy_of kind label task = cond (eqb kind 0) (write label task) (read label task)

unfoldable pub take_copy : Taker Copy
take_copy =
    any 1 then λ kind.
    any 6 then λ label.
    any 5 then λ task.
    done (copy_of kind label task)

-- "start 20, copy count 12", and each copy
unfoldable pub take_frame : Taker Frame
take_frame =
    any 20 then λ start.
    any 12 then λ count.
    in_row count (λ before. take_copy) then λ copies.
    done (record { start = start; copies = copies })

-- "core 3, H 20, frame count 20; then each frame"
unfoldable pub take_listing : Taker Listing
take_listing =
    any 3 then λ core.
    any 20 then λ round.
    any 20 then λ count.
    in_row count (λ before. take_frame) then λ frames.
    done (record { core = core; round = round; frames = frames })

-- the listing that some bytes are: after it nothing but zero bits to the end of the last byte
unfoldable pub listing_in : List ℕ → Outcome Listing
listing_in bytes =
    asked_of ((take_listing then λ listing. fill then λ filled. done listing) bytes 0) (λ taken. gives taken.value)
