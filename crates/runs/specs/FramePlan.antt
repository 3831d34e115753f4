-- The plan that listings make: the frames of each, carried out round after round. Document 01, Copies and frames: "A
-- frame is one instant at which a core has at least one copy." Assumes nothing.
use Rattle.std.specs.Prelude.{ℕ, ◌%◌, Bool, false, cond, ◌&&◌, List, [], eqb}
use Rattle.lists.specs.Lists.{some_of, each_of}
use Rattle.table.specs.declared.Table.{Table}
use Rattle.copies.specs.Copies.{Copy, write, read}
use Rattle.copies.specs.Listing.{Listing, all_listings}
use Rattle.copies.specs.Plans.{Plan}

-- the copies of a listing that are due at a tick: those of its frames that start at it, modulo its round
unfoldable pub copies_due : Listing → ℕ → List Copy
copies_due listing t =
    each_of listing.frames (λ frame. cond (eqb frame.start (t % listing.round)) frame.copies [])

-- the copy is a write of label l
abbrev pub is_write_of : ℕ → Copy → Bool
is_write_of l (write label writer) = eqb label l
is_write_of l (read label reader) = false

-- the copy is a read of label l for reader r
abbrev pub is_read_of : ℕ → ℕ → Copy → Bool
is_read_of l r (write label writer) = false
is_read_of l r (read label reader) = eqb label l && eqb reader r

-- a copy is made at t when it is due at t in one of the listings
unfoldable pub plan_of : List Listing → Plan
plan_of listings = record {
  writes = λ l t. some_of (is_write_of l) (each_of listings (λ listing. copies_due listing t));
  serves = λ l r t. some_of (is_read_of l r) (each_of listings (λ listing. copies_due listing t));
}

-- the plan of the listings of a table
unfoldable pub listings_plan : Table → Plan
listings_plan table = plan_of (all_listings table)
