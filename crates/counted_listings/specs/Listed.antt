-- What listing a core is given and answers. No contract of a question cites this file. Assumes nothing.
use Rattle.std.specs.Prelude.{ℕ, ◌<◌, ◌≤◌, ◌≡◌, min, max, true, false, List, Option, MatchOption, length}
use Rattle.lists.specs.Lists.{over}
use Rattle.table.specs.declared.Table.{Table}
use Rattle.copies.specs.Listing.{listing_of}
use Rattle.label_masks.specs.declared.LabelMasks.{LabelMasks}
use Rattle.gathering.specs.Pairs.{pairs_below}
use Rattle.counting.specs.Counting.{joined_of}
use Rattle.frames.specs.Counts.{RightRound}
use Rattle.frames.specs.Ready.{MasksOf}

-- a core of a right table, by the masks of the table
pub record ListsBy (table : Table) (core round : ℕ) (masks : LabelMasks) (joined : List ℕ) : Type 0 where
  pub right : RightRound table round
  pub known : core < table.cores
  pub masks_of : MasksOf table masks
  pub joined_same : joined ≡ joined_of table

-- how many counters a core has, of the kind of which it has more
abbrev pub most_counters : (table : Table) (core : ℕ) (joined : List ℕ) → ℕ
most_counters table core joined =
    max (length (pairs_below false core table.core joined (min table.tasks 32)))
    (length (pairs_below true core table.core joined (min table.tasks 32)))

-- how many bytes the listing of a core fills, over what the buffer held, where there is room; the buffer as it was where
-- there is none
abbrev pub Fills : (table : Table) (core : ℕ) (held : List ℕ) (r : Option ℕ) (left : List ℕ) → Type 0
Fills table core held r left =
    MatchOption r ((length held < length (listing_of table core)) × (left ≡ held))
    (λ bytes. (length (listing_of table core) ≤ length held) × (bytes ≡ length (listing_of table core))
    × (left ≡ over (listing_of table core) held))
