-- `table_texts::lengths::some_too_long` meets its contract. The loop's invariant: the listings of the cores passed are
-- short enough. Assumes nothing.
use mathlib.Core.Bool.{false}
use mathlib.Core.Path.{◌≡◌}
use lib.Dec.{ltb}
use lib.ListN.{length}
use Rattle.lists.specs.Lists.{some_below}
use Rattle.copies.specs.Listing.{listing_of}
use Rattle.frames.specs.Counts.{RightRound}
use Rattle.table_texts.proofs.lengths.some_too_long.Given as goal

abbrev pub invariant-loop-core : goal.invariant-loop-core
invariant-loop-core l =
    RightRound l.table l.round → some_below l.core (λ core. ltb 65536 (length (listing_of l.table core))) ≡ false
