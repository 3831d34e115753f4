-- `table_texts::lengths::too_long` meets its contract. Assumes nothing.
use mathlib.Core.Path.{◌∙◌}
use borrow.Author.Tests.{lt-ltb}
use Rattle.table_texts.proofs.ListingLong.{listing_tested, copies_long}
use Rattle.table_texts.proofs.lengths.too_long.Goals as goal

pub returns-then-measured-gt524288 : goal.returns-then-measured-gt524288
returns-then-measured-gt524288 c right =
    let measured = c.measure-measured in
    let many = c.if-measured-gt524288.true in
    lt-ltb _ _ many ∙ copies_long _ _ measured.result (measured.ensures right) many

pub returns-else-measured-gt524288 : goal.returns-else-measured-gt524288
returns-else-measured-gt524288 c right =
    let measured = c.measure-measured in
    rw c.from.ensures (listing_tested _ _ measured.result (measured.ensures right))
