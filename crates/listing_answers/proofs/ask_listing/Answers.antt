-- `listing_answers::ask_listing`: the bytes that are told are among the lent ones. Assumes nothing.
use Rattle.std.proofs.Common.{arith, sym, length-take-le}
use Rattle.listing_answers.proofs.Listed.{listed_within}
use Rattle.listing_answers.proofs.ask_listing.Goals as goal

pub slice_bounds-tell_bytes-end : goal.slice_bounds-tell_bytes-end
slice_bounds-tell_bytes-end g c =
    search (arith, listed_within _ _ _ _ c.in-Ok.ensures.said c.listing.ensures.lent)

pub slice_bounds-tell_bytes-end-in-Ok : goal.slice_bounds-tell_bytes-end-in-Ok
slice_bounds-tell_bytes-end-in-Ok g c =
    sym (length-take-le c.in-Ok.bytes c.listing.new.buffer (listed_within _ _ _ _ c.in-Ok.ensures.said c.listing.ensures.lent))
