-- `framing::write_listing` meets its contract. Assumes nothing.
use native.Mathlib.Omega.{arith}
use Rattle.framing.proofs.Ended.{few_frames, listing_ended}
use Rattle.framing.proofs.write_listing.Goals as goal

pub returns : goal.returns
returns c right masks ready known many =
    let table-right = right.right in
    let round = table-right.meets.hyperperiod in
    let cores = table-right.meets.cores in
    let is = right.is in
    let few = few_frames _ table-right c.args.core in
    listing_ended _ table-right _ is many
    (c.write_head-head.ensures (omega arith) (omega arith) (omega (arith, few, many)))
    (c.write_frames-pen.ensures _ right masks ready)
    c.finish.ensures
