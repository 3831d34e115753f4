-- `counted_listings::listed` meets its contract. Assumes nothing.
use Prim.Native.Nat.{◌≤◌}
use native.Mathlib.Omega.{arith}
use Rattle.frames.proofs.Gathered.{ready_again}
use Rattle.framing.proofs.Ended.{few_frames, few_copied}
use Rattle.frames.specs.Counts.{CountsFrames}
use Rattle.counted_listings.specs.Listed.{ListsBy}
use Rattle.counted_listings.proofs.Filling.{buffer_short, buffer_filled}
use Rattle.counted_listings.proofs.listed.Goals as goal
use Rattle.counted_listings.proofs.listed.Goals.{After-count_frames-measured}

module _ (c : After-count_frames-measured) where
  by : ListsBy c.args.table.now c.args.core c.args.round c.args.masks.now c.args.joined.now
  by = c.requires.by

  counts : CountsFrames c.args.table.now c.args.core c.count_frames-measured.result
  counts = c.count_frames-measured.ensures c.args.core by.right by.masks_of c.requires.ready

  -- the frames and the copies of the core of the table are few
  few : (c.count_frames-measured.result.frames ≤ 1000000) × (c.count_frames-measured.result.copies ≤ 4095000000)
  few =
      let right = by.right.right in
      let round = right.meets.hyperperiod in (
        omega (arith, counts.many, few_frames c.args.table.now right c.args.core),
        omega (arith, counts.copies, few_copied c.args.table.now right c.args.core),
      )

pub overflow_mul-bits-2 : goal.overflow_mul-bits-2
overflow_mul-bits-2 c =
    omega (arith, (few (goal.at.overflow_mul-bits-2 c).After-count_frames-measured).1)

pub overflow_add-bits-2 : goal.overflow_add-bits-2
overflow_add-bits-2 c =
    let at = few (goal.at.overflow_add-bits-2 c).After-count_frames-measured in
    omega (arith, c.from.ensures)

pub returns-then-buffer-div_ceil : goal.returns-then-buffer-div_ceil
returns-then-buffer-div_ceil c =
    let frames = c.from.ensures in
    let bytes = c.div_ceil.ensures in
    buffer_short c.args.table.now c.args.core c.args.buffer.now _
    (counts (goal.at.returns-then-buffer-div_ceil c).After-count_frames-measured) (omega arith)

pub returns : goal.returns
returns c =
    let by = c.requires.by in
    let frames = c.from.ensures in
    let bytes = c.div_ceil.ensures in
    let again = ready_again c.gather_both.ensures by.right.right by.joined_same c.requires.ready
    c.count_frames-measured.auto.publishing c.count_frames-measured.auto.reading in
    let counted = counts (goal.at.returns c).After-count_frames-measured in
    buffer_filled c.args.table.now c.args.core c.args.buffer.now _ counted (omega arith)
    (c.write_listing.ensures by.right by.masks_of again by.known counted.many)
