-- `framing::written::write_frames` meets its contract. The loop's invariant: where the counters of a core were ready, its
-- frames that were passed were put. Assumes nothing.
use mathlib.Core.Path.{◌≡◌, ap, ◌∙◌}
use native.Mathlib.Omega.{arith}
use lib.ListN.{length}
use Rattle.lists.specs.Lists.{each_of}
use Rattle.copies.specs.Copies.{frames_of}
use Rattle.copies.specs.Listing.{frame_fields}
use Rattle.listings.proofs.NumbersFit.{few_copies}
use Rattle.frames.proofs.Walking.{passing_none, went_on_then}
use Rattle.framing.proofs.PutFrames.{put_none, put_frame}
use Rattle.framing.proofs.written.write_frames.Goals as goal
use Rattle.framing.proofs.written.write_frames.Goals.{After-into_iter-start-iterator}

pub loop-start-init : goal.loop-start-init
loop-start-init c =
    let first = c.into_iter-start-iterator.result in
    let gives = c.into_iter-start-iterator.ensures.into_iter_gives in
    let few = ap (λ r. length r.reading.now) gives in
    let new = c.new-start-items.ensures.few in (
      omega (arith, c.requires),
      tt,
      (passing_none first).went_on,
      λ core starts. (starts.walks, put_none first.table.now core _ _ first.t starts.none),
    )

-- the walk is over the table
first_table : (c : After-into_iter-start-iterator) → c.into_iter-start-iterator.result.table.now ≡ c.args.table.now
first_table c = ap (λ r. r.table.now) c.into_iter-start-iterator.ensures.into_iter_gives ∙ c.new-start-items.ensures.of_table

pub loop-start-preserved : goal.loop-start-preserved
loop-start-preserved c =
    let inv = c.loop-start.invariant in
    let steps = c.in-Some.ensures.steps in
    let long = steps.went_on.reading_long in (
      omega (arith, inv.0),
      tt,
      went_on_then inv.2 steps.went_on,
      λ core starts.
          let before = inv.3 core starts in
          let next = steps.frame core before.0 in
          let same = inv.2.same_table in
          let right = before.0.right in
          let is = right.is in
          let round = right.right.meets.hyperperiod in
          let few = few_copies (record { table = c.loop-start.start-iterator.table.now; rows = right.right.rows })
          right.right.meets core c.in-Some.start in
          let inside = next.inside in
          let of_table = same ∙ first_table (goal.at.loop-start-preserved c).After-into_iter-start-iterator in (
            next.walks,
            put_frame _ core _ _ _ c.in-Some.start _ before.1 (rw same at next.passed) (rw same at next.many)
                (rw (← of_table, next.copies, same) at
                (c.write_frame-ink.ensures (omega arith) (omega (arith, next.many, few)))),
          ),
    )

pub returns : goal.returns
returns c core right masks ready =
    let inv = c.loop-start.invariant in
    let first = (goal.at.returns c).After-into_iter-start-iterator in
    let starts = c.new-start-items.ensures.starts core right masks ready in
    let last = inv.3 core (rw c.into_iter-start-iterator.ensures.into_iter_gives starts) in
    let all = rw inv.2.same_table at (c.in-None.ensures.steps.frame core last.0) in
    rw (ap (λ t. each_of (frames_of t core) frame_fields) (first_table first)) at (rw all at last.1)
