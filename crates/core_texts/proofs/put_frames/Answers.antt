-- `core_texts::put_frames` meets its contract. Assumes nothing.
use mathlib.Core.Path.{ap, ◌∙◌}
use native.Mathlib.Omega.{arith}
use lib.ListN.{length}
use Rattle.frames.proofs.Walking.{passing_none, went_on_then}
use Rattle.core_texts.proofs.FramesPut.{no_frame, one_more}
use Rattle.core_texts.proofs.put_frames.Goals as goal

pub loop-start-init : goal.loop-start-init
loop-start-init c =
    let first = c.into_iter-start-iterator.result in
    let few = ap (λ r. length r.reading.now) c.into_iter-start-iterator.ensures.into_iter_gives in
    let new = c.new-start-items.ensures.few in (
      omega (arith, c.requires),
      tt,
      (passing_none first).went_on,
      λ core starts. (starts.walks, no_frame _ starts.none),
    )

pub loop-start-preserved : goal.loop-start-preserved
loop-start-preserved c =
    let inv = c.loop-start.invariant in
    let steps = c.in-Some.ensures.steps in
    let long = steps.went_on.reading_long in
    let gives = c.into_iter-start-iterator.ensures.into_iter_gives in
    let of_table = ap (λ r. r.table.now) gives ∙ c.new-start-items.ensures.of_table in (
      omega (arith, inv.0),
      tt,
      went_on_then inv.2 steps.went_on,
      λ core starts.
          let before = inv.3 core starts in
          let next = steps.frame core before.0 in
          let same = inv.2.same_table ∙ of_table in (
            next.walks,
            rw of_table (one_more _ _ (rw of_table at before.1) (rw same at next.passed)
                (rw (rw same at next.copies) at c.put_frame.ensures)),
          ),
    )

pub returns : goal.returns
returns c core right masks ready =
    let inv = c.loop-start.invariant in
    let gives = c.into_iter-start-iterator.ensures.into_iter_gives in
    let new = c.new-start-items.ensures in
    let last = inv.3 core (rw gives (new.starts core right masks ready)) in
    let all = rw inv.2.same_table at (c.in-None.ensures.steps.frame core last.0) in
    rw (ap (λ r. r.table.now) gives ∙ new.of_table) at (rw all at last.1)
