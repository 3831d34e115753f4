-- `frames::counts::count_frames` meets its contract. The loop's invariant: no more frames than ticks were passed and, where
-- the counters of a core were ready, so many frames and copies of it. Assumes nothing.
use mathlib.Core.Path.{ap, ◌∙◌}
use native.Mathlib.Omega.{arith}
use lib.ListN.{length}
use Rattle.frames.proofs.Counted.{counted_none, counted_more, counted_all}
use Rattle.frames.proofs.Walking.{passing_none, went_on_then}
use Rattle.frames.proofs.counts.count_frames.Goals as goal

pub loop-due-init : goal.loop-due-init
loop-due-init c =
    let first = c.into_iter-due-iterator.result in
    let gives = c.into_iter-due-iterator.ensures.into_iter_gives in
    let few = ap (λ r. length r.reading.now) gives in
    let new = c.new-due-items.ensures.few in (
      omega (arith, c.requires),
      tt,
      (passing_none first).went_on,
      omega arith,
      omega arith,
      λ core starts. (starts.walks, counted_none first.table.now core starts.none),
    )

pub loop-due-preserved : goal.loop-due-preserved
loop-due-preserved c =
    let inv = c.loop-due.invariant in
    let steps = c.in-Some.ensures.steps in
    let later = steps.later in
    let long = steps.went_on.reading_long in (
      omega (arith, inv.0),
      tt,
      went_on_then inv.2 steps.went_on,
      omega (arith, inv.3),
      omega (arith, inv.4, c.from-copies.ensures),
      λ core starts.
          let before = inv.5 core starts in
          let next = steps.frame core before.0 in
          let same = inv.2.same_table in (
            next.walks,
            counted_more _ core _ before.1 (rw same at next.passed) (c.from-copies.ensures ∙ (rw same at next.many)),
          ),
    )

pub returns : goal.returns
returns c core right masks ready =
    let inv = c.loop-due.invariant in
    let gives = c.into_iter-due-iterator.ensures.into_iter_gives in
    let new = c.new-due-items.ensures in
    let last = inv.5 core (rw gives (new.starts core right masks ready)) in
    let all = rw inv.2.same_table at (c.in-None.ensures.steps.frame core last.0) in
    rw (ap (λ r. r.table.now) gives ∙ new.of_table) at (counted_all _ core all last.1)
