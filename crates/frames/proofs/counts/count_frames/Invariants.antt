-- `frames::counts::count_frames` meets its contract. The loop's invariant: no more frames than ticks were passed and, where
-- the counters of a core were ready, so many frames and copies of it. Assumes nothing.
use Prim.Native.Nat.{ℕ, ◌*◌, ◌≤◌}
use Rattle.frames.specs.Walk.{Starts, Walks, WentOn}
use Rattle.frames.proofs.Counted.{CountedTo}
use Rattle.frames.proofs.counts.count_frames.Given as goal

abbrev pub invariant-loop-due : goal.invariant-loop-due
invariant-loop-due l =
    let first = l.initial.due-iterator in
    let walk = l.due-iterator in
    (goal.iterator-loop-due).can_next walk
    × (goal.iterator-loop-due).is_finite walk
    × WentOn first walk
    × (l.frames ≤ walk.t)
    × (l.copies ≤ 65600 * walk.t)
    × ((core : ℕ) → Starts core first → Walks core walk × CountedTo first.table.now core walk.t l.frames l.copies)
