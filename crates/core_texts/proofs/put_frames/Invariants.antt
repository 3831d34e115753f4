-- `core_texts::put_frames` meets its contract. The loop's invariant: where the counters of a core were ready, the lines of
-- its frames that were passed were put. Assumes nothing.
use Prim.Native.Nat.{ℕ}
use Rattle.copies.proofs.Turns.{passed_before}
use Rattle.frames.specs.Walk.{Starts, Walks, WentOn}
use Rattle.core_texts.proofs.FramesPut.{PutsFrames}
use Rattle.core_texts.proofs.put_frames.Given as goal

abbrev pub invariant-loop-start : goal.invariant-loop-start
invariant-loop-start l =
    let first = l.initial.start-iterator in
    let walk = l.start-iterator in
    (goal.iterator-loop-start).can_next walk
    × (goal.iterator-loop-start).is_finite walk
    × WentOn first walk
    × ((core : ℕ) → Starts core first
    → Walks core walk × PutsFrames l.initial.text l.text (passed_before first.table.now core walk.t))
