-- `framing::written::write_frames` meets its contract. The loop's invariant: where the counters of a core were ready, its
-- frames that were passed were put. Assumes nothing.
use Prim.Native.Nat.{ℕ}
use Rattle.frames.specs.Walk.{Starts, Walks, WentOn}
use Rattle.framing.proofs.PutFrames.{PutTo}
use Rattle.framing.proofs.written.write_frames.Given as goal

abbrev pub invariant-loop-start : goal.invariant-loop-start
invariant-loop-start l =
    let first = l.initial.start-iterator in
    let walk = l.start-iterator in
    (goal.iterator-loop-start).can_next walk
    × (goal.iterator-loop-start).is_finite walk
    × WentOn first walk
    × ((core : ℕ) → Starts core first
    → Walks core walk × PutTo first.table.now core l.initial.bytes l.initial.ink walk.t l.bytes l.ink)
