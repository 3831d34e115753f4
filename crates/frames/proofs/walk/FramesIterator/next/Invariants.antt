-- `frames::walk::Frames::next` meets its contract. The loop's invariant: no frame was passed. Assumes nothing.
use Prim.Native.Nat.{◌-◌}
use Rattle.frames.proofs.Walking.{Passing}
use Rattle.frames.proofs.walk.FramesIterator.next.Given as goal

abbrev pub invariant-loop-self : goal.invariant-loop-self
invariant-loop-self l = Passing l.initial.self l.self

abbrev pub decreases-loop-self : goal.decreases-loop-self
decreases-loop-self l = l.self.round - l.self.t
