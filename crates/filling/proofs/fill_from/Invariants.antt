-- What holds in the loop of `filling::fill_from`: the bytes that were read stand at the front of the buffer. The measure is
-- the room that is left.
use Rattle.std.proofs.Common.{length, ◌-◌, ◌≤◌, take}
use Rattle.std.specs.Io.KnownBytes.{Consumes}
use Rattle.filling.proofs.fill_from.Given as goal

abbrev pub invariant-loop-done : goal.invariant-loop-done
invariant-loop-done g l = record {
  within : l.done ≤ length l.buffer;
  read : Consumes (g.R.Read.remaining l.fn.from) (g.R.Read.remaining l.from) (take l.done l.buffer);
}

abbrev pub decreases-loop-done : goal.decreases-loop-done
decreases-loop-done g l = length l.initial.buffer - l.done
