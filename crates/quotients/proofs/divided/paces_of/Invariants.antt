-- `quotients::paces_of` meets its contract. The loop's invariant: the paces of the periods passed are there, and the
-- places past them as they were. Assumes nothing.
use Rattle.std.proofs.Common.{◌≡◌, length, take, drop}
use Rattle.quotients.specs.Paces.{periods_of}
use Rattle.quotients.proofs.divided.paces_of.Given as goal

abbrev pub invariant-loop-i : goal.invariant-loop-i
invariant-loop-i l =
    (periods_of (take l.i l.paces) ≡ take l.i l.periods)
    × (drop (length l.periods) l.paces ≡ drop (length l.periods) l.initial.paces)
