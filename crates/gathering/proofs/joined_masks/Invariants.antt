-- `gathering::joined_masks` meets its contract. The loop's invariant: the masks have the readers of the labels passed.
-- Assumes nothing.
use Rattle.std.proofs.Common.{◌≡◌}
use Rattle.gathering.specs.Pairs.{joined_below}
use Rattle.gathering.proofs.joined_masks.Given as goal

abbrev pub invariant-loop-l : goal.invariant-loop-l
invariant-loop-l l = l.masks ≡ joined_below l.table.writer l.table.readers l.l
