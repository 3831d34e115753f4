-- `pair_points::joined` meets its contract. The loop's invariant: no label passed goes from the one task to the other.
-- Assumes nothing.
use Rattle.std.proofs.Common.{◌≡◌, false}
use Rattle.lists.specs.Lists.{some_below}
use Rattle.pair_points.specs.Parts.{goes_from}
use Rattle.pair_points.proofs.joined.Given as goal

abbrev pub invariant-loop-l : goal.invariant-loop-l
invariant-loop-l l = some_below l.l (goes_from l.table.writer l.table.readers l.w l.r) ≡ false
