-- `following::last_start` meets its contract. The loop's invariant: which instants the task whose number is the count of
-- tasks left has to publish by. Assumes nothing.
use Rattle.std.proofs.Common.{◌≡◌, length, take, drop}
use Rattle.std.specs.List.{AllZip}
use Rattle.std.specs.Slice.Iter.{iter_rest}
use Rattle.std.specs.Iterator.Adapters.{rev_source}
use Rattle.quotients.specs.Paces.{periods_of}
use Rattle.following.proofs.GoneBack.{Back}
use Rattle.following.proofs.last_start.Given as goal

abbrev pub invariant-loop-pace : goal.invariant-loop-pace
invariant-loop-pace l =
    let left = iter_rest (rev_source l.pace-iterator) in
    AllZip (Back (periods_of l.paces) l.at (length left)) l.initial.instants l.instants
    × (left ≡ take (length left) (drop 1 l.paces))
