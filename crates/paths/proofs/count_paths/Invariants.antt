-- `paths::count_paths` meets its contract. The loop's invariant: the paths before the start that the walk has come to are
-- counted. The measure is how far the instant is from the one at which the round's end is published. Assumes nothing.
use Prim.Native.Nat.{◌-◌}
use lib.ListN.{length}
use Rattle.quotients.specs.Paces.{periods_of}
use Rattle.following.specs.Following.{passed, tasks_from}
use Rattle.paths.specs.Walks.{Walks}
use Rattle.paths.proofs.count_paths.Given as goal

abbrev pub invariant-loop-walk : goal.invariant-loop-walk
invariant-loop-walk l = Walks (periods_of l.paces) (length l.paces) l.at l.round l.walk

abbrev pub decreases-loop-walk : goal.decreases-loop-walk
decreases-loop-walk l = passed (tasks_from (periods_of l.paces) 1 l.at) l.round - l.walk.instant
