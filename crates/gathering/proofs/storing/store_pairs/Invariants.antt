-- `gathering::storing::store_pairs` meets its contract. The loop's invariant: the counters of the readers met are stored.
-- Assumes nothing.
use Rattle.std.proofs.Common.{◌+◌, ◌≤◌, length}
use Rattle.lists.specs.Lists.{each_of}
use Rattle.gathering.specs.Counters.{counter_of}
use Rattle.gathering.specs.Kinds.{reads}
use Rattle.gathering.specs.Pairs.{pair_counted}
use Rattle.gathering.specs.Stored.{Adds}
use Rattle.gathering.proofs.storing.store_pairs.Given as goal

abbrev pub invariant-loop-r : goal.invariant-loop-r
invariant-loop-r l = record {
  few : l.more ≤ l.count + length l.yielded;
  adds : Adds (counter_of 0) (each_of l.yielded (pair_counted (reads l.kind) l.core l.table.core l.w))
      l.count l.initial.counters l.more l.counters;
}
