-- `gathering::gather` meets its contract. The loop's invariant: the counters of the writers passed are stored. Assumes
-- nothing.
use Rattle.std.proofs.Common.{◌*◌, ◌≤◌}
use Rattle.gathering.specs.Counters.{counter_of}
use Rattle.gathering.specs.Kinds.{reads}
use Rattle.gathering.specs.Pairs.{pairs_below}
use Rattle.gathering.specs.Stored.{Stored}
use Rattle.gathering.proofs.gather.Given as goal

abbrev pub invariant-loop-w : goal.invariant-loop-w
invariant-loop-w l = record {
  few : l.count ≤ 32 * l.w;
  stored : Stored (counter_of 0) (pairs_below (reads l.kind) l.core l.table.core l.joined l.w) l.initial.counters l.count l.counters;
}
