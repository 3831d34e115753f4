-- `counters::advance` meets its contract. The loop's invariant: the counters before the index are passed, those of them
-- that were due are tallied, and there is room for the others. Assumes nothing.
use Rattle.std.proofs.Common.{ℕ, ◌+◌, ◌≤◌, length}
use Rattle.gathering.specs.Kinds.{reads}
use Rattle.counters.specs.Tallies.{where_due}
use Rattle.counters.proofs.Turn.{Advancing, Folding}
use Rattle.counters.proofs.advance.Given as goal

abbrev pub invariant-loop-counter : goal.invariant-loop-counter
invariant-loop-counter g l = record {
  passed : Advancing (reads l.kind) l.table.period l.t l.initial.counters l.counters l.least l.counter-index;
  tallied : Folding (where_due (g.T.Tally.with_one_more l.masks) l.t) l.initial.tally l.initial.counters l.tally l.counter-index;
  room : (n : ℕ) → n + l.counter-index ≤ length l.initial.counters → g.T.Tally.HasRoom l.tally n;
}
