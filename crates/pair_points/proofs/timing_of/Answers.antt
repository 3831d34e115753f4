-- `pair_points::timing_of` meets its contract: the entry, or what stands for one past the array. Assumes nothing.
use Rattle.std.proofs.Common.{arith}
use Rattle.table.specs.Table.{timing_of, period_of}
use Rattle.pair_points.proofs.timing_of.Goals as goal

pub returns : goal.returns
unfolding timing_of period_of
returns c = rw (c.unwrap_or.ensures, c.copied.ensures, c.get.ensures.lookup.4 (omega arith) 0)
