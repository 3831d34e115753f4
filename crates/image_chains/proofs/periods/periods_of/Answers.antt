-- `image_chains::periods::periods_of` meets its contract: of a right table each task of the chain has a period. Assumes
-- nothing.
use mathlib.Core.Path.{◌≡◌}
use native.Mathlib.Omega.{arith}
use lib.ListN.{length}
use Rattle.std.proofs.Common.{rules}
use Rattle.table.specs.Table.{chain_of}
use Rattle.image_chains.specs.Taken.{RightRows}
use Rattle.image_chains.proofs.ChainPeriods.{passed_none, passed_more, passed_all, none_taken, task_below}
use Rattle.image_chains.proofs.periods.periods_of.Goals as goal

pub returns-then-table-chain-clause-taken : goal.returns-then-table-chain-clause-taken
returns-then-table-chain-clause-taken c = none_taken _ _ _ c.if-table-chain.true _

pub loop-i-init : goal.loop-i-init
loop-i-init c = passed_none c.args.table.now.period (chain_of c.args.table.now c.args.rows c.args.chain) _

pub bounds-table-task : goal.bounds-table-task
unfolding chain_of
bounds-table-task c =
    let right : RightRows c.args.table.now c.args.rows = search rules in
    task_below _ _ _ right c.if-table-chain.false c.loop-i.i c.loop-i-test.true

pub loop-i-preserved : goal.loop-i-preserved
loop-i-preserved c = passed_more _ _ _ c.loop-i.i c.loop-i.periods c.loop-i-test.true c.loop-i.invariant

pub returns-clause-taken : goal.returns-clause-taken
unfolding chain_of
returns-clause-taken c =
    let right : RightRows c.args.table.now c.args.rows = search rules in
    let all : c.loop-i.i ≡ length (chain_of c.args.table.now c.args.rows c.args.chain) = omega arith in
    passed_all _ _ _ right c.if-table-chain.false _ _ (rw all at c.loop-i.invariant)
