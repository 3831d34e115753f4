-- `table_texts::put_cores` meets its contract. Assumes nothing.
use mathlib.Core.Path.{◌≡◌}
use native.Mathlib.Omega.{arith}
use Rattle.table_texts.proofs.EachPut.{none_put, one_more_put}
use Rattle.table_texts.proofs.put_cores.Goals as goal

pub loop-core-init : goal.loop-core-init
loop-core-init c right = none_put _ _

pub loop-core-preserved : goal.loop-core-preserved
loop-core-preserved c right =
    one_more_put _ c.loop-core.core (c.loop-core.invariant right) (c.put_core_text.ensures right)

pub returns : goal.returns
returns c right =
    let few = right.right.meets.cores.1 in
    let all : c.loop-core.core ≡ c.args.table.now.cores = omega arith in
    rw all at (c.loop-core.invariant right)
