-- `table_texts::lengths::some_too_long` meets its contract. Assumes nothing.
use mathlib.Core.Path.{◌≡◌, sym, ◌∙◌}
use native.Mathlib.Omega.{arith}
use Rattle.lists.proofs.Lists.{some_below_found}
use Rattle.table_texts.proofs.EachPut.{none_tested, more_fail}
use Rattle.table_texts.proofs.lengths.some_too_long.Goals as goal

pub loop-core-init : goal.loop-core-init
loop-core-init c right = none_tested _

pub returns-then-too_long : goal.returns-then-too_long
returns-then-too_long c right =
    sym (some_below_found c.args.table.now.cores _ c.loop-core.core (omega arith)
    (sym (c.too_long.ensures right) ∙ c.if-too_long.true))

pub loop-core-preserved : goal.loop-core-preserved
loop-core-preserved c right =
    more_fail _ c.loop-core.core (c.loop-core.invariant right) (sym (c.too_long.ensures right) ∙ c.if-too_long.false)

pub returns : goal.returns
returns c right =
    let few = right.right.meets.cores.1 in
    let all : c.loop-core.core ≡ c.args.table.now.cores = omega arith in
    sym (rw all at (c.loop-core.invariant right))
