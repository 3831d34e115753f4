-- `pair_points::joined` meets its contract. Assumes nothing.
use Rattle.std.proofs.Common.{◌≡◌, ◌<◌, min, length, refl, sym, ap, ◌∙◌, add-one, arith}
use Rattle.lists.specs.Lists.{some_below}
use Rattle.lists.proofs.Lists.{some_below_found}
use Rattle.table.specs.Table.{writer_of, reads, joins}
use Rattle.pair_points.specs.Parts.{goes_from}
use Rattle.pair_points.proofs.WithinArrays.{joined_within_arrays}
use Rattle.pair_points.proofs.joined.Goals as goal

pub loop-l-init : goal.loop-l-init
unfolding some_below
loop-l-init c = refl

pub loop-l-preserved : goal.loop-l-preserved
unfolding some_below
loop-l-preserved c = rw (add-one, c.loop-l.invariant) (sym c.goes.ensures ∙ c.if-goes.false)

pub returns-then-goes : goal.returns-then-goes
unfolding joins writer_of reads
returns-then-goes c =
    let l = c.loop-l.l in
    let inside : l < c.args.table.now.labels = omega (arith, c.min-l-end.ensures) in
    sym (some_below_found c.args.table.now.labels _ l inside (sym c.goes.ensures ∙ c.if-goes.true))

pub returns : goal.returns
unfolding joins writer_of reads
returns c =
    let table = c.args.table.now in
    let all : c.loop-l.l ≡ min table.labels 64 = omega (arith, c.min-l-end.ensures, c.loop-l.auto.l-end) in
    let long : length table.readers ≡ 64 = omega arith in
    sym c.loop-l.invariant
    ∙ ap (λ k. some_below k (goes_from table.writer table.readers c.args.w c.args.r)) all
    ∙ joined_within_arrays table.writer table.readers c.args.w c.args.r long table.labels
