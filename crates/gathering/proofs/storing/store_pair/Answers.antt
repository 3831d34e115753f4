-- `gathering::storing::store_pair` meets its contract. Assumes nothing.
use Rattle.std.proofs.Common.{sym, ◌∙◌}
use Rattle.gathering.specs.Pairs.{pair_counted}
use Rattle.gathering.proofs.InArray.{adds_none, adds_one}
use Rattle.gathering.proofs.storing.store_pair.Goals as goal

pub returns-then-on_core-clause-adds : goal.returns-then-on_core-clause-adds
unfolding pair_counted
returns-then-on_core-clause-adds c =
    rw (sym c.on_core.ensures ∙ c.if-on_core.true, c.store.ensures, c.counter_of.ensures) (adds_one _ _ _ _)

pub returns-else-on_core-clause-adds : goal.returns-else-on_core-clause-adds
unfolding pair_counted
returns-else-on_core-clause-adds c =
    rw (sym c.on_core.ensures ∙ c.if-on_core.false) (adds_none _ _ _)
