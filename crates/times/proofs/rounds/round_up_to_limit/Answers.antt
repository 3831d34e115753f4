-- `round_up_to_limit` meets its contract. Assumes nothing.
use mathlib.Core.Path.{refl, ap, ◌∙◌}
use lib.Seq.{take_all}
use Rattle.times.specs.Hyperperiod.{lcm_of, lcm_from}
use Rattle.times.proofs.Limit.{held, held_more}
use Rattle.times.proofs.rounds.round_up_to_limit.Goals as goal

pub loop-period-init : goal.loop-period-init
unfolding lcm_of lcm_from
loop-period-init c = refl

pub loop-period-preserved : goal.loop-period-preserved
loop-period-preserved c =
    c.lcm_up_to_limit-running.ensures
    ∙ held_more c.args.periods.now c.loop-period.period-index c.loop-period.running c.loop-period-test.true
    c.loop-period.invariant

-- after the loop all are passed
pub returns : goal.returns
returns c =
    c.loop-period.invariant
    ∙ ap (λ l. held (lcm_of l)) (take_all c.loop-period.period-index c.args.periods.now c.loop-period-test.false)
