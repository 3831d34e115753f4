-- `hyperperiod` meets its contract: the answer may be taken from the value that is held at 1,000,001. Assumes nothing.
use mathlib.Core.Path.{◌≡◌, sym, ap, ◌∙◌}
use native.Mathlib.Omega.{arith}
use Rattle.times.specs.Hyperperiod.{lcm_of}
use Rattle.times.specs.Rounds.{within_limit}
use Rattle.times.proofs.Limit.{round_held, round_within, round_above}
use Rattle.times.proofs.rounds.hyperperiod.Goals as goal
use Rattle.times.proofs.rounds.hyperperiod.Goals.{After-round_up_to_limit-running}

limit_of_running : (c : After-round_up_to_limit-running)
    → within_limit c.round_up_to_limit-running.result ≡ within_limit (lcm_of c.args.periods.now)
limit_of_running c = ap within_limit c.round_up_to_limit-running.ensures ∙ round_held _

pub returns-then-running-le1000000 : goal.returns-then-running-le1000000
returns-then-running-le1000000 c = sym (round_within _ (omega arith)) ∙ limit_of_running (goal.at.returns-then-running-le1000000 c).After-round_up_to_limit-running

pub returns-else-running-le1000000 : goal.returns-else-running-le1000000
returns-else-running-le1000000 c = sym (round_above _ (omega arith)) ∙ limit_of_running (goal.at.returns-else-running-le1000000 c).After-round_up_to_limit-running
