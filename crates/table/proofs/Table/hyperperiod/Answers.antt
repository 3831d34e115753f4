-- `Table::hyperperiod` meets its contract: an array of 32 periods has no more than its 32 first. Assumes nothing.
use Rattle.std.proofs.Common.{rules, length, min}
use mathlib.Core.Path.{◌≡◌, sym, ap, ◌∙◌}
use lib.ListN.{take}
use Rattle.times.specs.Hyperperiod.{lcm_of}
use Rattle.times.specs.Rounds.{within_limit}
use Rattle.times.proofs.Limit.{take_at_most}
use Rattle.table.specs.Table.{hyperperiod_of}
use Rattle.table.proofs.Table.hyperperiod.Goals as goal

pub returns : goal.returns
unfolding hyperperiod_of
returns c =
    let long : length c.args.self.now.period ≡ 32 = search rules in
    let some : take c.min.result c.args.self.now.period ≡ take c.args.self.now.tasks c.args.self.now.period =
    ap (λ k. take k c.args.self.now.period) (c.min.ensures ∙ ap (min c.args.self.now.tasks) (sym long))
    ∙ take_at_most _ _ in
    c.hyperperiod.ensures ∙ ap (λ l. within_limit (lcm_of l)) some
