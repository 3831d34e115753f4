-- `whole_texts::chain_lines::put_chains` meets its contract. Assumes nothing.
use mathlib.Core.Path.{◌≡◌}
use native.Mathlib.Omega.{arith}
use Rattle.table.proofs.MeetsRules.{accepted_meets_rules}
use Rattle.table_texts.proofs.EachPut.{none_put, one_more_put}
use Rattle.whole_texts.proofs.chain_lines.put_chains.Goals as goal

pub loop-chain-init : goal.loop-chain-init
loop-chain-init c whole accepted is = none_put _ _

pub loop-chain-preserved : goal.loop-chain-preserved
loop-chain-preserved c whole accepted is =
    one_more_put _ c.loop-chain.chain (c.loop-chain.invariant whole accepted is)
    (c.put_asked.ensures whole accepted (omega arith))

pub returns : goal.returns
returns c whole accepted is =
    let few = (accepted_meets_rules _ whole accepted).chains.1 in
    let all : c.loop-chain.chain ≡ c.args.chains = omega arith in
    rw all at (c.loop-chain.invariant whole accepted is)
