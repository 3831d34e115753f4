-- `aged_chains::ages_of` meets its contract. Assumes nothing.
use Prim.Native.Nat.{◌<◌}
use lib.ListN.{length}
use Rattle.std.proofs.Common.{rules}
use Rattle.aged_chains.proofs.ChainAged.{right_chain, best_first, chain_aged_lem}
use Rattle.aged_chains.proofs.ages_of.Goals as goal
use Rattle.aged_chains.proofs.ages_of.Goals.{After-round_up_to_limit-round}

-- past the refusal the chain has a task
known : (c : After-round_up_to_limit-round) → 0 < length c.args.periods.now
known c = search rules

pub count_paths-counted-requires : goal.count_paths-counted-requires
count_paths-counted-requires c =
    let found = (goal.at.count_paths-counted-requires c).After-round_up_to_limit-round in
    right_chain c.args.periods.now c.requires (known found) c.round_up_to_limit-round.ensures

pub overflow_sub-result : goal.overflow_sub-result
overflow_sub-result c =
    let found = (goal.at.overflow_sub-result c).After-round_up_to_limit-round in
    best_first c.args.periods.now c.requires (known found) c.round_up_to_limit-round.ensures c.count_paths-counted.ensures

pub returns : goal.returns
returns c =
    let found = (goal.at.returns c).After-round_up_to_limit-round in
    chain_aged_lem c.args.periods.now c.requires (known found) c.round_up_to_limit-round.ensures
    c.count_paths-counted.ensures
