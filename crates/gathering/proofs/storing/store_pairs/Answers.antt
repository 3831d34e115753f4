-- `gathering::storing::store_pairs` meets its contract. Assumes nothing.
use Rattle.std.proofs.Common.{◌≡◌, ◌∙◌, ap, length, arith, length-append}
use Rattle.lists.specs.Lists.{each_of}
use Rattle.masks.proofs.Rising.{each_more}
use Rattle.readers.specs.NextReader.{readers_in}
use Rattle.gathering.specs.Pairs.{pairs_with}
use Rattle.gathering.proofs.InArray.{adds_none, adds_then}
use Rattle.gathering.proofs.MetTasks.{all_tasks, few_met, few_tasks}
use Rattle.gathering.proofs.storing.store_pairs.Goals as goal
use Rattle.gathering.proofs.storing.store_pairs.Goals.{After-into_iter-r-iterator}

-- the loop goes over the readers of the mask
whole : (c : After-into_iter-r-iterator) → c.into_iter-r-iterator.result ≡ readers_in c.args.mask
whole c = c.into_iter-r-iterator.ensures.into_iter_gives ∙ c.readers-r-items.ensures

pub loop-r-init : goal.loop-r-init
unfolding each_of
loop-r-init c = record { few = omega arith; adds = adds_none _ _ _ }

pub store_pair-more-requires-clause-room : goal.store_pair-more-requires-clause-room
store_pair-more-requires-clause-room c =
    let met = few_met _ _ _ _ (whole (goal.at.store_pair-more-requires-clause-room c).After-into_iter-r-iterator)
    c.loop-r.yielded_by c.in-Some.ensures.steps in
    omega (arith, c.requires.room, c.loop-r.invariant.few, met)

pub loop-r-preserved : goal.loop-r-preserved
loop-r-preserved c =
    record {
      few = rw length-append (omega (arith, c.loop-r.invariant.few, c.store_pair-more.ensures.few));
      adds = rw each_more (adds_then _ c.loop-r.invariant.adds c.store_pair-more.ensures.adds);
    }

pub returns : goal.returns
unfolding pairs_with
returns c =
    let all = all_tasks _ _ _ (whole (goal.at.returns c).After-into_iter-r-iterator) c.loop-r.yielded_by c.in-None.ensures.steps in
    record {
      adds = rw (← all) c.loop-r.invariant.adds;
      few = omega (arith, c.loop-r.invariant.few, ap length all, few_tasks c.args.mask);
    }
