-- `paths::count_paths` meets its contract. The loop's invariant: the paths before the start that the walk has come to are
-- counted. The measure is how far the instant is from the one at which the round's end is published. Assumes nothing.
use mathlib.Core.Path.{◌≡◌, sym, ap, ◌∙◌}
use mathlib.Core.List.{List}
use native.Mathlib.Omega.{arith}
use lib.ListN.{length, take}
use Rattle.quotients.specs.declared.pace.Pace.{Pace}
use Rattle.quotients.specs.Paces.{periods_of}
use Rattle.following.proofs.Paces.{length_periods}
use Rattle.paths.specs.Walks.{RightChain, SumsOfRound, Walking}
use Rattle.paths.proofs.Begins.{begun, all_counted}
use Rattle.paths.proofs.Inside.{before_the_last}
use Rattle.paths.proofs.count_paths.Goals as goal
use Rattle.paths.proofs.count_paths.Goals.{After-paces_of, In-loop-walk}

-- the chain of the paces is the one of the periods
module _ (c : After-paces_of) where
  abbrev paces : List Pace
  paces = take (length c.args.periods.now) c.paces_of.new.paces

  long : length paces ≡ length c.args.periods.now
  long = sym (length_periods paces) ∙ ap length c.paces_of.ensures.first

  right : RightChain (periods_of paces) (length paces) c.args.round
  right = rw (c.paces_of.ensures.first, long) c.requires

pub loop-walk-init : goal.loop-walk-init
loop-walk-init c =
    let filled = (goal.at.loop-walk-init c).After-paces_of in
    rw c.begun-walk.ensures (begun (periods_of (paces filled)) (right filled) c.slowest-at.ensures)

-- inside the round
walking : (c : In-loop-walk)
    → let filled = (goal.at.In-loop-walk c).After-paces_of in
    Walking (periods_of (paces filled)) (length (paces filled)) c.slowest-at.result c.args.round c.loop-walk.walk
walking c =
    let filled = (goal.at.In-loop-walk c).After-paces_of in
    record {
      right = right filled;
      inside = c.slowest-at.ensures;
      walks = c.loop-walk.invariant;
      within = c.loop-walk-test.true;
    }

pub loop-walk-smaller : goal.loop-walk-smaller
loop-walk-smaller c =
    let filled = (goal.at.loop-walk-smaller c).After-paces_of in
    let turn = (goal.at.loop-walk-smaller c).In-loop-walk in
    omega (arith, before_the_last (periods_of (paces filled)) (walking turn), c.step-walk.ensures.1)

pub returns : goal.returns
returns c =
    let filled = (goal.at.returns c).After-paces_of in
    let counted : SumsOfRound (periods_of (paces filled)) (length (paces filled)) c.args.round c.loop-walk.walk =
    all_counted (periods_of (paces filled)) (right filled) c.slowest-at.ensures c.loop-walk.invariant c.loop-walk-test.false in
    rw (c.paces_of.ensures.first, long filled) at counted
