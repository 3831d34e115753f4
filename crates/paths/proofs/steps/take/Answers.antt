-- `paths::steps::take` meets its contract. Assumes nothing.
use Prim.Native.Nat.{◌-◌, ◌≤◌}
use native.Mathlib.Omega.{arith}
use lib.ListN.{length}
use Rattle.quotients.specs.Paces.{periods_of}
use Rattle.following.proofs.Paces.{period_at}
use Rattle.paths.proofs.Takes.{start_kept, end_kept, may_count, path_taken}
use Rattle.paths.proofs.steps.take.Goals as goal
use Rattle.paths.proofs.steps.take.Goals.{Else-end-walk}

pub returns-then-start-walk : goal.returns-then-start-walk
returns-then-start-walk c at taking =
    rw c.moved_to.ensures
    (start_kept (periods_of c.args.paces.now) taking c.if-round-walk.false c.if-start-walk.true)

pub returns-then-end-walk : goal.returns-then-end-walk
returns-then-end-walk c at taking =
    rw c.moved_to-then-end-walk.ensures
    (end_kept (periods_of c.args.paces.now) taking c.if-round-walk.false c.if-start-walk.false c.if-end-walk.true)

-- where a path is counted, the chain is right: it has a last task
some : (c : Else-end-walk) → 2 ≤ length c.args.paces.now
some c = c.requires.1.right.some

pub with_path-counted-requires : goal.with_path-counted-requires
with_path-counted-requires c =
    let paces = c.args.paces.now in
    let two = some (goal.at.with_path-counted-requires c).Else-end-walk in
    let first = period_at paces 0 c.index-paces-0.result (omega arith) in
    let last = period_at paces (length paces - 1) c.index-paces-paces.result (omega arith) in
    rw (first, last) at (may_count (periods_of paces) c.requires.1 c.if-round-walk.false c.if-start-walk.false)

pub returns : goal.returns
returns c at taking =
    let paces = c.args.paces.now in
    let two = some (goal.at.returns c).Else-end-walk in
    let first = period_at paces 0 c.index-paces-0.result (omega arith) in
    let last = period_at paces (length paces - 1) c.index-paces-paces.result (omega arith) in
    rw (c.moved_to-2.ensures, c.with_path-counted.ensures)
    (rw (first, last) at (path_taken (periods_of paces) taking c.if-round-walk.false c.if-start-walk.false c.if-end-walk.false))
