-- `releases::last_to` meets its contract. Assumes nothing.
use Rattle.std.proofs.Common.{refl, sym}
use Rattle.times.specs.Releases.{release, floor, last_to}
use Rattle.times.proofs.Releases.{release_of_zero}
use Rattle.releases.proofs.last_to.Goals as goal

pub returns-then-task-eq0-clause-is : goal.returns-then-task-eq0-clause-is
unfolding last_to
returns-then-task-eq0-clause-is c =
    let args = c.args in
    sym (release_of_zero args.task c.if-task-eq0.true (floor args.t args.task.period))

pub returns-clause-is : goal.returns-clause-is
unfolding last_to release
returns-clause-is c = rw c.from-period.ensures refl
