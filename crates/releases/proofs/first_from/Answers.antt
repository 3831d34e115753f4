-- `releases::first_from` meets its contract. Assumes nothing.
use Rattle.std.proofs.Common.{sym}
use Rattle.times.specs.Releases.{release, ceil, first_from}
use Rattle.times.proofs.Releases.{release_of_zero}
use Rattle.releases.proofs.first_from.Goals as goal

pub returns-then-task-eq0-clause-is : goal.returns-then-task-eq0-clause-is
unfolding first_from
returns-then-task-eq0-clause-is c =
    let args = c.args in
    sym (release_of_zero args.task c.if-task-eq0.true (ceil args.t args.task.period))

pub returns-clause-is : goal.returns-clause-is
unfolding first_from release
returns-clause-is c = rw c.from-period.ensures
