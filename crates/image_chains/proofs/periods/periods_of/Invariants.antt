-- `image_chains::periods::periods_of`: the periods of the tasks passed are there. Assumes nothing.
use Rattle.image_chains.proofs.ChainPeriods.{Passed}
use Rattle.image_chains.proofs.periods.periods_of.Given as goal

abbrev pub invariant-loop-i : goal.invariant-loop-i
invariant-loop-i l = Passed l.table.period l.task-items l.initial.periods l.i l.periods
