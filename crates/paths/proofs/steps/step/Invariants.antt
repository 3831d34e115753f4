-- `paths::steps::step` meets its contract. The loop's invariant: one after the other the instants are taken. Assumes
-- nothing.
use lib.ListN.{length}
use Rattle.quotients.specs.Paces.{periods_of}
use Rattle.paths.proofs.Reached.{Reached}
use Rattle.paths.proofs.steps.step.Given as goal

abbrev pub invariant-loop-i : goal.invariant-loop-i
invariant-loop-i l = Reached (periods_of l.paces) (length l.paces) l.at l.round l.fn.walk l.i l.reached
