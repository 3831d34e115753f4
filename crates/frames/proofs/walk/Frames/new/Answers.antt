-- `frames::walk::Frames::new` meets its contract. Assumes nothing.
use Rattle.copies.proofs.Turns.{none_passed}
use Rattle.frames.proofs.walk.Frames.new.Goals as goal

pub returns-clause-starts : goal.returns-clause-starts
returns-clause-starts c core right masks ready = record {
  none = none_passed c.args.table.now core;
  walks = record { right = right; masks = masks; ready = ready };
}
