-- `frames::gather_both` meets its contract. Assumes nothing.
use mathlib.Core.Bool.{true, false}
use Rattle.counting.proofs.Start.{count_few}
use Rattle.frames.proofs.gather_both.Goals as goal

pub returns : goal.returns
returns c =
    let published = c.gather-first.ensures in
    let read = c.gather-second.ensures in record {
      published = published;
      read = read;
      few_publishing = count_few false c.args.core _ _ _ published;
      few_reading = count_few true c.args.core _ _ _ read;
    }
