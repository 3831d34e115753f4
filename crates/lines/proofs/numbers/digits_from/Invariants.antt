-- What holds in the loop of `lines::numbers::digits_from`: what is left to read completes the number, and so many digits
-- make no more than they can. Assumes nothing.
use Rattle.std.proofs.Common.{◌≡◌, ◌<◌, ◌+◌, ◌-◌, ◌^◌}
use Rattle.lines.specs.Numbers.{digits_from}
use Rattle.lines.proofs.numbers.digits_from.Given as goal

abbrev pub invariant-loop-end : goal.invariant-loop-end
invariant-loop-end l =
    record {
      small : l.value < 10 ^ (l.end - l.at);
      rest : digits_from l.text 9 l.at 0 ≡ digits_from l.text (l.at + 9 - l.end) l.end l.value;
    }
