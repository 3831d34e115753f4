-- `all_fields::endings::read_fill`: the bits of the fill passed were 0. Assumes nothing.
use Prim.Native.Nat.{◌-◌}
use mathlib.Core.Path.{◌≡◌}
use Rattle.taking.proofs.Filling.{FillPassed}
use Rattle.all_fields.proofs.endings.read_fill.Given as goal

abbrev pub invariant-loop : goal.invariant-loop
invariant-loop l = record {
  passed : FillPassed 9 l.initial.reader.image.now l.initial.reader.at (l.counter - l.initial.reader.at);
  on : l.reader.at ≡ l.counter;
  image : l.reader.image ≡ l.initial.reader.image;
}
