-- `finish` of `packing::Pen` meets its contract: the bits that wait go out with zero bits behind them. Assumes nothing.
use Prim.Native.Nat.{◌%◌}
use mathlib.Core.Path.{◌≡◌, refl}
use native.Mathlib.Omega.{arith}
use Rattle.packing.proofs.Inking.{inked_length, inked_end}
use Rattle.packing.proofs.Pen.finish.Goals as goal

pub returns : goal.returns
returns c held bits inked counted =
    let pen = c.args.self in
    let waits = inked.few in
    let long = inked_length held _ bits pen inked in
    let place : pen.at % 2305843009213693952 ≡ pen.at = omega arith in
    let same : pen.filled % 32 ≡ pen.filled = omega arith in
    rw (c.store_some.ensures, place, same) (inked_end held _ bits pen inked _ _ (omega arith) refl)
