-- `bits::power` meets its contract: below 64 places the shifted 1 keeps its value. Assumes nothing.
use native.Mathlib.Nat.{one-mul, mod-eq_of_lt}
use lib.Pow.{pow-lt}
use Rattle.bits.proofs.power.Goals as goal

pub returns : goal.returns
returns c = rw one-mul (mod-eq_of_lt (pow-lt {j = 64} c.requires))
