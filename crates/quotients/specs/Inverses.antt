-- What stands for a divisor. No contract of a question cites this file. Assumes nothing.
use Rattle.std.specs.Prelude.{ℕ, ◌+◌, ◌*◌, ◌/◌, ◌^◌, ◌<◌, ◌≤◌, ◌≡◌}

-- a factor and a shift: 2^shift is at least 2^25 times the divisor, and the factor is just above their quotient
pub record InverseOf (divisor factor shift : ℕ) : Type 0 where
  pub positive : 0 < divisor
  pub small : shift ≤ 45
  pub is : factor ≡ 2 ^ shift / divisor + 1
  pub wide : divisor * 33554432 ≤ 2 ^ shift
