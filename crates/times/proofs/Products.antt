-- The largest product of two numbers below 2^32. Assumes nothing.
use Prim.Native.Nat.{ℕ, ◌*◌, ◌-◌, ◌^◌, ◌<◌, ◌≤◌}
use native.Mathlib.Nat.{mul-le-mul}
use native.Mathlib.Omega.{arith}

pub product_at_most : (a b : ℕ) → a < 2 ^ 32 → b < 2 ^ 32 → a * b ≤ (2 ^ 32 - 1) * (2 ^ 32 - 1)
product_at_most a b ha hb =
    let left : a ≤ 2 ^ 32 - 1 = omega arith in
    let right : b ≤ 2 ^ 32 - 1 = omega arith in
    mul-le-mul left right
