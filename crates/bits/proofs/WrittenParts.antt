-- The bits of a value in two parts, and that only its lower bits count. No contract cites this file. Assumes nothing.
use Prim.Native.Nat.{ℕ, zero, suc, ◌+◌, ◌-◌, ◌*◌, ◌/◌, ◌%◌, ◌^◌, ◌<◌, ◌≤◌}
use mathlib.Core.Path.{◌≡◌, refl, sym, ap, ap₂, ◌∙◌}
use mathlib.Core.List.{◌++◌}
use native.Mathlib.Nat.{zero-add, suc-add, add_comm}
use native.Mathlib.Omega.{arith}
use lib.Pow.{shr-shr, field, mod-mod-pow, high, low}
use Rattle.bits.specs.Packing.{bits_of}

-- the upper m bits, and then the lower n
pub written_parts : (m n v : ℕ) → bits_of (m + n) v ≡ bits_of m (v / 2 ^ n) ++ bits_of n v
unfolding bits_of
written_parts zero n v = rw zero-add
written_parts (suc m) n v = rw (suc-add, shr-shr v n m, add_comm n m, written_parts m n v)

-- only the lower bits of a value are written
pub written_low : (w k v : ℕ) → w ≤ k → bits_of w (v % 2 ^ k) ≡ bits_of w v
unfolding bits_of
written_low zero k v le = refl
written_low (suc w) k v le =
    let u : ℕ = k - suc w in
    let width : k ≡ u + 1 + w = omega arith in
    let bit : v % 2 ^ k / 2 ^ w % 2 ≡ v / 2 ^ w % 2 = rw (width, field v (u + 1) w) (mod-mod-pow (v / 2 ^ w) u 1) in
    rw (bit, written_low w k v (omega arith))

-- a value in front of another
pub written_joined : (m n a b : ℕ) → b < 2 ^ n → bits_of (m + n) (a * 2 ^ n + b) ≡ bits_of m a ++ bits_of n b
written_joined m n a b small =
    written_parts m n (a * 2 ^ n + b)
    ∙ ap₂ (λ u v. bits_of m u ++ v) (high a n small)
    (sym (written_low n n (a * 2 ^ n + b) (omega arith)) ∙ ap (bits_of n) (low a n small))
