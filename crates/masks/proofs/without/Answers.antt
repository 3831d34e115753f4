-- `masks::without` meets its contract. Assumes nothing.
use Prim.Native.Nat.{suc, ◌-◌, ◌/◌, ◌^◌, ◌≤◌, ◌<◌}
use mathlib.Core.Path.{◌≡◌, refl}
use native.Mathlib.Omega.{arith}
use lib.Pow.{pow_pos}
use Rattle.masks.specs.Masks.{alone}
use Rattle.masks.proofs.Bitwise.{shifted_alone}
use Rattle.masks.proofs.OfLabels.{first_known, first_within}
use Rattle.masks.proofs.without.Goals as goal
use Rattle.masks.proofs.without.Goals.{Start}

-- the first label is known, and its bit is in the mask
first_label : (c : Start) → (c.args.first < 64) × (alone 64 c.args.first ≤ c.args.labels)
first_label c = rw c.requires.1 (
  first_known c.args.labels c.requires.0 c.ranges.labels.fits,
  first_within c.args.labels c.requires.0 c.ranges.labels.fits,
)

shifted : (c : Start) → 9223372036854775808 / 2 ^ c.args.first ≡ alone 64 c.args.first
shifted c = shifted_alone 64 c.args.first (first_label c).0

pub overflow_sub-result : goal.overflow_sub-result
overflow_sub-result c = rw (shifted c) (first_label c).1

pub returns : goal.returns
returns c = rw (shifted c) (refl, omega (arith, pow_pos (64 - suc c.args.first), (first_label c).1))

pub overflow_shr-result : goal.overflow_shr-result
overflow_shr-result c =
    (first_label c).0
