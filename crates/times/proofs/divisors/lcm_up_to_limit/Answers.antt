-- `lcm_up_to_limit` meets its contract: the quotient times b is the least common multiple, and both factors are below
-- 2^32. Assumes nothing.
use Prim.Native.Nat.{ℕ, ◌*◌, ◌/◌}
use mathlib.Core.Path.{◌≡◌, ap, ◌∙◌}
use native.Mathlib.Nat.{div-le_self, pos_of_ne-zero}
use native.Mathlib.Omega.{arith}
use Rattle.times.specs.Hyperperiod.{lcm}
use Rattle.times.proofs.Gcd.{gcd_positive_left}
use Rattle.times.proofs.Lcm.{lcm_zero_left}
use Rattle.times.proofs.Products.{product_at_most}
use Rattle.times.proofs.divisors.lcm_up_to_limit.Goals as goal
use Rattle.times.proofs.divisors.lcm_up_to_limit.Goals.{After-common_divisor}

pub returns-then-a-eq0 : goal.returns-then-a-eq0
returns-then-a-eq0 c =
    let b = c.args.b in
    omega (arith, ap (λ (k : ℕ). lcm k b) c.if-a-eq0.true ∙ lcm_zero_left b)

pub nonzero_div-multiple : goal.nonzero_div-multiple
nonzero_div-multiple c =
    let a = c.args.a in
    omega (arith, gcd_positive_left a c.args.b (pos_of_ne-zero c.if-a-eq0.false))

pub overflow_mul-multiple : goal.overflow_mul-multiple
overflow_mul-multiple c =
    let a = c.args.a in
    let quotient = div-le_self a c.common_divisor.result in
    let b = c.args.b in
    omega (arith, product_at_most (a / c.common_divisor.result) b (omega arith) (omega arith))

-- what is computed is the least common multiple
multiple_is_lcm
    : (c : After-common_divisor)
    → c.args.a / c.common_divisor.result * c.args.b
    ≡ lcm c.args.a c.args.b
unfolding lcm
multiple_is_lcm c =
    let args = c.args in
    ap (λ (g : ℕ). args.a / g * args.b) c.common_divisor.ensures

pub returns-then-multiple-le1000000 : goal.returns-then-multiple-le1000000
returns-then-multiple-le1000000 c = omega (arith, multiple_is_lcm (goal.at.returns-then-multiple-le1000000 c).After-common_divisor)

pub returns-else-multiple-le1000000 : goal.returns-else-multiple-le1000000
returns-else-multiple-le1000000 c = omega (arith, multiple_is_lcm (goal.at.returns-else-multiple-le1000000 c).After-common_divisor)
