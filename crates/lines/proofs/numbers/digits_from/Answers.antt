-- `lines::numbers::digits_from` meets its contract. Assumes nothing.
use Rattle.std.proofs.Common.{◌≡◌, ◌+◌, ◌-◌, ◌^◌, ◌<◌, ◌≤◌, suc, arith, refl, sym, ◌∙◌}
use Rattle.lines.specs.Numbers.{digits_from}
use Rattle.lines.proofs.Small.{decimal_small}
use native.Mathlib.Nat.{pow-suc, pow-le-pow_right}
use Rattle.lines.proofs.numbers.digits_from.Goals as goal
use Rattle.lines.proofs.numbers.digits_from.Goals.{In-Some}

-- before the last digit there are fewer than 9
few : (c : In-Some) → c.loop-end.value < 10 ^ 8
few c =
    let loop = c.loop-end in
    let fewer : 10 ^ (loop.end - c.args.at) ≤ 10 ^ 8 = pow-le-pow_right (omega arith) {j = 8} (omega arith) in
    omega (arith, loop.invariant.small)

small : (c : In-Some) → c.in-Some.digit < 10
small c = rw (sym c.decimal_at.ensures ∙ c.in-Some.is) at (decimal_small c.args.text.now c.loop-end.end)

pub overflow_mul-value : goal.overflow_mul-value
overflow_mul-value c = omega (arith, few c)

pub overflow_add-value : goal.overflow_add-value
overflow_add-value c =
    let there = (goal.at.overflow_add-value c).In-Some in
    omega (arith, few there, small there)

-- one digit more, or none
pub returns-in_default : goal.returns-in_default
unfolding digits_from
returns-in_default c =
    let loop = c.loop-end in
    let next : c.args.at + 9 - loop.end ≡ suc (c.args.at + 8 - loop.end) = omega arith in
    let none = sym c.decimal_at.ensures ∙ c.in_default.is in
    sym (loop.invariant.rest ∙ rw (next, none) refl)

pub loop-end-preserved : goal.loop-end-preserved
unfolding digits_from
loop-end-preserved c =
    let loop = c.loop-end in
    let next : c.args.at + 9 - loop.end ≡ suc (c.args.at + 9 - (loop.end + 1)) = omega arith in
    let further : loop.end + 1 - c.args.at ≡ suc (loop.end - c.args.at) = omega arith in
    let there = sym c.decimal_at.ensures ∙ c.in-Some.is in
    record {
      small = rw (further, pow-suc) (omega (arith, loop.invariant.small, small (goal.at.loop-end-preserved c).In-Some));
      rest = loop.invariant.rest ∙ rw (next, there, c.from.ensures) refl;
    }

pub returns : goal.returns
unfolding digits_from
returns c =
    let loop = c.loop-end in
    let none : c.args.at + 9 - loop.end ≡ 0 = omega arith in
    let here : loop.end ≡ c.args.at + 9 = omega arith in
    sym (loop.invariant.rest ∙ rw (none, here) refl)
