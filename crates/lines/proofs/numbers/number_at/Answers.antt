-- `lines::numbers::number_at` meets its contract. Assumes nothing.
use Rattle.std.proofs.Common.{◌≡◌, true, arith, sym, ◌∙◌}
use Rattle.std.proofs.lemmas.Grind.{common_steps}
use Rattle.lines.specs.Digits.{space_at}
use Rattle.lines.specs.Numbers.{number_at}
use Rattle.lines.proofs.Inside.{decimal_inside, space_inside}
use Rattle.lines.proofs.numbers.number_at.Goals as goal
use Rattle.lines.proofs.numbers.number_at.Goals.{Then-spaced}

-- a space stands there
space_there : (c : Then-spaced) → space_at c.args.text.now c.args.at ≡ true
space_there c = sym c.spaced.ensures ∙ c.if-spaced.true

pub overflow_add-at : goal.overflow_add-at
overflow_add-at c = omega (arith, space_inside _ _ (space_there c))

pub overflow_add-at-then-is_some : goal.overflow_add-at-then-is_some
overflow_add-at-then-is_some c =
    omega (arith, space_inside _ _ (space_there (goal.at.overflow_add-at-then-is_some c).Then-spaced))

pub digits_from-requires : goal.digits_from-requires
digits_from-requires c = decimal_inside _ _ (grind (arith, common_steps))

pub returns-then-is_some : goal.returns-then-is_some
unfolding number_at
returns-then-is_some c = grind (arith, common_steps)

pub returns-else-spaced : goal.returns-else-spaced
unfolding number_at
returns-else-spaced c = grind (arith, common_steps)
