-- `case_bytes::byte_at` meets its contract. Assumes nothing.
use Rattle.std.proofs.Common.{◌≡◌, ◌+◌, ◌<◌, true, arith, sym, ◌∙◌}
use Rattle.std.proofs.lemmas.Grind.{common_steps}
use Rattle.lines.specs.Digits.{space_at}
use Rattle.lines.proofs.Inside.{space_inside}
use Rattle.lines.proofs.Small.{digit_small}
use Rattle.case_bytes.specs.Images.{byte_at}
use Rattle.case_bytes.proofs.byte_at.Goals as goal
use Rattle.case_bytes.proofs.byte_at.Goals.{Else-not-spaced, In_ok-low}

pub returns-then-not-spaced : goal.returns-then-not-spaced
unfolding byte_at
returns-then-not-spaced c = grind (arith, common_steps)

-- a space stands there
space_there : (c : Else-not-spaced) → space_at c.args.text.now c.args.at ≡ true
space_there c = sym c.spaced.ensures ∙ c.if-not-spaced.false

pub overflow_add-at : goal.overflow_add-at
overflow_add-at c = omega (arith, space_inside _ _ (space_there c))

pub overflow_add-at-2 : goal.overflow_add-at-2
overflow_add-at-2 c = omega (arith, space_inside _ _ (space_there (goal.at.overflow_add-at-2 c).Else-not-spaced))

pub returns-in_err-high : goal.returns-in_err-high
unfolding byte_at
returns-in_err-high c = grind (arith, common_steps)

pub returns-in_err-low : goal.returns-in_err-low
unfolding byte_at
returns-in_err-low c = grind (arith, common_steps)

-- both digits are below 16
small : (c : In_ok-low) → (c.in_ok-high.high < 16) × (c.in_ok-low.low < 16)
small c = (
  rw (sym c.digit_at.ensures ∙ c.in_ok-high.was) at (digit_small c.args.text.now (c.args.at + 1)),
  rw (sym c.digit_at-2.ensures ∙ c.in_ok-low.was) at (digit_small c.args.text.now (c.args.at + 2)),
)

pub overflow_mul-result : goal.overflow_mul-result
overflow_mul-result c = omega (arith, small c)

pub overflow_add-result : goal.overflow_add-result
overflow_add-result c = omega (arith, small c)

pub returns : goal.returns
unfolding byte_at
returns c = grind (arith, common_steps)
