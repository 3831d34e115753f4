-- `texts::Text::put_number` meets its contract. Assumes nothing.
use Prim.Native.Nat.{ℕ, ◌/◌, ◌%◌, ◌+◌, ◌<◌, ◌≤◌}
use mathlib.Core.List.{[], ◌∷◌, ◌++◌}
use mathlib.Core.Path.{◌≡◌, ap, ◌∙◌}
use native.Mathlib.Omega.{arith}
use Rattle.printing.specs.Words.{decimal}
use Rattle.texts.proofs.Decimals.{decimal_small, decimal_more, decimal_written}
use Rattle.texts.proofs.Putting.{put_then}
use Rattle.texts.proofs.Text.put_number.Goals as goal

-- a number of two digits
two_digits : (n : ℕ) → 10 ≤ n → n < 100 → decimal n ≡ ((48 + n / 10) ∷ []) ++ (48 + n % 10) ∷ []
two_digits n large small =
    decimal_more n large ∙ ap (λ first. first ++ (48 + n % 10) ∷ []) (decimal_small (n / 10) (omega arith))

pub returns-then-number-lt10 : goal.returns-then-number-lt10
returns-then-number-lt10 c = rw (decimal_small _ c.if-number-lt10.true) c.put_byte.ensures

pub returns-then-number-lt100 : goal.returns-then-number-lt100
returns-then-number-lt100 c =
    rw (two_digits _ c.if-number-lt10.false c.if-number-lt100.true)
    (put_then c.put_byte-then-number-lt100.ensures c.put_byte-then-number-lt100-2.ensures)

pub returns-else-number-lt100 : goal.returns-else-number-lt100
returns-else-number-lt100 c =
    rw (c.as_bytes.ensures.value ∙ c.format.ensures.text ∙ decimal_written _ c.ranges.number.fits) at c.put_word.ensures
