-- How large a digit is. No contract cites this file. Assumes nothing.
use Rattle.std.specs.Prelude.{ℕ, ◌<◌, get_or, List, Option, None, Some, IfSome}
use Rattle.std.proofs.Common.{arith}
use Rattle.std.proofs.lemmas.Grind.{common_steps}
use Rattle.lines.specs.Digits.{digit_of, digit_at, decimal_of, decimal_at}

-- a hexadecimal digit
digit_of_small : (byte : ℕ) → IfSome (digit_of byte) (λ digit. digit < 16)
digit_of_small byte = grind (arith, common_steps)

pub digit_small : (text : List ℕ) (at : ℕ) → IfSome (digit_at text at) (λ digit. digit < 16)
unfolding digit_at
digit_small text at = digit_of_small (get_or text at 0)

-- a decimal digit
decimal_of_small : (found : Option ℕ) → IfSome (decimal_of found) (λ digit. digit < 10)
decimal_of_small None = tt
decimal_of_small (Some digit) = grind (arith, common_steps)

pub decimal_small : (text : List ℕ) (at : ℕ) → IfSome (decimal_at text at) (λ digit. digit < 10)
unfolding decimal_at
decimal_small text at = decimal_of_small (digit_at text at)
