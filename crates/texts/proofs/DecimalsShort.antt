-- How many digits a number has: no more than k below the k-th power of ten. No contract cites this file. Assumes
-- nothing.
use Prim.Native.Nat.{ℕ, zero, suc, ◌+◌, ◌*◌, ◌/◌, ◌%◌, ◌^◌, ◌<◌, ◌≤◌}
use mathlib.Core.Logic.{by_cases}
use mathlib.Core.List.{[], ◌∷◌}
use mathlib.Core.Path.{◌≡◌, ap}
use native.Mathlib.Decide.{dec_lt}
use native.Mathlib.Nat.{pow-succ', pow-zero}
use native.Mathlib.Omega.{arith}
use lib.ListN.{length, length-append}
use Rattle.printing.specs.Words.{decimal}
use Rattle.texts.proofs.Decimals.{decimal_small, decimal_more}

one_digit : (k n : ℕ) → n < 10 → length (decimal n) ≤ suc k
one_digit k n small = omega (arith, ap length (decimal_small n small))

pub decimal_short : (k n : ℕ) → n < 10 ^ suc k → length (decimal n) ≤ suc k
decimal_short zero n below = one_digit 0 n (omega (arith, pow-succ' 10 0, pow-zero 10))
decimal_short (suc k) n below =
    let power : 10 ^ suc (suc k) ≡ 10 * 10 ^ suc k = pow-succ' 10 (suc k) in
    by_cases (dec_lt n 10) (one_digit (suc k) n)
    (λ large.
    let rest : length (decimal (n / 10)) ≤ suc k = decimal_short k (n / 10) (omega arith) in
    let at_least : 10 ≤ n = omega arith in
    omega (arith, ap length (decimal_more n at_least), length-append (decimal (n / 10)) ((48 + n % 10) ∷ [])))
