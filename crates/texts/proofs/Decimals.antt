-- A number in decimal: below 10 it is one digit, and from 10 on the digits of its tenth and then its last digit. No
-- contract cites this file. Assumes nothing.
use Prim.Native.Nat.{ℕ, zero, suc, ◌+◌, ◌/◌, ◌%◌, ◌^◌, ◌<◌, ◌≤◌}
use mathlib.Core.Logic.{by_cases}
use mathlib.Core.List.{[], ◌∷◌, ◌++◌}
use mathlib.Core.Path.{◌≡◌, sym, ap, ◌∙◌}
use native.Mathlib.Decide.{dec_lt}
use native.Mathlib.Omega.{arith}
use borrow.Author.Tests.{lt-ltb, le-ltb}
use Rattle.std.specs.Fmt.{decimal as written}
use Rattle.std.proofs.lemmas.Fmt.{decimal_digit, decimal_step}
use Rattle.printing.specs.Words.{digits_in, decimal}

one_digit : (places n : ℕ) → n < 10 → digits_in (suc places) n ≡ (48 + n) ∷ []
unfolding digits_in
one_digit places n small = rw (lt-ltb n 10 small, digits_in)

more_digits : (places n : ℕ) → 10 ≤ n → digits_in (suc places) n ≡ digits_in places (n / 10) ++ (48 + n % 10) ∷ []
unfolding digits_in
more_digits places n large = rw (le-ltb n 10 large, digits_in)

-- any number of places that is larger than the number is enough
places_enough : (f g n : ℕ) → n < f → n < g → digits_in f n ≡ digits_in g n
places_enough zero g n in_f in_g = absurd (omega arith)
places_enough (suc f) zero n in_f in_g = absurd (omega arith)
places_enough (suc f) (suc g) n in_f in_g =
    by_cases (dec_lt n 10)
    (λ small. one_digit f n small ∙ sym (one_digit g n small))
    (λ large.
    let at_least : 10 ≤ n = omega arith in
    more_digits f n at_least
    ∙ ap (λ first. first ++ (48 + n % 10) ∷ []) (places_enough f g (n / 10) (omega arith) (omega arith))
    ∙ sym (more_digits g n at_least))

pub decimal_small : (n : ℕ) → n < 10 → decimal n ≡ (48 + n) ∷ []
unfolding decimal
decimal_small n small = one_digit n n small

pub decimal_more : (n : ℕ) → 10 ≤ n → decimal n ≡ decimal (n / 10) ++ (48 + n % 10) ∷ []
unfolding decimal
decimal_more n large =
    more_digits n n large
    ∙ ap (λ first. first ++ (48 + n % 10) ∷ []) (places_enough n (suc (n / 10)) (n / 10) (omega arith) (omega arith))

-- the library's decimal text is the same
said_alike : (places n : ℕ) → n < places → n < 2 ^ 64 → written n ≡ decimal n
said_alike zero n below few = absurd (omega arith)
said_alike (suc places) n below few =
    by_cases (dec_lt n 10)
    (λ small. decimal_digit n small ∙ sym (decimal_small n small))
    (λ large.
    let at_least : 10 ≤ n = omega arith in
    decimal_step n at_least few
    ∙ ap (λ first. first ++ (48 + n % 10) ∷ []) (said_alike places (n / 10) (omega arith) (omega arith))
    ∙ sym (decimal_more n at_least))

pub decimal_written : (n : ℕ) → n < 2 ^ 64 → written n ≡ decimal n
decimal_written n few = said_alike (suc n) n (omega arith) few
