-- Numbers in decimal, each after one space. Assumes nothing.
use Rattle.std.specs.Prelude.{ℕ, zero, suc, ◌+◌, ◌*◌, Bool, cond, ◌&&◌, List, ltb, is_some, Option, None, Some}
use Rattle.std.specs.Option.{option_map, option_map_or, option_and_then}
use Rattle.lines.specs.Digits.{decimal_at, space_at}
use Rattle.lines.specs.declared.numbers.Number.{Number}
use Rattle.lines.specs.declared.numbers.Numbers.{Numbers}

-- what the decimal digits from a place on, at most so many, write after a number that was read before them: its
-- value, and where they end
unfoldable pub digits_from : (text : List ℕ) (most at value : ℕ) → Number
digits_from text zero at value = record { value = value; end = at }
digits_from text (suc most) at value =
    option_map_or (λ digit. digits_from text most (at + 1) (10 * value + digit)) (decimal_at text at)
    (record { value = value; end = at })

-- a space at this place, and then a number of 1 to 9 digits; none where they are missing
unfoldable pub number_at : (text : List ℕ) (at : ℕ) → Option Number
number_at text at =
    cond (space_at text at && is_some (decimal_at text (at + 1))) (Some (digits_from text 9 (at + 1) 0)) None

-- the same where it is asked for; else 0, which takes no place
abbrev pub number_if : (asked : Bool) (text : List ℕ) (at : ℕ) → Option Number
number_if asked text at = cond asked (number_at text at) (Some (record { value = 0; end = at }))

-- the first `count` of three numbers, one after the other, and 0 for the others; none where one of the `count` is missing
unfoldable pub numbers_at : (text : List ℕ) (at count : ℕ) → Option Numbers
numbers_at text at count =
    option_and_then
    (λ (first : Number). option_and_then
    (λ (second : Number). option_map
    (λ (third : Number). record { first = first.value; second = second.value; third = third.value; end = third.end })
    (number_if (ltb 2 count) text second.end))
    (number_if (ltb 1 count) text first.end))
    (number_if (ltb 0 count) text at)
