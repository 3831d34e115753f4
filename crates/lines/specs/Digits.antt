-- Digits and spaces of a text. Assumes nothing.
use Rattle.std.specs.Prelude.{ℕ, ◌-◌, Bool, cond, List, eqb, ltb, get_or, Option, None, Some}

-- the value of a hexadecimal digit: "0" to "9" and "a" to "f"; none for any other byte
abbrev pub digit_of : ℕ → Option ℕ
digit_of byte =
    cond (ltb byte 48) None
    (cond (ltb byte 58) (Some (byte - 48))
    (cond (ltb byte 97) None
    (cond (ltb byte 103) (Some (byte - 87)) None)))

-- the digit at a place; past the end stands none
unfoldable pub digit_at : List ℕ → ℕ → Option ℕ
digit_at text at = digit_of (get_or text at 0)

-- the digit where it is a decimal one
abbrev pub decimal_of : Option ℕ → Option ℕ
decimal_of None = None
decimal_of (Some digit) = cond (ltb digit 10) (Some digit) None

-- the decimal digit at a place
unfoldable pub decimal_at : List ℕ → ℕ → Option ℕ
decimal_at text at = decimal_of (digit_at text at)

-- a space stands at a place
unfoldable pub space_at : List ℕ → ℕ → Bool
space_at text at = eqb (get_or text at 0) 32
