-- Bytes in hexadecimal, as document 01 writes an image: two digits each, after one space. Assumes nothing.
use Rattle.std.specs.Prelude.{ℕ, zero, suc, ◌+◌, ◌*◌, cond, List, [], ◌∷◌, Option, None}
use Rattle.std.specs.Option.{option_and_then, option_map, option_map_or}
use Rattle.lines.specs.Digits.{digit_at, space_at}

-- a space at this place, and then two digits: a byte; none where something else stands
unfoldable pub byte_at : (text : List ℕ) (at : ℕ) → Option ℕ
byte_at text at =
    cond (space_at text at)
    (option_and_then (λ high. option_map (λ low. 16 * high + low) (digit_at text (at + 2))) (digit_at text (at + 1)))
    None

-- the bytes that stand from a place on, at most so many
unfoldable pub bytes_from : (text : List ℕ) (most at : ℕ) → List ℕ
bytes_from text zero at = []
bytes_from text (suc most) at = option_map_or (λ byte. byte ∷ bytes_from text most (at + 3)) (byte_at text at) []
