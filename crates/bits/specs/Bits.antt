-- Bits and fields of a string of bytes. Document 01, Table image: "Fields are packed without gaps, most significant bit
-- first, the first bit of the image being the top bit of byte 0." Assumes nothing.
use Rattle.std.specs.Prelude.{ℕ, zero, suc, ◌+◌, ◌*◌, ◌-◌, ◌/◌, ◌%◌, ◌^◌, List, length, get_or}

-- how many bits a string of bytes has
unfoldable pub bit_count : List ℕ → ℕ
bit_count bytes = 8 * length bytes

-- bit k: bit 0 is the top bit of byte 0, bit 8 the top bit of byte 1; past the end, 0
unfoldable pub bit_at : List ℕ → ℕ → ℕ
bit_at bytes k = get_or bytes (k / 8) 0 / 2 ^ (7 - k % 8) % 2

-- the field of `width` bits that starts at bit `at`: a number, its most significant bit first
unfoldable pub field_at : List ℕ → ℕ → ℕ → ℕ
field_at bytes at zero = 0
field_at bytes at (suc width) = field_at bytes at width * 2 + bit_at bytes (at + width)
