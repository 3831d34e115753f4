-- Where a field ends. Document 01, Table image: "Fields are packed without gaps": where one ends, the next one starts.
-- Assumes nothing.
use Rattle.std.specs.Prelude.{ℕ, ◌+◌, ◌-◌, ◌^◌, min}

-- the bit after a field of a width that starts at bit `at`; the greatest number of 64 bits, where it lies past that
abbrev pub place_after : ℕ → ℕ → ℕ
place_after at width = min (at + width) (2 ^ 64 - 1)
