-- What is found at a place: the field's value or, where the bytes end inside or before it, refusal 1. Assumes nothing.
use Rattle.std.specs.Prelude.{ℕ, ◌+◌, cond, List, leb, Option, Some, None}
use Rattle.outcomes.specs.Outcome.{Outcome, gives, refuses}
use Rattle.bits.specs.Bits.{bit_count, field_at}

-- 1: "the image ends inside or before the next field", at the "start of that field"
unfoldable pub found_at : List ℕ → ℕ → ℕ → Outcome ℕ
found_at bytes at width = cond (leb (at + width) (bit_count bytes)) (gives (field_at bytes at width)) (refuses 1 at)

-- what the answer says of the field at bit `at`
abbrev pub said_of_found : ℕ → Option ℕ → Outcome ℕ
said_of_found at (Some value) = gives value
said_of_found at None = refuses 1 at
