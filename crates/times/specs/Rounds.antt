-- The hyperperiod H within its limit, or refusal 10. Document 01, Table image: "at most 1,000,000". Assumes nothing.
use Rattle.std.specs.Prelude.{ℕ, Bool, cond, leb, Option, Some, None}
use Rattle.outcomes.specs.Outcome.{Outcome, gives, refuses}

-- "at most 1,000,000"; so is 0, the least common multiple of periods of which one is 0
abbrev pub in_limit : ℕ → Bool
in_limit H = leb H 1000000

-- 10: "H above 1,000,000", at 0, however large it is
unfoldable pub within_limit : ℕ → Outcome ℕ
within_limit H = cond (in_limit H) (gives H) (refuses 10 0)

-- what the answer says of the hyperperiod
abbrev pub said_of_round : Option ℕ → Outcome ℕ
said_of_round (Some H) = gives H
said_of_round None = refuses 10 0
