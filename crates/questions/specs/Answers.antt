-- What each answer says: for each case of a `Result` the numbers of document 01. Assumes nothing.
use Rattle.std.specs.Prelude.{ℕ, Result}
use Rattle.outcomes.specs.Outcome.{Outcome}
use Rattle.table.specs.Refusals.{said_of}
use Rattle.table.specs.declared.Refused.{Refused}
-- passed on from crates/pair_points, specs/PairPoints.antt: the points P(n) and Q(n), or the refusal's number and place
pub use Rattle.pair_points.specs.PairPoints.{said_of_points}
-- and from crates/aged_chains, specs/Aged.antt: "number of paths, longest length, worst age, best age, jitter", or the
-- refusal's number and place
pub use Rattle.aged_chains.specs.Aged.{said_of_ages}

-- how many bytes the listing fills, or the refusal's number and place
abbrev pub said_of_listing : Result ℕ Refused → Outcome ℕ
said_of_listing answer = said_of answer
