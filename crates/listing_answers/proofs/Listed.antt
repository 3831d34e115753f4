-- A listing fills no more bytes than are lent. No contract cites this file. Assumes nothing.
use Rattle.std.specs.Prelude.{ℕ, ◌≡◌, ◌≤◌, List, length}
use Rattle.std.proofs.Common.{arith}
use Rattle.std.proofs.lemmas.Grind.{common_steps}
use Rattle.outcomes.specs.Outcome.{Outcome, gives, refuses}
use Rattle.questions.specs.Questions.{bytes_listed, lent_after}

pub listed_within : (listed : Outcome (List ℕ)) (count : ℕ) (before after : List ℕ) → gives count ≡ bytes_listed listed
    → after ≡ lent_after listed before → count ≤ length after
unfolding bytes_listed lent_after
listed_within (gives bytes) count before after said lent = grind (arith, common_steps)
listed_within (refuses number place) count before after said lent = absurd (cc)
