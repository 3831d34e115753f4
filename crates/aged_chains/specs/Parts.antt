-- What a part of the question is given and answers: a chain by the periods of its tasks. The question's own contract does not
-- cite this file. Assumes nothing.
use Rattle.std.specs.Prelude.{ℕ, ◌<◌, ◌≤◌, List, ltb, length}
use Rattle.outcomes.specs.Outcome.{Outcome, gives, refused_unless}
use Rattle.times.specs.Hyperperiod.{lcm_of}
use Rattle.ages.specs.Ages.{Ages, ages_of}
use Rattle.following.specs.Following.{chain_by, RightPeriods}

-- the answer for the chain of these periods; 12 where there are none, since the chain is then not in the table
abbrev pub aged_by : (periods : List ℕ) → Outcome Ages
aged_by periods = refused_unless 12 (ltb 0 (length periods)) (gives (ages_of (chain_by periods (length periods))))

-- the periods of a chain of a table, or none
pub record RightAsked (periods : List ℕ) : Type 0 where
  pub right : RightPeriods periods (length periods)
  pub some : 0 < length periods → 2 ≤ length periods
  pub short : lcm_of periods ≤ 1000000
