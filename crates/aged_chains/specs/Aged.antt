-- What the answer for a chain says. Assumes nothing.
use Rattle.std.specs.Prelude.{Result, Ok, Err}
use Rattle.outcomes.specs.Outcome.{Outcome, gives, refuses}
use Rattle.table.specs.Refusals.{number_of}
use Rattle.table.specs.declared.Refused.{Refused}
use Rattle.ages.specs.Ages as spec
use Rattle.aged_chains.specs.declared.Ages.{Ages}

-- "number of paths, longest length, worst age, best age, jitter", or the refusal's number and place
abbrev pub said_of_ages : Result Ages Refused → Outcome spec.Ages
said_of_ages (Ok ages) =
    gives (record {
      paths = ages.paths;
      longest = ages.longest;
      worst = ages.worst;
      best = ages.best;
      jitter = ages.jitter;
    })
said_of_ages (Err refused) = refuses (number_of refused.refusal) refused.place
