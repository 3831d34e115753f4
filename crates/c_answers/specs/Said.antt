-- What the C interface says, from what is said to a question: number 0 and the answer's values, or the number and the
-- place of document 01, Numbers that say no, and 0 for each value, since a refusal "carries no other value". Assumes
-- nothing.
use Rattle.std.specs.Prelude.{ℕ}
use Rattle.outcomes.specs.Outcome.{Outcome, gives, refuses}
use Rattle.ages.specs.Ages.{Ages}
use Rattle.pair_points.specs.PairPoints.{Points}
use Rattle.c_answers.specs.declared.LiskobranAges.{LiskobranAges}
use Rattle.c_answers.specs.declared.LiskobranAnswer.{LiskobranAnswer}
use Rattle.c_answers.specs.declared.LiskobranListing.{LiskobranListing}
use Rattle.c_answers.specs.declared.LiskobranPoints.{LiskobranPoints}

-- whether an image is accepted
abbrev pub read_said : Outcome (Unit {0}) → LiskobranAnswer
read_said (gives accepted) = record { number = 0; place = 0 }
read_said (refuses number place) = record { number = number; place = place }

-- the points of a pair
abbrev pub points_said : Outcome Points → LiskobranPoints
points_said (gives points) =
    record { number = 0; place = 0; publishing = points.publishing; reading = points.reading }
points_said (refuses number place) = record { number = number; place = place; publishing = 0; reading = 0 }

-- how many bytes the listing of a core fills
abbrev pub listing_said : Outcome ℕ → LiskobranListing
listing_said (gives bytes) = record { number = 0; place = 0; bytes = bytes }
listing_said (refuses number place) = record { number = number; place = place; bytes = 0 }

-- the ages of a chain
abbrev pub ages_said : Outcome Ages → LiskobranAges
ages_said (gives ages) = record {
  number = 0;
  place = 0;
  paths = ages.paths;
  longest = ages.longest;
  worst = ages.worst;
  best = ages.best;
  jitter = ages.jitter;
}
ages_said (refuses number place) =
    record { number = number; place = place; paths = 0; longest = 0; worst = 0; best = 0; jitter = 0 }
