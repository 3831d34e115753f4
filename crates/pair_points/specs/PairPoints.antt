-- The points of a pair of tasks, asked of a table, and what the answer says. Of document 01, Numbers that say no, the rows
-- 12 and 13, each at place 0 and in this order. Any numbers may be asked. Assumes nothing.
use Rattle.std.specs.Prelude.{ℕ, ◌&&◌, leb, ltb, Result}
use Rattle.times.specs.Points.{publishing, reading}
use Rattle.outcomes.specs.Outcome.{Outcome, gives, refused_unless}
use Rattle.table.specs.Refusals.{said_of}
use Rattle.table.specs.Table.{timing_of, joins}
use Rattle.table.specs.declared.Refused.{Refused}
use Rattle.table.specs.declared.Table.{Table}
use Rattle.pair_points.specs.declared.Points as code

-- the points of a pair, P(n) and Q(n): the struct of the code
abbrev pub Points : Type 0
Points = code.Points

-- 12: "asked .. task not in the table, or n above 1,000,000"; 13: "no label goes from the asked writer to the asked
-- reader"
unfoldable pub points_of : (table : Table) (writer reader n : ℕ) → Outcome Points
points_of table writer reader n =
    refused_unless 12 (ltb writer table.tasks && ltb reader table.tasks && leb n 1000000)
    (refused_unless 13 (joins table writer reader)
    (gives (record {
      publishing = publishing (timing_of table writer) (timing_of table reader) n;
      reading = reading (timing_of table writer) (timing_of table reader) n;
    })))

-- the points P(n) and Q(n), or the refusal's number and place
abbrev pub said_of_points : Result Points Refused → Outcome Points
said_of_points answer = said_of answer
