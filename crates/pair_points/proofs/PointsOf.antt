-- The points of a pair by the two tests that come before them: 12, then 13, then P(n) and Q(n). No contract cites this
-- file. Assumes nothing.
use Prim.Native.Nat.{ℕ}
use mathlib.Core.Bool.{Bool, true, false, ◌&&◌}
use mathlib.Core.Path.{◌≡◌, ap, ap₂}
use lib.Dec.{leb, ltb}
use Rattle.times.specs.Points.{publishing, reading}
use Rattle.outcomes.specs.Outcome.{Outcome, gives, refuses, refused_unless}
use Rattle.table.specs.Table.{timing_of, joins}
use Rattle.table.specs.declared.Table.{Table}
use Rattle.pair_points.specs.PairPoints.{Points, points_of}

module _ (table : Table) (writer reader n : ℕ) where
  -- "asked .. task not in the table, or n above 1,000,000" does not hold
  abbrev pub Askable : Bool
  Askable = ltb writer table.tasks && ltb reader table.tasks && leb n 1000000

  -- the points that are asked
  abbrev pub asked : Points
  asked = record {
    publishing = publishing (timing_of table writer) (timing_of table reader) n;
    reading = reading (timing_of table writer) (timing_of table reader) n;
  }

  by : Bool → Bool → Outcome Points
  by known linked = refused_unless 12 known (refused_unless 13 linked (gives asked))

  pub not_askable : Askable ≡ false → points_of table writer reader n ≡ refuses 12 0
  unfolding points_of by
  not_askable known = ap (λ known. by known (joins table writer reader)) known

  pub not_joined : Askable ≡ true → joins table writer reader ≡ false → points_of table writer reader n ≡ refuses 13 0
  unfolding points_of by
  not_joined known linked = ap₂ by known linked

  pub points_given : Askable ≡ true → joins table writer reader ≡ true → points_of table writer reader n ≡ gives asked
  unfolding points_of by
  points_given known linked = ap₂ by known linked
