-- Tasks by their paces. No contract of a question cites this file. Assumes nothing.
use Rattle.std.specs.Prelude.{ℕ, List, map}
use Rattle.times.specs.Releases.{Timing, every}
use Rattle.quotients.specs.declared.pace.Pace.{Pace}

-- their periods
abbrev pub periods_of : List Pace → List ℕ
periods_of paces = map (λ (pace : Pace). pace.period) paces

-- when they are released
abbrev pub tasks_of : List Pace → List Timing
tasks_of paces = map (λ (pace : Pace). every pace.period) paces
