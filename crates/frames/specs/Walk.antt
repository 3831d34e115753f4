-- What a walk over the frames of a core gives. No contract of a question cites this file. Assumes nothing.
use Rattle.std.specs.Prelude.{ℕ, [], ◌∷◌, ◌++◌, ◌≡◌, ◌<◌, ◌≤◌, Option, MatchOption, length}
use Rattle.copies.specs.Copies.{copies_at, frames_of}
use Rattle.copies.proofs.Turns.{passed_before}
use Rattle.instants.specs.Due.{writes_in, reads_in}
use Rattle.frames.specs.Counts.{RightRound}
use Rattle.frames.specs.Ready.{MasksOf, Ready}
use Rattle.frames.specs.declared.walk.Frames.{Frames}
use Rattle.frames.specs.declared.instant.Instant.{Instant}

-- the walk is over the round of a right table, and the counters of the core are ready at its tick
pub record Walks (core : ℕ) (s : Frames) : Type 0 where
  pub right : RightRound s.table.now s.round
  pub masks : MasksOf s.table.now s.masks.now
  pub ready : Ready s.table.now core s.t s.publishing.now s.reading.now

-- the walk is at the start of the round, before the first frame of the core
pub record Starts (core : ℕ) (s : Frames) : Type 0 where
  pub none : passed_before s.table.now core s.t ≡ []
  pub walks : Walks core s

-- a walk that went on: over the same table, by as many counters in the same places
pub record WentOn (s t : Frames) : Type 0 where
  pub same_round : t.round ≡ s.round
  pub same_table : t.table.now ≡ s.table.now
  pub same_masks : t.masks.now ≡ s.masks.now
  pub publishing_long : length t.publishing.now ≡ length s.publishing.now
  pub reading_long : length t.reading.now ≡ length s.reading.now
  pub publishing_name : t.publishing.ghost_name ≡ s.publishing.ghost_name
  pub reading_name : t.reading.ghost_name ≡ s.reading.ghost_name

-- the instant is the next frame of the core, and the walk goes on after it
pub record NextFrame (core : ℕ) (s : Frames) (start : ℕ) (due : Instant) (t : Frames) : Type 0 where
  pub inside : start < s.round
  pub copies : writes_in s.table.now.writer due.written ++ reads_in s.table.now.writer s.table.now.readers due.serves due.read
      ≡ copies_at s.table.now core start
  pub many : due.copies ≡ length (copies_at s.table.now core start)
  pub passed : passed_before s.table.now core t.t
      ≡ passed_before s.table.now core s.t ++ record { start = start; copies = copies_at s.table.now core start } ∷ []
  pub walks : Walks core t

-- the next frame of each core whose counters are ready; none where all have been passed
pub record GivesFrame (s : Frames) (r : Option (ℕ × Instant)) (t : Frames) : Type 0 where
  pub went_on : WentOn s t
  pub later : MatchOption r (s.t ≤ t.t) (λ given. (s.t < t.t) × (0 < given.1.copies) × (given.1.copies ≤ 65600))
  pub frame : (core : ℕ) → Walks core s
      → MatchOption r (passed_before s.table.now core s.t ≡ frames_of s.table.now core)
      (λ given. NextFrame core s given.0 given.1 t)
