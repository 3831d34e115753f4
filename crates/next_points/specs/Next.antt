-- The next point of a pair, by the releases of the two tasks: at or after a tick, and after a release. Of periods above
-- 0 it is the first such point (proofs/NextPublishing.antt, NextReading.antt). Assumes nothing.
use Rattle.std.specs.Prelude.{ℕ, suc, ◌+◌, ◌-◌, ◌≤◌, ◌<◌, Bool, true, false, cond, ◌≡◌, leb}
use Rattle.times.specs.Releases.{Timing, first_from, last_to}

-- `next` is the first tick, from the tick `start` on, that passes the test
pub record NextFrom (test : ℕ → Bool) (start next : ℕ) : Type 0 where
  pub passes : test next ≡ true
  pub from_start : start ≤ next
  pub none_earlier : (u : ℕ) → start ≤ u → u < next → test u ≡ false

-- the first publishing point from a release of the writer on: of a slower writer that release; of a faster one its last
-- release at or before the reader's first release from there on
unfoldable pub publishing_from : Timing → Timing → ℕ → ℕ
publishing_from writer reader release =
    cond (leb reader.period writer.period) release (last_to writer (first_from reader release))

-- the first reading point from a release of the reader on: of a slower reader that release; of a faster one its first
-- release at or after the writer's first release since the reader's release before that
unfoldable pub reading_from : Timing → Timing → ℕ → ℕ
reading_from writer reader release =
    cond (leb writer.period reader.period) release
    (first_from reader (first_from writer (suc release - reader.period)))

-- the next publishing point, and the next reading point, at or after t
abbrev pub next_publishing : Timing → Timing → ℕ → ℕ
next_publishing writer reader t = publishing_from writer reader (first_from writer t)

abbrev pub next_reading : Timing → Timing → ℕ → ℕ
next_reading writer reader t = reading_from writer reader (first_from reader t)

-- the publishing point after a release of the writer, and the reading point after one of the reader
abbrev pub publishing_after : Timing → Timing → ℕ → ℕ
publishing_after writer reader t = publishing_from writer reader (t + writer.period)

abbrev pub reading_after : Timing → Timing → ℕ → ℕ
reading_after writer reader t = reading_from writer reader (t + reader.period)
