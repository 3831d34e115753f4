-- The points of a pair by the tick. Document 01 gives them by their number n; of periods above 0 these tests say the
-- same (proofs/PublishingTest.antt, ReadingTest.antt), without a search. Assumes nothing.
use Rattle.std.specs.Prelude.{ℕ, ◌+◌, Bool, ◌&&◌, ◌||◌, leb, ltb}
use Rattle.times.specs.Releases.{Timing, is_release, first_from, last_to}

-- a release lies in [t, t + length)
abbrev pub released_from : Timing → ℕ → ℕ → Bool
released_from task t length = ltb (first_from task t) (t + length)

-- a release lies in (t − length, t]
abbrev pub released_to : Timing → ℕ → ℕ → Bool
released_to task t length = ltb t (last_to task t + length)

-- a release t of the writer, where the writer has the larger or equal period or the reader has a release in [t, t + Tw)
abbrev pub publishing_test : Timing → Timing → ℕ → Bool
publishing_test writer reader t =
    is_release writer t && (leb reader.period writer.period || released_from reader t writer.period)

-- a release t of the reader, where the reader has the larger or equal period or the writer has a release in (t − Tr, t]
abbrev pub reading_test : Timing → Timing → ℕ → Bool
reading_test writer reader t =
    is_release reader t && (leb writer.period reader.period || released_to writer t reader.period)
