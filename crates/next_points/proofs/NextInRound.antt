-- The next points round after round, modulo a round H that both periods divide: what counts at a tick, as document 01
-- says of copies, is found next by the same functions. Assumes nothing.
use Prim.Native.Nat.{ℕ, suc, ◌<◌, ◌∣◌}
use mathlib.Core.Path.{◌≡◌, ◌∙◌}
use mathlib.Core.Bool.{Bool, true}
use Rattle.times.specs.Releases.{Timing}
use Rattle.times.specs.Points.{publishes_at, serves_at}
use Rattle.times.proofs.PointsInRound.{publishes_at_test, serves_at_test}
use Rattle.times.proofs.PointsCover.{publishes_at_released, serves_at_released}
use Rattle.next_points.specs.Next.{NextFrom, next_publishing, next_reading, publishing_after, reading_after}
use Rattle.next_points.proofs.NextPublishing.{publishing_next, publishing_after_lem}
use Rattle.next_points.proofs.NextReading.{reading_next, reading_after_lem}

-- a test that says the same has the same next
next_alike : (test other : ℕ → Bool) → ((u : ℕ) → test u ≡ other u) → (t n : ℕ) → NextFrom other t n → NextFrom test t n
next_alike test other same t n next = record {
  passes = same n ∙ next.passes;
  from_start = next.from_start;
  none_earlier = λ u from before. same u ∙ next.none_earlier u from before;
}

module _ (writer reader : Timing) (writes : 0 < writer.period) (reads : 0 < reader.period) where
  module _ (H : ℕ) (dw : writer.period ∣ H) (dr : reader.period ∣ H) (t : ℕ) where
    -- at or after a tick
    pub publishing_next_in_round : NextFrom (publishes_at H writer reader) t (next_publishing writer reader t)
    publishing_next_in_round =
        next_alike _ _ (publishes_at_test writer reader writes reads H dw dr) t _
        (publishing_next writer reader writes reads t)

    pub reading_next_in_round : NextFrom (serves_at H writer reader) t (next_reading writer reader t)
    reading_next_in_round =
        next_alike _ _ (serves_at_test writer reader writes reads H dw dr) t _
        (reading_next writer reader writes reads t)

    -- after a point
    pub publishing_after_in_round : publishes_at H writer reader t ≡ true
        → NextFrom (publishes_at H writer reader) (suc t) (publishing_after writer reader t)
    publishing_after_in_round point =
        next_alike _ _ (publishes_at_test writer reader writes reads H dw dr) (suc t) _
        (publishing_after_lem writer reader writes reads t
        (publishes_at_released writer reader writes reads H dw dr t point))

    pub reading_after_in_round : serves_at H writer reader t ≡ true
        → NextFrom (serves_at H writer reader) (suc t) (reading_after writer reader t)
    reading_after_in_round point =
        next_alike _ _ (serves_at_test writer reader writes reads H dw dr) (suc t) _
        (reading_after_lem writer reader writes reads t (serves_at_released writer reader writes reads H dw dr t point))
