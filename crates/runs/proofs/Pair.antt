-- One pair of tasks, round after round: its points are enough for every release of the reader. What runs need of the
-- laws of points and releases stands here. Assumes nothing.
use Prim.Native.Nat.{ℕ, ◌<◌, ◌∣◌}
use mathlib.Core.Bool.{true}
use mathlib.Core.Logic.{by_cases}
use mathlib.Core.Path.{◌≡◌, subst}
use native.Mathlib.Decide.{dec_lt}
use native.Mathlib.Omega.{arith}
use Rattle.lists.proofs.Bools.{not_both}
use Rattle.times.specs.Releases.{Timing, is_release, last_to}
use Rattle.times.specs.Points.{publishes_at, serves_at}
use Rattle.times.proofs.Releases.{last_to_is_release, last_to_at_most, last_to_last}
use Rattle.times.proofs.PointsCover.{publishes_at_released, serves_at_released}
use Rattle.times.proofs.PointsCover.{publishes_at_last_write, serves_at_after_last_write}
use Rattle.runs.specs.Sufficing.{LastUpTo, SomeWithin}

last_release : (task : Timing) → 0 < task.period → (t w : ℕ) → LastUpTo (is_release task) t w → last_to task t ≡ w
last_release task positive t w last =
    let no_earlier = last_to_last task positive t w last.passes last.in_time in
    by_cases (dec_lt w (last_to task t))
    (λ later. absurd (not_both (is_release task (last_to task t)) (last_to_is_release task t)
    (last.none_later (last_to task t) later (last_to_at_most task t))))
    (λ no_later. omega arith)

module _ (H : ℕ) (writer reader : Timing) (writes : 0 < writer.period) (reads : 0 < reader.period)
    (writer_divides : writer.period ∣ H) (reader_divides : reader.period ∣ H) where
  -- a write falls on a release of the writer, a read on one of the reader
  pub publishes_at_release : (t : ℕ) → publishes_at H writer reader t ≡ true → is_release writer t ≡ true
  publishes_at_release = publishes_at_released writer reader writes reads H writer_divides reader_divides

  pub serves_at_release : (t : ℕ) → serves_at H writer reader t ≡ true → is_release reader t ≡ true
  serves_at_release = serves_at_released writer reader writes reads H writer_divides reader_divides

  -- for every release t of the reader, w being the writer's last release at or before it
  module _ (t w : ℕ) (released : is_release reader t ≡ true) (last : LastUpTo (is_release writer) t w) where
    -- there is a write at w
    pub publishes_the_last : publishes_at H writer reader w ≡ true
    publishes_the_last =
        subst (λ v. publishes_at H writer reader v ≡ true) (last_release writer writes t w last)
        (publishes_at_last_write writer reader writes reads H writer_divides reader_divides t released)

    -- and a read from w to t
    pub serves_since_last : SomeWithin (serves_at H writer reader) w t
    serves_since_last =
        let (s, from_start, in_time, passes) =
        serves_at_after_last_write writer reader writes reads H writer_divides reader_divides t released in
        record {
          tick = s;
          passes = passes;
          from_start = omega (arith, last_release writer writes t w last);
          in_time = in_time;
        }
