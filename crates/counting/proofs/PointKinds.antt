-- Points of a pair, of either kind: the first from a tick on, the one after a point, and that they are less than a
-- round away. Assumes nothing.
use Prim.Native.Nat.{ℕ, suc, ◌+◌, ◌<◌, ◌≤◌, ◌∣◌}
use mathlib.Core.Path.{◌≡◌}
use mathlib.Core.Bool.{Bool, true, false}
use lib.Dec.{eqb}
use Rattle.times.specs.Releases.{Timing}
use Rattle.times.proofs.PointsInRound.{publishes_at_repeats, serves_at_repeats}
use Rattle.next_points.specs.Next.{NextFrom}
use Rattle.next_points.proofs.NextFrom.{next_determined, next_now, next_later, next_in_a_round}
use Rattle.next_points.proofs.NextInRound.{publishing_next_in_round, reading_next_in_round}
use Rattle.next_points.proofs.NextInRound.{publishing_after_in_round, reading_after_in_round}
use Rattle.gathering.specs.Counters.{point_from}
use Rattle.counters.specs.Advanced.{point_after}
use Rattle.counting.specs.Counting.{point_at}

-- round after round
point_repeats : (kind : Bool) (H : ℕ) (writer reader : Timing) (t : ℕ)
    → point_at kind H writer reader (t + H) ≡ point_at kind H writer reader t
unfolding point_at
point_repeats true H writer reader t = serves_at_repeats H writer reader t
point_repeats false H writer reader t = publishes_at_repeats H writer reader t

-- what is known of the points of a pair
pub record Points (kind : Bool) (H : ℕ) (writer reader : Timing) : Type 0 where
  -- the first at or after a tick
  pub first : (t : ℕ) → NextFrom (point_at kind H writer reader) t (point_from kind writer reader t)
  -- it is less than a round away
  pub near : (t : ℕ) → point_from kind writer reader t < t + H
  -- it is the tick itself, where that is a point
  pub here : (t : ℕ) → eqb (point_from kind writer reader t) t ≡ point_at kind H writer reader t
  -- up to it, it stays the first
  pub stays : (t u : ℕ) → t ≤ u → u ≤ point_from kind writer reader t
      → point_from kind writer reader t ≡ point_from kind writer reader u
  -- the one after a point
  pub after : (t : ℕ) → point_at kind H writer reader t ≡ true
      → point_after kind writer reader t ≡ point_from kind writer reader (suc t)

module _ (writer reader : Timing) (writes : 0 < writer.period) (reads : 0 < reader.period) where
  module _ (H : ℕ) (some : 0 < H) (dw : writer.period ∣ H) (dr : reader.period ∣ H) where
    first_point : (kind : Bool) (t : ℕ) → NextFrom (point_at kind H writer reader) t (point_from kind writer reader t)
    unfolding point_at point_from
    first_point true t = reading_next_in_round writer reader writes reads H dw dr t
    first_point false t = publishing_next_in_round writer reader writes reads H dw dr t

    after_point : (kind : Bool) (t : ℕ) → point_at kind H writer reader t ≡ true
        → NextFrom (point_at kind H writer reader) (suc t) (point_after kind writer reader t)
    unfolding point_at point_after
    after_point true t = reading_after_in_round writer reader writes reads H dw dr t
    after_point false t = publishing_after_in_round writer reader writes reads H dw dr t

    pub points : (kind : Bool) → Points kind H writer reader
    points kind = record {
      first = first_point kind;
      near = λ t. next_in_a_round (first_point kind t) H some (point_repeats kind H writer reader);
      here = λ t. next_now (first_point kind t);
      stays = λ t u late soon.
          next_determined _ u _ _ (next_later (first_point kind t) u late soon) (first_point kind u);
      after = λ t point. next_determined _ (suc t) _ _ (after_point kind t point) (first_point kind (suc t));
    }
