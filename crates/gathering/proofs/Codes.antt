-- The number of a pair, and a counter's number: the parts that they are made of come out again. Assumes nothing.
use Prim.Native.Nat.{ℕ, ◌<◌, ◌≤◌}
use mathlib.Core.Bool.{Bool, true, false}
use mathlib.Core.List.{List}
use mathlib.Core.Path.{◌≡◌, ap}
use native.Mathlib.Omega.{arith}
use Rattle.next_points.proofs.AtZero.{publishing_at_zero, reading_at_zero}
use Rattle.gathering.specs.Pairs.{code_of}
use Rattle.gathering.specs.Counters.{counter_of, last_tick, tick_in, writer_in, reader_in}
use Rattle.gathering.specs.Counters.{timing_in, point_from, counter_from}

module _ (w r : ℕ) (writes : w < 32) (reads : r < 32) where
  pub code_writer : writer_in (code_of w r) ≡ w
  code_writer = omega arith

  pub code_reader : reader_in (code_of w r) ≡ r
  code_reader = omega arith

  -- the counter of a pair
  pub pair_counter : (kind : Bool) (periods : List ℕ) (t : ℕ) → counter_from kind periods t (code_of w r)
      ≡ counter_of (point_from kind (timing_in periods w) (timing_in periods r) t) (code_of w r)
  unfolding counter_from
  pair_counter kind periods t = rw (code_writer, code_reader)

-- at tick 0 each pair has a point, whatever the periods
pub counter_at_zero : (kind : Bool) (periods : List ℕ) (pair : ℕ) → counter_from kind periods 0 pair ≡ counter_of 0 pair
unfolding counter_from point_from
counter_at_zero true periods pair = ap (λ point. counter_of point pair) (reading_at_zero _ _)
counter_at_zero false periods pair = ap (λ point. counter_of point pair) (publishing_at_zero _ _)

module _ (point pair : ℕ) where
  pub counter_tick : point ≤ last_tick → tick_in (counter_of point pair) ≡ point
  unfolding counter_of
  counter_tick soon = omega arith

  pub counter_pair : (next : ℕ) → counter_of next (counter_of point pair) ≡ counter_of next pair
  unfolding counter_of
  counter_pair next = omega arith

  pub counter_writer : writer_in (counter_of point pair) ≡ writer_in pair
  unfolding counter_of
  counter_writer = omega arith

  pub counter_reader : reader_in (counter_of point pair) ≡ reader_in pair
  unfolding counter_of
  counter_reader = omega arith
