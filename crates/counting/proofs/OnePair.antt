-- The counter of one pair of a table that meets the rules: its tick is the pair's first point at or after t; after t it
-- is at the first point after t; and up to its point it does not change. Assumes nothing.
use Prim.Native.Nat.{ℕ, suc, ◌<◌, ◌≤◌, ◌∣◌}
use mathlib.Core.Path.{◌≡◌, sym, ap, ◌∙◌}
use mathlib.Core.Bool.{Bool, true}
use mathlib.Core.List.{List}
use mathlib.Core.Logic.{by_cases}
use native.Mathlib.Decide.{ℕ_discrete}
use native.Mathlib.Omega.{arith}
use borrow.Author.Tests.{eq-eqb, ne_eqb}
use lib.ListN.{get_or}
use Rattle.table.specs.Table.{period_of, joins, hyperperiod_of}
use Rattle.table.specs.Image.{Whole}
use Rattle.table.specs.Rules.{MeetsRules}
use Rattle.table.proofs.Sound.{Sound}
use Rattle.gathering.specs.Pairs.{code_of}
use Rattle.gathering.specs.Counters.{counter_of, last_tick, tick_in, timing_in, point_from, counter_from}
use Rattle.gathering.proofs.Codes.{code_writer, code_reader, pair_counter}
use Rattle.gathering.proofs.Codes.{counter_tick, counter_pair, counter_writer, counter_reader}
use Rattle.counters.specs.Advanced.{point_after, gone_on, stepped}
use Rattle.counting.proofs.OfTable.{joined_known}
use Rattle.counting.proofs.PointKinds.{Points, points}

-- how the counter of a pair goes on
went_on : (kind : Bool) (periods : List ℕ) (w r n : ℕ) → w < 32 → r < 32 → n ≤ last_tick
    → gone_on kind periods (counter_of n (code_of w r))
    ≡ counter_of (point_after kind (timing_in periods w) (timing_in periods r) n) (code_of w r)
unfolding gone_on
went_on kind periods w r n writes reads few =
    rw (
      counter_writer n (code_of w r),
      counter_reader n (code_of w r),
      counter_tick n (code_of w r) few,
      code_writer w r writes reads,
      code_reader w r writes reads,
    )
    (counter_pair n (code_of w r) _)

module _ (whole : Whole) (rules : MeetsRules whole) (sound : Sound whole.table) (kind : Bool) where
  abbrev H : ℕ
  H = hyperperiod_of whole.table

  abbrev periods : List ℕ
  periods = whole.table.period

  known : (i : ℕ) → i < whole.table.tasks → (0 < get_or periods i 0) × (get_or periods i 0 ∣ H)
  unfolding period_of
  known i there = (sound.period_positive i there, sound.period_divides i there)

  module _ (w r : ℕ) (writes : w < 32) (reads : r < 32) (joined : joins whole.table w r ≡ true) where
    -- the points of the pair
    abbrev pub pair_point : ℕ → ℕ
    pair_point = point_from kind (timing_in periods w) (timing_in periods r)

    pub pair_points : Points kind H (timing_in periods w) (timing_in periods r)
    pair_points =
        let tasks = joined_known whole rules w r joined in
        let (writing, of_writer) = known w tasks.0 in
        let (reading, of_reader) = known r tasks.1 in
        points _ _ writing reading H sound.round_positive of_writer of_reader kind

    module _ (t : ℕ) (soon : t ≤ H) where
      pub point_fits : pair_point t ≤ last_tick
      point_fits = omega (arith, rules.hyperperiod, pair_points.near t)

      -- the tick of its counter
      pub tick_is : tick_in (counter_from kind periods t (code_of w r)) ≡ pair_point t
      tick_is = rw (pair_counter w r writes reads) (counter_tick (pair_point t) (code_of w r) point_fits)

      -- up to its point it does not change
      pub counter_stays : (u : ℕ) → t ≤ u → u ≤ tick_in (counter_from kind periods t (code_of w r))
          → counter_from kind periods t (code_of w r) ≡ counter_from kind periods u (code_of w r)
      counter_stays u late before =
          rw (pair_counter w r writes reads kind periods t, pair_counter w r writes reads kind periods u)
          (ap (λ n. counter_of n (code_of w r)) (pair_points.stays t u late (rw tick_is at before)))

      -- and after its point it is at the next
      on : pair_point t ≡ t → gone_on kind periods (counter_of (pair_point t) (code_of w r))
          ≡ counter_of (pair_point (suc t)) (code_of w r)
      on here =
          went_on kind periods w r (pair_point t) writes reads point_fits
          ∙ ap (λ n. counter_of n (code_of w r))
          (ap (point_after kind (timing_in periods w) (timing_in periods r)) here
          ∙ pair_points.after t (sym (pair_points.here t) ∙ eq-eqb _ _ here))

      pub counter_steps : stepped kind periods t (counter_from kind periods t (code_of w r))
          ≡ counter_from kind periods (suc t) (code_of w r)
      unfolding stepped
      counter_steps =
          by_cases (ℕ_discrete (pair_point t) t)
          (λ here. rw (
            tick_is,
            eq-eqb _ _ here,
            pair_counter w r writes reads kind periods t,
            pair_counter w r writes reads kind periods (suc t),
          )
          (on here))
          (λ later.
          let late = (pair_points.first t).from_start in
          rw (tick_is, ne_eqb _ _ later) (counter_stays (suc t) (omega arith) (rw tick_is (omega arith))))
