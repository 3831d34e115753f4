-- Of periods above 0, what `next_reading` answers is the first reading point from the tick on, and what
-- `reading_after` answers of a release of the reader is the first after it. Assumes nothing.
use Prim.Native.Nat.{ℕ, suc, ◌-◌, ◌<◌, ◌≤◌}
use mathlib.Core.Path.{◌≡◌, subst}
use mathlib.Core.Bool.{true}
use mathlib.Core.Logic.{⊎_elim, by_cases}
use native.Mathlib.Decide.{dec_le, dec_lt}
use native.Mathlib.Omega.{arith}
use lib.Dec.{leb}
use borrow.Author.Tests.{leb-true, le-leb, lt-leb}
use Rattle.lists.proofs.Bools.{false_unless_true, and_parts, and_of_parts, or_part, or_of_left, or_of_right}
use Rattle.times.specs.Releases.{Timing, is_release, first_from}
use Rattle.times.specs.PointTests.{reading_test, released_to}
use Rattle.times.proofs.Releases.{first_from_is_release, first_from_at_least, first_from_near, first_from_first}
use Rattle.times.proofs.Releases.{releases_apart}
use Rattle.times.proofs.ReleasesRepeat.{first_from_after}
use Rattle.times.proofs.ReleasesWithin.{released_to_finds, released_to_found}
use Rattle.next_points.specs.Next.{NextFrom, reading_from, next_reading, reading_after}

module _ (writer reader : Timing) (writes : 0 < writer.period) (reads : 0 < reader.period) (t : ℕ) where
  -- of a slower reader
  slower : writer.period ≤ reader.period → NextFrom (reading_test writer reader) t (first_from reader t)
  slower le = record {
    passes = and_of_parts _ _ (first_from_is_release reader t) (or_of_left _ _ (le-leb _ _ le));
    from_start = first_from_at_least reader reads t;
    none_earlier = λ u from before. false_unless_true _ (λ point.
        let released = (and_parts (is_release reader u) _ point).0 in
        omega (arith, first_from_first reader reads t u released from));
  }

  -- of a faster reader: w is the writer's first release since the reader's release before its first one
  faster : reader.period < writer.period
      → NextFrom (reading_test writer reader) t
      (first_from reader (first_from writer (suc (first_from reader t) - reader.period)))
  faster less = record {
    passes = and_of_parts _ _ (first_from_is_release reader w)
        (or_of_right (leb writer.period reader.period) _
        (released_to_found writer writes next reader.period w
        (first_from_is_release writer since) (first_from_at_least reader reads w) (first_from_near reader reads w)));
    from_start = omega (arith, first_from_at_least reader reads t, reached);
    none_earlier = λ u from before. false_unless_true _ (λ point. earlier u from before point);
  }
    where
      first : ℕ
      first = first_from reader t

      since : ℕ
      since = suc first - reader.period

      w : ℕ
      w = first_from writer since

      next : ℕ
      next = first_from reader w

      reached : first ≤ next
      reached = by_cases (dec_lt next first) too_early (λ not-less. omega arith)
        where
          too_early : next < first → first ≤ next
          too_early less =
              let apart = releases_apart reader reads next first
              (first_from_is_release reader w) (first_from_is_release reader t) less in
              absurd (omega (arith, first_from_at_least writer writes since, first_from_at_least reader reads w))

      earlier : (u : ℕ) → t ≤ u → u < next → reading_test writer reader u ≡ true → ⊥
      earlier u from before point =
          let (released, near) = and_parts (is_release reader u) _ point in
          let close : released_to writer u reader.period ≡ true
          = ⊎_elim (λ le. absurd (omega (arith, leb-true writer.period reader.period le))) (λ h. h)
          (or_part (leb writer.period reader.period) _ near) in
          let (s, of_writer, before_u, soon) = released_to_finds writer writes u reader.period close in
          let wanted : since ≤ s = omega (arith, first_from_first reader reads t u released from) in
          let written = first_from_first writer writes since s of_writer wanted in
          omega (arith, first_from_first reader reads w u released (omega arith))

  -- at or after t
  pub reading_next : NextFrom (reading_test writer reader) t (next_reading writer reader t)
  unfolding reading_from
  reading_next =
      by_cases (dec_le writer.period reader.period)
      (λ le. rw (le-leb _ _ le) (slower le))
      (λ more. rw (lt-leb writer.period reader.period (omega arith)) (faster (omega arith)))

module _ (writer reader : Timing) (writes : 0 < writer.period) (reads : 0 < reader.period) where
  -- after a release of the reader
  pub reading_after_lem : (t : ℕ) → is_release reader t ≡ true
      → NextFrom (reading_test writer reader) (suc t) (reading_after writer reader t)
  reading_after_lem t released =
      subst (λ release. NextFrom (reading_test writer reader) (suc t) (reading_from writer reader release))
      (first_from_after reader reads t released) (reading_next writer reader writes reads (suc t))
