-- Of periods above 0, what `next_publishing` answers is the first publishing point from the tick on, and what
-- `publishing_after` answers of a release of the writer is the first after it. Assumes nothing.
use Prim.Native.Nat.{ℕ, suc, ◌<◌, ◌≤◌}
use mathlib.Core.Path.{◌≡◌, subst}
use mathlib.Core.Bool.{true}
use mathlib.Core.Logic.{⊎_elim, by_cases}
use native.Mathlib.Decide.{dec_le}
use native.Mathlib.Omega.{arith}
use lib.Dec.{leb}
use borrow.Author.Tests.{leb-true, le-leb, lt-leb}
use Rattle.lists.proofs.Bools.{false_unless_true, and_parts, and_of_parts, or_part, or_of_left, or_of_right}
use Rattle.times.specs.Releases.{Timing, is_release, first_from, last_to}
use Rattle.times.specs.PointTests.{publishing_test, released_from}
use Rattle.times.proofs.Releases.{first_from_is_release, first_from_at_least, first_from_first, releases_apart}
use Rattle.times.proofs.Releases.{last_to_is_release, last_to_at_most, last_to_near, last_to_last}
use Rattle.times.proofs.ReleasesRepeat.{first_from_after}
use Rattle.times.proofs.ReleasesWithin.{released_from_finds, released_from_found}
use Rattle.next_points.specs.Next.{NextFrom, publishing_from, next_publishing, publishing_after}

module _ (writer reader : Timing) (writes : 0 < writer.period) (reads : 0 < reader.period) (t : ℕ) where
  -- of a slower writer
  slower : reader.period ≤ writer.period → NextFrom (publishing_test writer reader) t (first_from writer t)
  slower le = record {
    passes = and_of_parts _ _ (first_from_is_release writer t) (or_of_left _ _ (le-leb _ _ le));
    from_start = first_from_at_least writer writes t;
    none_earlier = λ u from before. false_unless_true _ (λ point.
        let released = (and_parts (is_release writer u) _ point).0 in
        omega (arith, first_from_first writer writes t u released from));
  }

  -- of a faster writer: x is the reader's first release from the writer's first release on
  faster : writer.period < reader.period
      → NextFrom (publishing_test writer reader) t (last_to writer (first_from reader (first_from writer t)))
  faster less = record {
    passes = and_of_parts _ _ (last_to_is_release writer x)
        (or_of_right (leb reader.period writer.period) _
        (released_from_found reader reads next writer.period x
        (first_from_is_release reader first) (last_to_at_most writer x) (last_to_near writer writes x)));
    from_start = omega (arith, first_from_at_least writer writes t, reached);
    none_earlier = λ u from before. false_unless_true _ (λ point. earlier u from before point);
  }
    where
      first : ℕ
      first = first_from writer t

      x : ℕ
      x = first_from reader first

      next : ℕ
      next = last_to writer x

      reached : first ≤ next
      reached =
          last_to_last writer writes x first (first_from_is_release writer t) (first_from_at_least reader reads first)

      earlier : (u : ℕ) → t ≤ u → u < next → publishing_test writer reader u ≡ true → ⊥
      earlier u from before point =
          let (released, near) = and_parts (is_release writer u) _ point in
          let close : released_from reader u writer.period ≡ true
          = ⊎_elim (λ le. absurd (omega (arith, leb-true reader.period writer.period le))) (λ h. h)
          (or_part (leb reader.period writer.period) _ near) in
          let (s, of_reader, after, soon) = released_from_finds reader reads u writer.period close in
          let wanted : first ≤ s = omega (arith, first_from_first writer writes t u released from) in
          omega (
            arith,
            first_from_first reader reads first s of_reader wanted,
            last_to_at_most writer x,
            releases_apart writer writes u next released (last_to_is_release writer x) before,
          )

  -- at or after t
  pub publishing_next : NextFrom (publishing_test writer reader) t (next_publishing writer reader t)
  unfolding publishing_from
  publishing_next =
      by_cases (dec_le reader.period writer.period)
      (λ le. rw (le-leb _ _ le) (slower le))
      (λ more. rw (lt-leb reader.period writer.period (omega arith)) (faster (omega arith)))

module _ (writer reader : Timing) (writes : 0 < writer.period) (reads : 0 < reader.period) where
  -- after a release of the writer
  pub publishing_after_lem : (t : ℕ) → is_release writer t ≡ true
      → NextFrom (publishing_test writer reader) (suc t) (publishing_after writer reader t)
  publishing_after_lem t released =
      subst (λ release. NextFrom (publishing_test writer reader) (suc t) (publishing_from writer reader release))
      (first_from_after writer writes t released) (publishing_next writer reader writes reads (suc t))
