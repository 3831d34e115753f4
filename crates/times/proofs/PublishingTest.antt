-- A tick is a publishing point exactly when it is a release of the writer and the writer has the larger or equal
-- period, or a release of the reader lies less than the writer's period after it. Assumes nothing.
use Prim.Native.Nat.{ℕ, ◌<◌, ◌≤◌}
use mathlib.Core.Path.{◌≡◌, sym, ◌∙◌, subst}
use mathlib.Core.Bool.{true}
use native.Mathlib.Omega.{arith}
use Rattle.times.specs.Releases.{Timing, release, is_release}
use Rattle.times.specs.Points.{is_publishing}
use Rattle.times.specs.PointTests.{released_from, publishing_test}
use Rattle.times.proofs.Releases.{release_is_release, release_number, last_to_at_most, last_to_near, last_to_is}
use Rattle.times.proofs.ReleasesWithin.{released_from_finds, released_from_found}
use Rattle.times.proofs.PointFormulas.{publishing_is_release, publishing_last_before, publishing_numbered}
use Rattle.times.proofs.PointSearch.{publishing_finds, publishing_found}
use Rattle.times.proofs.PointTests.{test_of_cases}

module _ (writer reader : Timing) (writes : 0 < writer.period) (reads : 0 < reader.period) (t : ℕ) where
  publishing_released : is_publishing writer reader t ≡ true → is_release writer t ≡ true
  publishing_released h =
      let found = publishing_finds writer reader t h in
      subst (λ (s : ℕ). is_release writer s ≡ true) found.1 (publishing_is_release writer reader found.0)

  -- a publishing point of a faster writer is followed by a release of the reader before the writer's next
  publishing_near
      : writer.period ≤ reader.period
      → is_publishing writer reader t ≡ true
      → released_from reader t writer.period ≡ true
  publishing_near le h =
      let found = publishing_finds writer reader t h in
      let x = release reader found.0 in
      let point = sym (publishing_last_before writer reader le found.0) ∙ found.1 in
      released_from_found
      reader
      reads
      t
      writer.period
      x
      (release_is_release reader found.0)
      (omega (arith, last_to_at_most writer x))
      (omega (arith, last_to_near writer writes x))

  -- a release of a writer that is the slower is a publishing point
  publishing_slow : reader.period ≤ writer.period → is_release writer t ≡ true → is_publishing writer reader t ≡ true
  publishing_slow le h =
      let number = release_number writer t h in
      let point = publishing_numbered writer reader le writes number.0 ∙ number.1 in
      publishing_found writer reader writes reads t number.0 point

  -- and so is one of a faster writer that a release of the reader follows before the writer's next
  publishing_fast
      : writer.period ≤ reader.period
      → is_release writer t ≡ true
      → released_from reader t writer.period ≡ true
      → is_publishing writer reader t ≡ true
  publishing_fast le h near =
      let found = released_from_finds reader reads t writer.period near in
      let number = release_number reader found.0 found.1 in
      let x = release reader number.0 in
      let last = last_to_is writer writes x t h (omega (arith, number.1)) (omega (arith, number.1)) in
      let point = publishing_last_before writer reader le number.0 ∙ last in
      publishing_found writer reader writes reads t number.0 point

  -- the test of a publishing point
  pub publishing_test_lem : is_publishing writer reader t ≡ publishing_test writer reader t
  publishing_test_lem =
      test_of_cases
      (is_publishing writer reader t)
      (is_release writer t)
      (released_from reader t writer.period)
      writer.period
      reader.period
      publishing_released
      publishing_near
      publishing_slow
      publishing_fast
