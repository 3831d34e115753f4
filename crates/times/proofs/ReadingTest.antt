-- A tick is a reading point exactly when it is a release of the reader and the reader has the larger or equal period,
-- or a release of the writer lies less than the reader's period before it. Assumes nothing.
use Prim.Native.Nat.{ℕ, ◌<◌, ◌≤◌}
use mathlib.Core.Path.{◌≡◌, sym, ◌∙◌, subst}
use mathlib.Core.Bool.{true}
use native.Mathlib.Omega.{arith}
use Rattle.times.specs.Releases.{Timing, release, is_release}
use Rattle.times.specs.Points.{is_reading}
use Rattle.times.specs.PointTests.{released_to, reading_test}
use Rattle.times.proofs.Releases.{release_is_release, release_number}
use Rattle.times.proofs.Releases.{first_from_at_least, first_from_near, first_from_is}
use Rattle.times.proofs.ReleasesWithin.{released_to_finds, released_to_found}
use Rattle.times.proofs.PointFormulas.{reading_is_release, reading_first_after, reading_numbered}
use Rattle.times.proofs.PointSearch.{reading_finds, reading_found}
use Rattle.times.proofs.PointTests.{test_of_cases}

module _ (writer reader : Timing) (writes : 0 < writer.period) (reads : 0 < reader.period) (t : ℕ) where
  reading_released : is_reading writer reader t ≡ true → is_release reader t ≡ true
  reading_released h =
      let found = reading_finds writer reader t h in
      subst (λ (s : ℕ). is_release reader s ≡ true) found.1 (reading_is_release writer reader found.0)

  -- a reading point of a faster reader is preceded by a release of the writer after the reader's last
  reading_near
      : reader.period ≤ writer.period
      → is_reading writer reader t ≡ true
      → released_to writer t reader.period ≡ true
  reading_near le h =
      let found = reading_finds writer reader t h in
      let x = release writer found.0 in
      let point = sym (reading_first_after writer reader le found.0) ∙ found.1 in
      released_to_found
      writer
      writes
      t
      reader.period
      x
      (release_is_release writer found.0)
      (omega (arith, first_from_at_least reader reads x))
      (omega (arith, first_from_near reader reads x))

  -- a release of a reader that is the slower is a reading point
  reading_slow : writer.period ≤ reader.period → is_release reader t ≡ true → is_reading writer reader t ≡ true
  reading_slow le h =
      let number = release_number reader t h in
      let point = reading_numbered writer reader le reads number.0 ∙ number.1 in
      reading_found writer reader writes reads t number.0 point

  -- and so is one of a faster reader that a release of the writer precedes after the reader's last
  reading_fast
      : reader.period ≤ writer.period
      → is_release reader t ≡ true
      → released_to writer t reader.period ≡ true
      → is_reading writer reader t ≡ true
  reading_fast le h near =
      let found = released_to_finds writer writes t reader.period near in
      let number = release_number writer found.0 found.1 in
      let x = release writer number.0 in
      let first = first_from_is reader reads x t h (omega (arith, number.1)) (omega (arith, number.1)) in
      let point = reading_first_after writer reader le number.0 ∙ first in
      reading_found writer reader writes reads t number.0 point

  -- the test of a reading point
  pub reading_test_lem : is_reading writer reader t ≡ reading_test writer reader t
  reading_test_lem =
      test_of_cases
      (is_reading writer reader t)
      (is_release reader t)
      (released_to writer t reader.period)
      reader.period
      writer.period
      reading_released
      reading_near
      reading_slow
      reading_fast
