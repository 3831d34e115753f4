-- The points copy only at releases, and miss nothing that a reader could see: for every release of the reader, the
-- writer's last release at or before it is a publishing point, and the reader is served from then on up to its release.
-- Assumes nothing.
use Prim.Native.Nat.{ℕ, ◌<◌, ◌≤◌, ◌∣◌}
use mathlib.Core.Path.{◌≡◌, sym, ◌∙◌}
use mathlib.Core.Bool.{true}
use lib.Dec.{leb}
use Rattle.lists.proofs.Bools.{and_parts, and_of_parts, or_of_right}
use Rattle.times.specs.Releases.{Timing, is_release, first_from, last_to}
use Rattle.times.specs.Points.{publishes_at, serves_at}
use Rattle.times.proofs.Releases.{last_to_at_most, last_to_near, last_to_is_release}
use Rattle.times.proofs.Releases.{first_from_at_least, first_from_near, first_from_first, first_from_is_release}
use Rattle.times.proofs.ReleasesWithin.{released_from_found, released_to_found}
use Rattle.times.proofs.PointsInRound.{publishes_at_test, serves_at_test}

module _ (writer reader : Timing) (writes : 0 < writer.period) (reads : 0 < reader.period) where
  module _ (H : ℕ) (dw : writer.period ∣ H) (dr : reader.period ∣ H) where
    -- only at releases
    pub publishes_at_released : (t : ℕ) → publishes_at H writer reader t ≡ true → is_release writer t ≡ true
    publishes_at_released t h =
        (and_parts (is_release writer t) _ (sym (publishes_at_test writer reader writes reads H dw dr t) ∙ h)).0

    pub serves_at_released : (t : ℕ) → serves_at H writer reader t ≡ true → is_release reader t ≡ true
    serves_at_released t h =
        (and_parts (is_release reader t) _ (sym (serves_at_test writer reader writes reads H dw dr t) ∙ h)).0

    module _ (t : ℕ) (released : is_release reader t ≡ true) where
      -- at the writer's last release at or before a release of the reader
      pub publishes_at_last_write : publishes_at H writer reader (last_to writer t) ≡ true
      publishes_at_last_write =
          let w = last_to writer t in
          publishes_at_test writer reader writes reads H dw dr w
          ∙ and_of_parts (is_release writer w) _ (last_to_is_release writer t)
          (or_of_right (leb reader.period writer.period) _
          (released_from_found reader reads w writer.period t released
          (last_to_at_most writer t) (last_to_near writer writes t)))

      -- and from there up to the reader's release: at the reader's first release
      pub serves_at_after_last_write
          : (s : ℕ) × (last_to writer t ≤ s) × (s ≤ t) × (serves_at H writer reader s ≡ true)
      serves_at_after_last_write =
          let w = last_to writer t in
          let s = first_from reader w in (
            s,
            first_from_at_least reader reads w,
            first_from_first reader reads w t released (last_to_at_most writer t),
            serves_at_test writer reader writes reads H dw dr s
                ∙ and_of_parts (is_release reader s) _ (first_from_is_release reader w)
                (or_of_right (leb writer.period reader.period) _
                (released_to_found writer writes s reader.period w (last_to_is_release writer t)
                (first_from_at_least reader reads w) (first_from_near reader reads w))),
          )
