-- The tests of a point repeat with every common multiple of the two periods, and so with the hyperperiod. Document 01,
-- Copies and frames: "when t, modulo H, is a publishing point". Assumes nothing.
use Prim.Native.Nat.{ℕ, ◌+◌, ◌*◌, ◌/◌, ◌%◌, ◌<◌, ◌∣◌}
use mathlib.Core.Path.{◌≡◌, sym, ap, ap₂, ◌∙◌}
use mathlib.Core.Bool.{Bool, ◌&&◌, ◌||◌}
use native.Mathlib.Nat.{dvd-mul_left_of_dvd, mod-add-div'}
use lib.Dec.{leb}
use Rattle.times.specs.Releases.{Timing}
use Rattle.times.specs.PointTests.{publishing_test, reading_test}
use Rattle.times.proofs.ReleasesRepeat.{release_repeats, released_from_repeats, released_to_repeats}

module _ (writer reader : Timing) (writes : 0 < writer.period) (reads : 0 < reader.period) where
  publishing_repeats
      : (H : ℕ)
      → writer.period ∣ H
      → reader.period ∣ H
      → (t : ℕ)
      → publishing_test writer reader (t + H) ≡ publishing_test writer reader t
  publishing_repeats H dw dr t =
      ap₂ ◌&&◌
      (release_repeats writer H dw t)
      (ap
      (λ (near : Bool). leb reader.period writer.period || near)
      (released_from_repeats reader H dr reads t writer.period))

  reading_repeats
      : (H : ℕ)
      → writer.period ∣ H
      → reader.period ∣ H
      → (t : ℕ)
      → reading_test writer reader (t + H) ≡ reading_test writer reader t
  reading_repeats H dw dr t =
      ap₂ ◌&&◌
      (release_repeats reader H dr t)
      (ap
      (λ (near : Bool). leb writer.period reader.period || near)
      (released_to_repeats writer H dw writes t reader.period))

  -- so a tick may be taken modulo H
  module _ (H : ℕ) (dw : writer.period ∣ H) (dr : reader.period ∣ H) (t : ℕ) where
    pub publishing_modulo : publishing_test writer reader (t % H) ≡ publishing_test writer reader t
    publishing_modulo =
        let multiple_w = dvd-mul_left_of_dvd writer.period dw (t / H) in
        let multiple_r = dvd-mul_left_of_dvd reader.period dr (t / H) in
        let whole_rounds = publishing_repeats (t / H * H) multiple_w multiple_r (t % H) in
        sym whole_rounds ∙ ap (publishing_test writer reader) (mod-add-div' t H)

    pub reading_modulo : reading_test writer reader (t % H) ≡ reading_test writer reader t
    reading_modulo =
        let multiple_w = dvd-mul_left_of_dvd writer.period dw (t / H) in
        let multiple_r = dvd-mul_left_of_dvd reader.period dr (t / H) in
        let whole_rounds = reading_repeats (t / H * H) multiple_w multiple_r (t % H) in
        sym whole_rounds ∙ ap (reading_test writer reader) (mod-add-div' t H)
