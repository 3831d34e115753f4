-- The points that count at a tick, taken modulo a round H that both periods divide. Document 01, Copies and frames:
-- "when t, modulo H, is a publishing point", "when t, modulo H, is a reading point". A tick counts exactly when some
-- point of the pair has its remainder, and exactly when it passes the fast test; what stands above uses these two laws
-- and not the search. Assumes nothing.
use Prim.Native.Nat.{ℕ, ◌+◌, ◌%◌, ◌<◌, ◌∣◌}
use mathlib.Core.Path.{◌≡◌, refl, sym, ap, ◌∙◌}
use mathlib.Core.Bool.{Bool, true}
use mathlib.Core.Logic.{◌↔◌}
use native.Mathlib.Nat.{add-mod_right, mod-mod}
use Rattle.times.specs.Releases.{Timing}
use Rattle.times.specs.Points.{publishing, reading, is_publishing, is_reading, publishes_at, serves_at}
use Rattle.times.specs.PointTests.{publishing_test, reading_test}
use Rattle.times.proofs.PointSearch.{publishing_finds, publishing_found, reading_finds, reading_found}
use Rattle.times.proofs.PublishingTest.{publishing_test_lem}
use Rattle.times.proofs.ReadingTest.{reading_test_lem}
use Rattle.times.proofs.PointsRepeat.{publishing_modulo, reading_modulo}

-- a round is like the first
pub publishes_in_round : (H : ℕ) (writer reader : Timing) (t : ℕ)
    → publishes_at H writer reader (t % H) ≡ publishes_at H writer reader t
unfolding publishes_at
publishes_in_round H writer reader t = ap (is_publishing writer reader) (mod-mod t H)

pub serves_in_round : (H : ℕ) (writer reader : Timing) (t : ℕ)
    → serves_at H writer reader (t % H) ≡ serves_at H writer reader t
unfolding serves_at
serves_in_round H writer reader t = ap (is_reading writer reader) (mod-mod t H)

-- so ticks of one remainder are alike
alike : (H : ℕ) (test : ℕ → Bool) → ((t : ℕ) → test (t % H) ≡ test t) → (s t : ℕ) → s % H ≡ t % H → test s ≡ test t
alike H test in_round s t e = sym (in_round s) ∙ ap test e ∙ in_round t

-- round after round
pub publishes_at_repeats : (H : ℕ) (writer reader : Timing) (t : ℕ)
    → publishes_at H writer reader (t + H) ≡ publishes_at H writer reader t
publishes_at_repeats H writer reader t =
    alike H (publishes_at H writer reader) (publishes_in_round H writer reader) (t + H) t (add-mod_right t H)

pub serves_at_repeats : (H : ℕ) (writer reader : Timing) (t : ℕ)
    → serves_at H writer reader (t + H) ≡ serves_at H writer reader t
serves_at_repeats H writer reader t =
    alike H (serves_at H writer reader) (serves_in_round H writer reader) (t + H) t (add-mod_right t H)

module _ (writer reader : Timing) (writes : 0 < writer.period) (reads : 0 < reader.period) where
  module _ (H : ℕ) (dw : writer.period ∣ H) (dr : reader.period ∣ H) where
    -- by the fast tests
    pub publishes_at_test : (t : ℕ) → publishes_at H writer reader t ≡ publishing_test writer reader t
    unfolding publishes_at
    publishes_at_test t =
        publishing_test_lem writer reader writes reads (t % H) ∙ publishing_modulo writer reader writes reads H dw dr t

    pub serves_at_test : (t : ℕ) → serves_at H writer reader t ≡ reading_test writer reader t
    unfolding serves_at
    serves_at_test t =
        reading_test_lem writer reader writes reads (t % H) ∙ reading_modulo writer reader writes reads H dw dr t

    -- exactly when some P(n) has the remainder of t
    pub publishes_at_exactly : (t : ℕ)
        → (publishes_at H writer reader t ≡ true) ↔ ((n : ℕ) × (publishing writer reader n % H ≡ t % H))
    unfolding publishes_at
    publishes_at_exactly t = (finds, λ point. found point.0 point.1)
      where
        finds : is_publishing writer reader (t % H) ≡ true → (n : ℕ) × (publishing writer reader n % H ≡ t % H)
        finds h =
            let (n, e) = publishing_finds writer reader (t % H) h in
            (n, ap (λ (k : ℕ). k % H) e ∙ mod-mod t H)

        found : (n : ℕ) → publishing writer reader n % H ≡ t % H → publishes_at H writer reader t ≡ true
        found n e =
            let point = publishing writer reader n in
            alike H (publishes_at H writer reader) (publishes_in_round H writer reader) t point (sym e)
            ∙ publishes_at_test point
            ∙ sym (publishing_test_lem writer reader writes reads point)
            ∙ publishing_found writer reader writes reads point n refl

    -- exactly when some Q(n) has the remainder of t
    pub serves_at_exactly : (t : ℕ)
        → (serves_at H writer reader t ≡ true) ↔ ((n : ℕ) × (reading writer reader n % H ≡ t % H))
    unfolding serves_at
    serves_at_exactly t = (finds, λ point. found point.0 point.1)
      where
        finds : is_reading writer reader (t % H) ≡ true → (n : ℕ) × (reading writer reader n % H ≡ t % H)
        finds h =
            let (n, e) = reading_finds writer reader (t % H) h in
            (n, ap (λ (k : ℕ). k % H) e ∙ mod-mod t H)

        found : (n : ℕ) → reading writer reader n % H ≡ t % H → serves_at H writer reader t ≡ true
        found n e =
            let point = reading writer reader n in
            alike H (serves_at H writer reader) (serves_in_round H writer reader) t point (sym e)
            ∙ serves_at_test point
            ∙ sym (reading_test_lem writer reader writes reads point)
            ∙ reading_found writer reader writes reads point n refl
