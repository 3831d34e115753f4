-- The points of a pair by releases. Document 01, Points, from theorem 5.1 of source documents 000 and 002: where the
-- writer has the smaller or equal period, Q(n) is the reader's release n and P(n) the writer's last release at or
-- before it; where the reader has, P(n) is the writer's release n and Q(n) the reader's first release at or after it.
-- Assumes nothing.
use Prim.Native.Nat.{ℕ, ◌+◌, ◌*◌, ◌-◌, ◌/◌, ◌<◌, ◌≤◌}
use mathlib.Core.Path.{◌≡◌, ap, ◌∙◌}
use mathlib.Core.Logic.{by_cases}
use mathlib.Core.Bool.{true}
use native.Mathlib.Nat.{max-eq_left, max-eq_right, mul-add-div_right, div-eq_of_lt, mul-div_cancel}
use native.Mathlib.Nat.{le-mul_of_pos_right, le-div_iff_mul-le, mul-le-mul_left, le-max_left, le-max_right}
use native.Mathlib.Decide.{dec_le}
use native.Mathlib.Omega.{arith}
use Rattle.times.specs.Releases.{Timing, release, is_release, floor, ceil, first_from, last_to}
use Rattle.times.specs.Points.{larger, publishing, reading}
use Rattle.times.proofs.Releases.{release_of_zero, release_is_release, last_to_at_most, last_to_last}
use Rattle.times.proofs.Releases.{first_from_at_least, first_from_first}

-- a publishing point is a release of the writer, a reading point one of the reader
pub publishing_is_release : (writer reader : Timing) (n : ℕ) → is_release writer (publishing writer reader n) ≡ true
unfolding publishing release
publishing_is_release writer reader n = release_is_release writer (floor (n * larger writer reader) writer.period)

pub reading_is_release : (writer reader : Timing) (n : ℕ) → is_release reader (reading writer reader n) ≡ true
unfolding reading release
reading_is_release writer reader n = release_is_release reader (ceil (n * larger writer reader) reader.period)

module _ (writer reader : Timing) where
  -- with a period of 0 there is no point but 0
  pub publishing_of_zero : writer.period ≡ 0 → (n : ℕ) → publishing writer reader n ≡ 0
  unfolding publishing release
  publishing_of_zero e n = release_of_zero writer e (floor (n * larger writer reader) writer.period)

  pub reading_of_zero : reader.period ≡ 0 → (n : ℕ) → reading writer reader n ≡ 0
  unfolding reading release
  reading_of_zero e n = release_of_zero reader e (ceil (n * larger writer reader) reader.period)

  -- where the writer has the smaller or equal period
  pub publishing_last_before
      : writer.period ≤ reader.period → (n : ℕ) → publishing writer reader n ≡ last_to writer (release reader n)
  unfolding publishing last_to release
  publishing_last_before le n =
      ap (λ (M : ℕ). floor (n * M) writer.period * writer.period) (max-eq_right le)

  pub reading_numbered
      : writer.period ≤ reader.period → 0 < reader.period → (n : ℕ) → reading writer reader n ≡ release reader n
  unfolding reading release
  reading_numbered le positive n =
      let T = reader.period in
      ap (λ (M : ℕ). ceil (n * M) T * T) (max-eq_right le)
      ∙ ap (λ (k : ℕ). k * T)
      (mul-add-div_right positive n (T - 1) ∙ ap (λ (k : ℕ). n + k) (div-eq_of_lt (omega arith)) ∙ omega arith)

  -- where the reader has the smaller or equal period
  pub publishing_numbered
      : reader.period ≤ writer.period → 0 < writer.period → (n : ℕ) → publishing writer reader n ≡ release writer n
  unfolding publishing release
  publishing_numbered le positive n =
      let T = writer.period in
      ap (λ (M : ℕ). floor (n * M) T * T) (max-eq_left le) ∙ ap (λ (k : ℕ). k * T) (mul-div_cancel n positive)

  pub reading_first_after
      : reader.period ≤ writer.period → (n : ℕ) → reading writer reader n ≡ first_from reader (release writer n)
  unfolding reading first_from release
  reading_first_after le n = ap (λ (M : ℕ). ceil (n * M) reader.period * reader.period) (max-eq_left le)

module _ (writer reader : Timing) (writes : 0 < writer.period) (reads : 0 < reader.period) where
  -- P(n) is at or before Q(n)
  pub publishing_before_reading : (n : ℕ) → publishing writer reader n ≤ reading writer reader n
  publishing_before_reading n = by_cases (dec_le writer.period reader.period) faster slower
    where
      faster : writer.period ≤ reader.period → publishing writer reader n ≤ reading writer reader n
      faster le =
          rw (publishing_last_before writer reader le n, reading_numbered writer reader le reads n)
          (last_to_at_most writer (release reader n))

      slower : ¬ (writer.period ≤ reader.period) → publishing writer reader n ≤ reading writer reader n
      slower more =
          let le : reader.period ≤ writer.period = omega arith in
          rw (publishing_numbered writer reader le writes n, reading_first_after writer reader le n)
          (first_from_at_least reader reads (release writer n))

  -- no release of a writer that is the faster lies after P(n) and up to Q(n)
  pub no_write_between
      : writer.period ≤ reader.period
      → (n s : ℕ)
      → is_release writer s ≡ true
      → publishing writer reader n < s
      → s ≤ reading writer reader n
      → ⊥
  no_write_between le n s h after before =
      let up_to_lem = rw (reading_numbered writer reader le reads n) at before in
      let last = last_to_last writer writes (release reader n) s h up_to_lem in
      omega (arith, publishing_last_before writer reader le n)

  -- no release of a reader that is the faster lies from P(n) on and before Q(n)
  pub no_read_between
      : reader.period ≤ writer.period
      → (n s : ℕ)
      → is_release reader s ≡ true
      → publishing writer reader n ≤ s
      → s < reading writer reader n
      → ⊥
  no_read_between le n s h after before =
      let from = rw (publishing_numbered writer reader le writes n) at after in
      let first = first_from_first reader reads (release writer n) s h from in
      omega (arith, reading_first_after writer reader le n)

  -- P(n) and Q(n) are at least n
  pub number_at_most_publishing : (n : ℕ) → n ≤ publishing writer reader n
  unfolding publishing
  number_at_most_publishing n =
      let T = writer.period in
      let M = larger writer reader in
      let number : n ≤ n * M / T = (le-div_iff_mul-le writes).1 (mul-le-mul_left n (le-max_left T reader.period)) in
      omega (arith, le-mul_of_pos_right (n * M / T) writes)

  pub number_at_most_reading : (n : ℕ) → n ≤ reading writer reader n
  unfolding reading
  number_at_most_reading n =
      let T = reader.period in
      let M = larger writer reader in
      let least = mul-le-mul_left n (le-max_right writer.period T) in
      let number : n ≤ ceil (n * M) T = (le-div_iff_mul-le reads).1 (omega arith) in
      omega (arith, le-mul_of_pos_right (ceil (n * M) T) reads)
