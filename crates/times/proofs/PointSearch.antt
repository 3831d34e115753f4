-- The search for a point below a bound agrees with "there is an n". Document 01, Points: "for n from 0".
-- Assumes nothing.
use Prim.Native.Nat.{ℕ, suc, ◌<◌}
use mathlib.Core.Path.{◌≡◌}
use mathlib.Core.Bool.{true}
use native.Mathlib.Omega.{arith}
use lib.Dec.{eqb}
use borrow.Author.Tests.{eqb-true, eq-eqb}
use Rattle.lists.proofs.Lists.{some_below_finds, some_below_found}
use Rattle.times.specs.Releases.{Timing}
use Rattle.times.specs.Points.{publishing, reading, is_publishing, is_reading}
use Rattle.times.proofs.PointFormulas.{number_at_most_publishing, number_at_most_reading}

-- the search for a point finds a number of it
pub publishing_finds
    : (writer reader : Timing) (t : ℕ)
    → is_publishing writer reader t ≡ true
    → (n : ℕ) × (publishing writer reader n ≡ t)
unfolding is_publishing
publishing_finds writer reader t h =
    let found = some_below_finds (suc t) (λ n. eqb (publishing writer reader n) t) h in
    (found.0, eqb-true (publishing writer reader found.0) t found.2)

pub reading_finds
    : (writer reader : Timing) (t : ℕ) → is_reading writer reader t ≡ true → (n : ℕ) × (reading writer reader n ≡ t)
unfolding is_reading
reading_finds writer reader t h =
    let found = some_below_finds (suc t) (λ n. eqb (reading writer reader n) t) h in
    (found.0, eqb-true (reading writer reader found.0) t found.2)

module _ (writer reader : Timing) (writes : 0 < writer.period) (reads : 0 < reader.period) where
  -- and misses none
  pub publishing_found : (t n : ℕ) → publishing writer reader n ≡ t → is_publishing writer reader t ≡ true
  unfolding is_publishing
  publishing_found t n e =
      some_below_found
      (suc t)
      (λ k. eqb (publishing writer reader k) t)
      n
      (omega (arith, number_at_most_publishing writer reader writes reads n))
      (eq-eqb (publishing writer reader n) t e)

  pub reading_found : (t n : ℕ) → reading writer reader n ≡ t → is_reading writer reader t ≡ true
  unfolding is_reading
  reading_found t n e =
      some_below_found
      (suc t)
      (λ k. eqb (reading writer reader k) t)
      n
      (omega (arith, number_at_most_reading writer reader writes reads n))
      (eq-eqb (reading writer reader n) t e)
