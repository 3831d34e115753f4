-- The points of a pair of tasks. Document 01, Points: "From theorem 5.1 of source documents 000 and 002, with M the
-- larger of the two periods, for n from 0: publishing point P(n) = floor(n·M / Tw) · Tw; reading point Q(n) = ceil(n·M
-- / Tr) · Tr." Assumes nothing.
use Rattle.std.specs.Prelude.{ℕ, suc, ◌*◌, ◌%◌, max, Bool, eqb}
use Rattle.lists.specs.Lists.{some_below}
use Rattle.times.specs.Releases.{Timing, floor, ceil}

-- M, the larger of the two periods
abbrev pub larger : Timing → Timing → ℕ
larger writer reader = max writer.period reader.period

-- P(n) = floor(n·M / Tw) · Tw
unfoldable pub publishing : Timing → Timing → ℕ → ℕ
publishing writer reader n = floor (n * larger writer reader) writer.period * writer.period

-- Q(n) = ceil(n·M / Tr) · Tr
unfoldable pub reading : Timing → Timing → ℕ → ℕ
reading writer reader n = ceil (n * larger writer reader) reader.period * reader.period

-- t is a publishing point of the pair: P(n) for some n. No n above t need be tried:
-- of periods from 1 on, P(n) and Q(n) are at least n.
unfoldable pub is_publishing : Timing → Timing → ℕ → Bool
is_publishing writer reader t = some_below (suc t) (λ n. eqb (publishing writer reader n) t)

-- t is a reading point of the pair: Q(n) for some n
unfoldable pub is_reading : Timing → Timing → ℕ → Bool
is_reading writer reader t = some_below (suc t) (λ n. eqb (reading writer reader n) t)

-- t, modulo the round H, is a publishing point of the pair
unfoldable pub publishes_at : (H : ℕ) → Timing → Timing → ℕ → Bool
publishes_at H writer reader t = is_publishing writer reader (t % H)

-- t, modulo the round H, is a reading point of the pair
unfoldable pub serves_at : (H : ℕ) → Timing → Timing → ℕ → Bool
serves_at H writer reader t = is_reading writer reader (t % H)
