-- The next reader by the count of leading zeros: of the bits of the tasks from one on, as many are 0 as there are tasks
-- before the next reader. No contract cites this file. Assumes nothing.
use Prim.Native.Nat.{ℕ, suc, ◌+◌, ◌-◌, ◌*◌, ◌/◌, ◌^◌, ◌<◌, ◌≤◌}
use mathlib.Core.Path.{◌≡◌, sym, ap, ◌∙◌}
use mathlib.Core.Logic.{by_cases}
use mathlib.Core.List.{[]}
use native.Mathlib.Decide.{dec_lt}
use native.Mathlib.Nat.{mod-lt, pow-suc}
use native.Mathlib.Omega.{arith}
use Rattle.std.proofs.Math.Nat.{mod-le}
use lib.Bits.{bit_and, and_mask}
use lib.Count.{count_leading_zeros, leading_of_zero, leading_unique}
use lib.Pow.{pow_pos, ones_lt, ones_split, high}
use Rattle.masks.proofs.First.{first_held}
use Rattle.readers.specs.NextReader.{next_reader}
use Rattle.readers.proofs.Rest.{rest_from, rest_none, rest_next}
use Rattle.readers.proofs.Walk.{next_within}

-- the bits of the tasks before one, cut off
cut : (mask from : ℕ) → from ≤ 32 → bit_and mask (4294967295 / 2 ^ from) ≡ rest_from mask from
cut mask from few =
    let all : 32 ≡ 32 - from + from = omega arith in
    let left : 4294967295 / 2 ^ from ≡ 2 ^ (32 - from) - 1 =
    ap (λ n. (2 ^ n - 1) / 2 ^ from) all
    ∙ rw (ones_split (32 - from) from) (high (2 ^ (32 - from) - 1) from (ones_lt from)) in
    rw left (and_mask mask (32 - from))

module _ (mask from : ℕ) (few : from ≤ 32) where
  abbrev next : ℕ
  next = next_reader mask from

  -- a reader is left: its bit is the highest
  with_next : next < 32 → next ≡ count_leading_zeros 32 (rest_from mask from)
  with_next below =
      let whole = rest_next mask from few below in
      let place : 32 - (next + 1) ≡ 31 - next = omega arith in
      let less = mod-lt mask (pow_pos (32 - (next + 1))) in
      let same = ap (λ k. 2 ^ k) place in
      let above : 32 - next ≡ suc (31 - next) = omega arith in
      let twice : 2 ^ (32 - next) ≡ 2 ^ (31 - next) * 2 = ap (λ k. 2 ^ k) above ∙ pow-suc 2 (31 - next) in
      leading_unique 32 (rest_from mask from) next (32 - next) (omega arith) (omega (arith, whole, less, same, twice))
      (omega (arith, whole, twice))

  -- none is left
  without_next : 32 ≤ next → next ≡ count_leading_zeros 32 (rest_from mask from)
  without_next past =
      let end : next ≡ 32 = omega (arith, next_within mask from) in
      rw (rest_none mask from few end, leading_of_zero) end

  pub leading_next : count_leading_zeros 32 (bit_and mask (4294967295 / 2 ^ from)) ≡ next_reader mask from
  leading_next =
      rw (cut mask from few) (sym (by_cases (dec_lt next 32) with_next (λ past. without_next (omega arith))))

  -- a bit that is left stands for a task
  pub leading_known : mask < 2 ^ 32 → ¬ (bit_and mask (4294967295 / 2 ^ from) ≡ 0)
      → count_leading_zeros 32 (bit_and mask (4294967295 / 2 ^ from)) < 32
  leading_known known some =
      let whole = cut mask from few in
      let within = mod-le mask (2 ^ (32 - from)) in
      (first_held {A = ℕ} (λ r. []) 32 _ (omega (arith, some)) (omega (arith, whole, within))).known
