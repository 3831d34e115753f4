-- The answer is of real paths: a chain has at least one basic path, so the worst age, the best age and the longest
-- length are each reached by a start that is counted; and no basic path of any round, however late, has a larger age, a
-- smaller one or a longer length. Document 01, Age of a chain. Assumes nothing.
use Prim.Native.Nat.{ℕ, zero, suc, ◌+◌, ◌*◌, ◌/◌, ◌<◌, ◌≤◌}
use mathlib.Core.Path.{◌≡◌, ap, ◌∙◌}
use mathlib.Core.Logic.{⊎_elim}
use mathlib.Core.Bool.{Bool, true, false}
use native.Mathlib.Nat.{le_refl, le_trans}
use native.Mathlib.Omega.{arith}
use borrow.Author.Tests.{ltb-false}
use Rattle.lists.specs.Lists.{some_below}
use Rattle.lists.proofs.Bools.{true_or_false}
use Rattle.lists.proofs.Lists.{some_below_finds, some_below_none_passes}
use Rattle.times.specs.Releases.{release}
use Rattle.times.proofs.ReleaseNumbers.{release_next, release_rounds}
use Rattle.ages.specs.Ages.{Chain, first_period, end_of, is_basic, length_of, age_of, round_of, basic_paths}
use Rattle.ages.specs.Ages.{worst_age, best_age, ages_of}
use Rattle.ages.specs.Paths.{Counted, Path}
use Rattle.ages.proofs.Rising.{Timed}
use Rattle.ages.proofs.Repeats.{round_divided, round_positive, end_repeats, length_in_rounds, age_in_rounds}
use Rattle.ages.proofs.Counted.{counted_at, counted_is_path, counterpart}
use Rattle.ages.proofs.Extremes.{none_larger, none_less, largest_reached, least_reached}

-- without a basic path among the first starts the end stays
end_stays : (chain : Chain) (n : ℕ) → ((k : ℕ) → k < n → is_basic chain (release chain.first k) ≡ false)
    → end_of chain (release chain.first n) ≤ end_of chain (release chain.first 0)
unfolding is_basic
end_stays chain zero none = le_refl _
end_stays chain (suc n) none =
    let before = end_stays chain n (λ k below. none k (omega arith)) in
    let next : end_of chain (release chain.first n + first_period chain) ≤ end_of chain (release chain.first n) =
    ltb-false _ _ (none n (omega arith)) in
    rw (release_next chain.first n) (omega arith)

module _ (chain : Chain) (timed : Timed chain) where
  -- a chain has at least one basic path: from a start to the one a round later the end
  -- grows by the round
  pub some_path : (t : ℕ) × Counted chain t
  some_path = ⊎_elim found (λ none. absurd (never none)) (true_or_false (some_below starts basic))
    where
      starts : ℕ
      starts = round_of chain / first_period chain

      basic : ℕ → Bool
      basic k = is_basic chain (release chain.first k)

      found : some_below starts basic ≡ true → (t : ℕ) × Counted chain t
      found h =
          let (k, below, passes) = some_below_finds starts basic h in
          (release chain.first k, counted_at chain k below passes)

      never : some_below starts basic ≡ false → ⊥
      never h =
          let R = round_of chain in
          let t = release chain.first 0 in
          let stays = end_stays chain starts (some_below_none_passes starts basic h) in
          let one_round : release chain.first (0 + 1 * starts) ≡ t + 1 * R =
          release_rounds chain.first R (round_divided chain timed).0 0 1 in
          let number : starts ≡ 0 + 1 * starts = omega arith in
          let sum : t + 1 * R ≡ t + R = omega arith in
          let later : end_of chain (release chain.first starts) ≡ end_of chain t + R =
          ap (λ k. end_of chain (release chain.first k)) number ∙ ap (end_of chain) (one_round ∙ sum)
          ∙ end_repeats chain timed t in
          omega (arith, round_positive chain timed)

  -- the worst age is that of a path that is counted, and no path of any round has a larger one
  pub worst_reached : (t : ℕ) × Counted chain t × (age_of chain t ≡ (ages_of chain).worst)
  unfolding ages_of worst_age
  worst_reached = largest_reached (age_of chain) (basic_paths chain) some_path.1

  pub none_worse : (t : ℕ) → Path chain t → age_of chain t ≤ (ages_of chain).worst
  unfolding ages_of worst_age
  none_worse t path =
      let (s, n, counted, later) = counterpart chain timed t path in
      let same : age_of chain t ≡ age_of chain s = ap (age_of chain) later ∙ age_in_rounds chain timed s n in
      omega (arith, none_larger (age_of chain) (basic_paths chain) counted)

  -- the best age likewise
  pub best_reached : (t : ℕ) × Counted chain t × (age_of chain t ≡ (ages_of chain).best)
  unfolding ages_of best_age
  best_reached = least_reached (age_of chain) (basic_paths chain) some_path.1

  pub none_better : (t : ℕ) → Path chain t → (ages_of chain).best ≤ age_of chain t
  unfolding ages_of best_age
  none_better t path =
      let (s, n, counted, later) = counterpart chain timed t path in
      let same : age_of chain t ≡ age_of chain s = ap (age_of chain) later ∙ age_in_rounds chain timed s n in
      omega (arith, none_less (age_of chain) (basic_paths chain) counted)

  -- so the jitter, worst minus best, is not cut off at 0
  pub best_at_most_worst : (ages_of chain).best ≤ (ages_of chain).worst
  best_at_most_worst =
      let path = counted_is_path chain some_path.0 some_path.1 in
      le_trans (none_better some_path.0 path) (none_worse some_path.0 path)

  -- and the longest length
  pub longest_reached : (t : ℕ) × Counted chain t × (length_of chain t ≡ (ages_of chain).longest)
  unfolding ages_of
  longest_reached = largest_reached (length_of chain) (basic_paths chain) some_path.1

  pub none_longer : (t : ℕ) → Path chain t → length_of chain t ≤ (ages_of chain).longest
  unfolding ages_of
  none_longer t path =
      let (s, n, counted, later) = counterpart chain timed t path in
      let same : length_of chain t ≡ length_of chain s = ap (length_of chain) later ∙ length_in_rounds chain timed s n in
      omega (arith, none_larger (length_of chain) (basic_paths chain) counted)
