-- The numbers of a chain's line are small, of every chain of a table that meets the rules. No contract cites this file.
-- Assumes nothing.
use Prim.Native.Nat.{ℕ, ◌<◌, ◌≤◌, ◌∣◌}
use mathlib.Core.List.{List, [], ◌∷◌, map}
use native.Mathlib.Nat.{le_trans, le_of_dvd}
use native.Mathlib.Omega.{arith}
use lib.ListN.{length, length-map}
use Rattle.lists.proofs.All.{All, all_within}
use Rattle.times.proofs.Hyperperiod.{hyperperiod_divides_common_multiple}
use Rattle.table.specs.Image.{Whole}
use Rattle.table.specs.Rules.{MeetsRules}
use Rattle.table.specs.Table.{timing_of, chain_of, hyperperiod_of}
use Rattle.table.proofs.Sound.{Sound}
use Rattle.ages.specs.Ages.{round_of, chain_timings, ages_of_chain}
use Rattle.ages.proofs.Rising.{all_by_number}
use Rattle.whole_texts.proofs.AgesSmall.{Small, NumbersSmall, SmallChain, numbers_small}

module _ (whole : Whole) (meets : MeetsRules whole) (sound : Sound whole.table) (k : ℕ)
    (known : k < whole.table.chains)
  where
    abbrev tasks : List ℕ
    tasks = chain_of whole.table whole.rows k

    abbrev InTable : ℕ → Type 0
    InTable i = i < whole.table.tasks

    all_in : All InTable tasks
    all_in = all_by_number InTable 0 tasks (meets.chain k known).chain_task

    periods_divide : (tasks : List ℕ) → All InTable tasks
        → All (λ p. p ∣ hyperperiod_of whole.table) (map (λ task. task.period) (map (timing_of whole.table) tasks))
    unfolding timing_of
    periods_divide [] all = tt
    periods_divide (i ∷ more) all = (sound.period_divides i all.0, periods_divide more all.1)

    all_small : (tasks : List ℕ) → All InTable tasks → All Small (map (timing_of whole.table) tasks)
    unfolding timing_of
    all_small [] all = tt
    all_small (i ∷ more) all = (meets.period i all.0, all_small more all.1)

    small_chain : (tasks : List ℕ) → All InTable tasks → 0 < length tasks → length tasks ≤ 8
        → SmallChain (chain_timings whole.table tasks)
    unfolding chain_timings round_of
    small_chain [] all some few = absurd (omega arith)
    small_chain (i ∷ more) all some few =
        let each = all_small (i ∷ more) all in
        let H = hyperperiod_of whole.table in
        let periods = map (λ task. task.period) (map (timing_of whole.table) (i ∷ more)) in
        let divides = hyperperiod_divides_common_multiple periods H
        (all_within (λ p. p ∣ H) periods 0 (periods_divide (i ∷ more) all)) in
        record {
          first_small = each.0;
          others_small = each.1;
          few = omega (arith, length-map more (timing_of whole.table));
          round_small = le_trans (le_of_dvd sound.round_positive divides) meets.hyperperiod;
        }

    pub chain_numbers_small : NumbersSmall (ages_of_chain whole.table whole.rows k)
    unfolding ages_of_chain
    chain_numbers_small =
        let long = (meets.chain k known).chain_length in
        numbers_small _ (small_chain tasks all_in (omega arith) (omega arith))
