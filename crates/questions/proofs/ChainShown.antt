-- A chain of an accepted table, by the periods of its tasks: it is not in the table, and 12 is said; or its ages are those of
-- the chain of these periods. No contract cites this file. Assumes nothing.
use Prim.Native.Nat.{ℕ, ◌<◌, ◌≤◌, ◌∣◌}
use mathlib.Core.Path.{◌≡◌, sym, ap, ◌∙◌}
use mathlib.Core.List.{List, [], map}
use native.Mathlib.Nat.{le_of_dvd}
use native.Mathlib.Omega.{arith}
use lib.ListN.{length, get_or, length-map}
use borrow.Author.Tests.{lt-ltb, le-ltb}
use Rattle.std.proofs.lemmas.List.{get_or-map}
use Rattle.outcomes.specs.Outcome.{gives}
use Rattle.times.specs.Hyperperiod.{lcm_of, lcm_from}
use Rattle.times.proofs.Hyperperiod.{hyperperiod_divides_common_multiple}
use Rattle.table.specs.Rules.{FromTo, MeetsRules}
use Rattle.table.specs.Table.{period_of, chain_of, hyperperiod_of}
use Rattle.table.specs.Image.{Whole}
use Rattle.table.proofs.Sound.{Sound}
use Rattle.image_chains.specs.PeriodsShown.{periods_in}
use Rattle.ages.specs.Ages.{ages_of, ages_of_chain, chain_timings}
use Rattle.following.specs.Following.{chain_by}
use Rattle.following.proofs.Chains.{chain_of_lem}
use Rattle.aged_chains.specs.Parts.{aged_by, RightAsked}
use Rattle.questions.specs.Questions.{chain_aged}

-- a chain that is not in the table
module _ (whole : Whole) (k : ℕ) (unknown : whole.table.chains ≤ k) where
  none : periods_in whole k ≡ []
  unfolding periods_in
  none = rw (le-ltb _ _ unknown)

  pub none_few : length (periods_in whole k) ≤ 8
  none_few = rw none (omega arith)

  pub none_asked : RightAsked (periods_in whole k)
  unfolding lcm_of lcm_from
  none_asked =
      rw (none) (record {
        right = record { few = omega arith; each = λ i below. absurd (omega arith) };
        some = λ some. absurd (omega arith);
        short = omega arith;
      })

  pub none_aged : chain_aged whole.table whole.rows k ≡ aged_by (periods_in whole k)
  none_aged = rw (le-ltb _ _ unknown, none)

-- a chain of the table
module _ (whole : Whole) (meets : MeetsRules whole) (sound : Sound whole.table) (k : ℕ) (known : k < whole.table.chains) where
  abbrev tasks : List ℕ
  tasks = chain_of whole.table whole.rows k

  abbrev all : List ℕ
  all = map (period_of whole.table) tasks

  -- its periods are those of its tasks
  are_periods : periods_in whole k ≡ all
  unfolding periods_in
  are_periods = rw (lt-ltb _ _ known)

  long : length all ≡ length tasks
  long = length-map tasks (period_of whole.table)

  count_in_range : FromTo 2 8 (length all)
  count_in_range = rw long (meets.chain k known).chain_length

  pub known_few : length (periods_in whole k) ≤ 8
  known_few = rw are_periods count_in_range.1

  period_at : (j : ℕ) → j < length all → get_or all j 0 ≡ period_of whole.table (get_or tasks j 0)
  period_at j below = get_or-map (period_of whole.table) tasks j 0 0 (omega (arith, long))

  in_table : (j : ℕ) → j < length all → get_or tasks j 0 < whole.table.tasks
  in_table j below = (meets.chain k known).chain_task j (omega (arith, long))

  -- the chain's own round divides the table's, and so is within the limit
  round_divides : lcm_of all ∣ hyperperiod_of whole.table
  round_divides =
      hyperperiod_divides_common_multiple all (hyperperiod_of whole.table) (λ j below.
      rw (period_at j below) (sound.period_divides _ (in_table j below)))

  pub known_asked : RightAsked (periods_in whole k)
  known_asked =
      rw are_periods (record {
        right = record {
          few = count_in_range.1;
          each = λ j below. rw (period_at j below) (meets.period _ (in_table j below));
        };
        some = λ some. count_in_range.0;
        short = omega (arith, le_of_dvd sound.round_positive round_divides, meets.hyperperiod);
      })

  pub known_aged : chain_aged whole.table whole.rows k ≡ aged_by (periods_in whole k)
  unfolding ages_of_chain
  known_aged =
      let same : chain_by all (length all) ≡ chain_timings whole.table tasks =
      ap (chain_by all) long
      ∙ chain_of_lem whole.table all tasks (omega (arith, long, count_in_range.0))
      (λ j below. period_at j (omega (arith, long))) in
      let some : 0 < length all = omega (arith, count_in_range.0) in
      rw (lt-ltb _ _ known, are_periods, lt-ltb _ _ some) (ap (λ chain. gives (ages_of chain)) (sym same))
