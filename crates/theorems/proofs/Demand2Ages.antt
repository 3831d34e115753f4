-- DEMAND 2, continued: the ages of a chain of an accepted table are those of its real paths, in whatever round they
-- lie, measured at the valve (document 02, C-11). To be read before: ages/specs/Ages and Paths (under crates/). Assumes
-- nothing.
use Prim.Native.Nat.{ℕ, ◌+◌, ◌-◌, ◌*◌, ◌≤◌, ◌<◌}
use mathlib.Core.Path.{◌≡◌}
use mathlib.Core.List.{List}
use lib.ListN.{length, get_or}
use Rattle.outcomes.specs.Outcome.{gives}
use Rattle.table.specs.Image.{Whole, read_image}
use Rattle.table.specs.Table.{chain_of}
use Rattle.table.proofs.MeetsRules.{accepted_meets_rules}
use Rattle.ages.specs.Ages.{Chain, last_period, end_of, length_of, age_of, round_of, basic_paths, ages_of, chain_timings}
use Rattle.ages.specs.Paths.{Counted, Path, worst_at_release, best_at_release}
use Rattle.ages.proofs.Rising.{Timed, end_rises, end_at_least}
use Rattle.ages.proofs.Repeats.{end_repeats}
use Rattle.ages.proofs.Counted as counted
use Rattle.ages.proofs.Once.{starts_rise}
use Rattle.ages.proofs.Reached as reached
use Rattle.ages.proofs.OfTable.{chain_timed}
use Rattle.ages.proofs.Valve as valve
use Rattle.questions.proofs.ages.Met as asked_ages_met
use Rattle.questions.proofs.ages.Statement as asked_ages

-- The ages of a chain, asked of any bytes and any number, are answered as document 01's definition `ages` says
-- (crates/questions, src/lib.rt):  said_of_ages r ≡ ages image chain
pub ages_answered : {M : Type 1} → asked_ages.statement M
ages_answered = asked_ages_met.met

-- chain k of a table
abbrev pub chain_at : Whole → ℕ → Chain
chain_at whole k = chain_timings whole.table (chain_of whole.table whole.rows k)

module _ (image : List ℕ) (whole : Whole) (accepted : read_image image ≡ gives whole)
    (k : ℕ) (known : k < whole.table.chains) where
  abbrev chain : Chain
  chain = chain_at whole k

  timed : Timed chain
  timed = chain_timed whole (accepted_meets_rules image whole accepted) k known

  -- "Its end E(t) is found by following the chain": it never falls when the start grows, and is never before its start.
  pub end_never_falls : (s t : ℕ) → s ≤ t → end_of chain s ≤ end_of chain t
  end_never_falls = end_rises chain timed

  pub end_after_start : (t : ℕ) → t ≤ end_of chain t
  end_after_start = end_at_least chain timed

  -- It repeats with "the least common multiple of the chain's own periods".
  pub end_repeats_with_round : (t : ℕ) → end_of chain (t + round_of chain) ≡ end_of chain t + round_of chain
  end_repeats_with_round = end_repeats chain timed

  -- So "the starts from 0 up to, and without," it are enough: each basic path of any round is one that is counted, some
  -- rounds later; and any number of rounds later each that is counted is one.
  pub every_path_is_counted : (t : ℕ) → Path chain t
      → (s : ℕ) × (n : ℕ) × Counted chain s × (t ≡ s + n * round_of chain)
  every_path_is_counted = counted.counterpart chain timed

  pub counted_in_every_round : (t n : ℕ) → Counted chain t → Path chain (t + n * round_of chain)
  counted_in_every_round = counted.counted_comes_again chain timed

  -- None is counted twice: the starts that are counted rise.
  pub no_path_counted_twice : (i j : ℕ) → i < j → j < length (basic_paths chain)
      → get_or (basic_paths chain) i 0 < get_or (basic_paths chain) j 0
  no_path_counted_twice = starts_rise chain timed

  -- There is at least one. So "longest length, worst age, best age" are each that of a path that is counted, and no
  -- basic path of any round is longer, has a larger age or a smaller one.
  pub at_least_one_path : (t : ℕ) × Counted chain t
  at_least_one_path = reached.some_path chain timed

  pub worst_is_reached : (t : ℕ) × Counted chain t × (age_of chain t ≡ (ages_of chain).worst)
  worst_is_reached = reached.worst_reached chain timed

  pub none_is_worse : (t : ℕ) → Path chain t → age_of chain t ≤ (ages_of chain).worst
  none_is_worse = reached.none_worse chain timed

  pub best_is_reached : (t : ℕ) × Counted chain t × (age_of chain t ≡ (ages_of chain).best)
  best_is_reached = reached.best_reached chain timed

  pub none_is_better : (t : ℕ) → Path chain t → (ages_of chain).best ≤ age_of chain t
  none_is_better = reached.none_better chain timed

  pub longest_is_reached : (t : ℕ) × Counted chain t × (length_of chain t ≡ (ages_of chain).longest)
  longest_is_reached = reached.longest_reached chain timed

  pub none_is_longer : (t : ℕ) → Path chain t → length_of chain t ≤ (ages_of chain).longest
  none_is_longer = reached.none_longer chain timed

  -- "jitter (worst minus best)": nothing is cut off.
  pub best_no_more_than_worst : (ages_of chain).best ≤ (ages_of chain).worst
  best_no_more_than_worst = reached.best_at_most_worst chain timed

  -- "the valve moves one period of that task later": beside document 01's ages, which stop at the last task's release, the
  -- worst and the best are each larger by the last task's period, and the jitter is the same.
  pub worst_at_the_valve : (ages_of chain).worst ≡ worst_at_release chain + last_period chain
  worst_at_the_valve = valve.worst_later chain timed

  pub best_at_the_valve : (ages_of chain).best ≡ best_at_release chain + last_period chain
  best_at_the_valve = valve.best_later chain timed

  pub jitter_is_that_at_the_release : (ages_of chain).jitter ≡ worst_at_release chain - best_at_release chain
  jitter_is_that_at_the_release = valve.jitter_stays chain timed
