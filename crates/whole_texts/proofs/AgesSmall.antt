-- The numbers of a chain's line are small: of at most eight tasks with periods of at most 1,000,000 each is below the
-- eighth power of ten. No contract cites this file. Assumes nothing.
use Prim.Native.Nat.{ℕ, ◌+◌, ◌*◌, ◌/◌, ◌^◌, ◌<◌, ◌≤◌}
use mathlib.Core.List.{List, [], ◌∷◌}
use native.Mathlib.Nat.{div-le_self}
use native.Mathlib.Omega.{arith}
use lib.ListN.{length}
use Rattle.lists.specs.Lists.{only_if}
use Rattle.lists.proofs.All.{All, all_also}
use Rattle.lists.proofs.Each.{length_each_below, length_only_if}
use Rattle.times.specs.Releases.{Timing, job_end, first_from, release}
use Rattle.times.proofs.Releases.{first_from_near}
use Rattle.ages.specs.Ages.{Chain, Ages, first_period, last_task, last_period, follow, end_of, is_basic, length_of}
use Rattle.ages.specs.Ages.{age_at_release, age_of, round_of, basic_paths, ages_of}
use Rattle.ages.proofs.Rising.{HasPeriod, Timed}
use Rattle.ages.proofs.Reached.{worst_reached, best_reached, longest_reached}

-- a task of a table: its period is above 0 and at most 1,000,000
abbrev pub Small : Timing → Type 0
Small task = (0 < task.period) × (task.period ≤ 1000000)

-- each task on the way takes less than two of its periods
follow_near : (tasks : List Timing) → All Small tasks → (t : ℕ) → follow tasks t ≤ t + 2000000 * length tasks
unfolding follow job_end
follow_near [] small t = omega arith
follow_near (last ∷ []) small t =
    let few = small.0.1 in
    omega (arith, first_from_near last small.0.0 t)
follow_near (middle ∷ next ∷ more) small t =
    let few = small.0.1 in
    let taken = first_from middle t in
    omega (
      arith,
      first_from_near middle small.0.0 t,
      follow_near (next ∷ more) small.1 (taken + middle.period),
    )

-- and so is the task a chain ends with
last_small : (task : Timing) (tasks : List Timing) → Small task → All Small tasks
    → (last_task task tasks).period ≤ 1000000
unfolding last_task
last_small task [] small others = small.1
last_small task (next ∷ more) small others = last_small next more others.0 others.1

-- the five numbers of a chain's line
pub record NumbersSmall (ages : Ages) : Type 0 where
  pub paths : ages.paths < 10 ^ 8
  pub longest : ages.longest < 10 ^ 8
  pub worst : ages.worst < 10 ^ 8
  pub best : ages.best < 10 ^ 8
  pub jitter : ages.jitter < 10 ^ 8

-- a chain of a table: its tasks, no more than eight, and its round
pub record SmallChain (chain : Chain) : Type 0 where
  pub first_small : Small chain.first
  pub others_small : All Small chain.others
  pub few : length chain.others ≤ 7
  pub round_small : round_of chain ≤ 1000000

module _ (chain : Chain) (small : SmallChain chain) where
  end_near : (t : ℕ) → end_of chain t ≤ t + 14000000
  unfolding end_of
  end_near t =
      let few = small.few in
      omega (arith, follow_near chain.others small.others_small t)

  age_small : (t : ℕ) → age_of chain t ≤ 17000000
  unfolding age_of age_at_release
  age_small t =
      let period = small.first_small.1 in
      let last : last_period chain ≤ 1000000 =
      last_small chain.first chain.others small.first_small small.others_small in
      omega (arith, end_near (t + first_period chain))

  length_small : (t : ℕ) → length_of chain t ≤ 14000000
  unfolding length_of
  length_small t = omega (arith, end_near t)

  paths_few : length (basic_paths chain) ≤ 1000000
  unfolding basic_paths
  paths_few =
      let starts = round_of chain / first_period chain in
      let round = small.round_small in
      omega (
        arith,
        length_each_below 1 starts
            (λ k. let t : ℕ = release chain.first k in only_if (is_basic chain t) t)
            (λ k below. length_only_if (is_basic chain (release chain.first k)) _),
        div-le_self (round_of chain) (first_period chain),
      )

  timed : Timed chain
  timed = record {
    first_timed = small.first_small.0;
    others_timed = all_also Small HasPeriod (λ task is. is.0) chain.others small.others_small;
  }

  pub numbers_small : NumbersSmall (ages_of chain)
  unfolding ages_of
  numbers_small =
      let longest = longest_reached chain timed in
      let worst = worst_reached chain timed in
      let best = best_reached chain timed in
      record {
        paths = omega (arith, paths_few);
        longest = omega (arith, length_small longest.0, longest.2);
        worst = omega (arith, age_small worst.0, worst.2);
        best = omega (arith, age_small best.0, best.2);
        jitter = omega (arith, age_small worst.0, worst.2);
      }
