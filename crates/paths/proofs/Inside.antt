-- What is known of a walk inside a round: its instant is before the one at which the round's end is published, and its
-- numbers are small. No contract cites this file. Assumes nothing.
use Prim.Native.Nat.{ℕ, ◌+◌, ◌*◌, ◌/◌, ◌<◌, ◌≤◌, ◌∣◌, min}
use mathlib.Core.Path.{◌≡◌, sym, ap, ◌∙◌}
use mathlib.Core.Bool.{true}
use mathlib.Core.Logic.{by_cases}
use mathlib.Core.List.{List}
use native.Mathlib.Nat.{div-mul_cancel, div-le_self, zero-add}
use native.Mathlib.Decide.{dec_lt}
use native.Mathlib.Omega.{arith}
use lib.ListN.{get_or}
use Rattle.lists.specs.Lists.{only_if}
use Rattle.lists.proofs.Each.{length_each_below, length_only_if}
use Rattle.times.specs.Releases.{Timing, every, release, is_release, last_to}
use Rattle.times.proofs.Releases.{last_to_is_release, last_to_at_most}
use Rattle.times.proofs.ReleasesRepeat.{release_repeats}
use Rattle.ages.specs.Ages.{is_basic}
use Rattle.ages.proofs.Rising.{end_at_least}
use Rattle.following.specs.Following.{chain_by, passed, tasks_from}
use Rattle.following.proofs.Ends.{chain_timed, passed_at_soon}
use Rattle.following.proofs.Starts.{not_by}
use Rattle.path_sums.specs.declared.Walk.{Walk}
use Rattle.paths.specs.Walks.{Walking, starts, paths_below}
use Rattle.paths.proofs.Stretches.{release_rises}

-- a task is released at tick 0, and at each multiple of its period
pub zero_released : (task : Timing) → is_release task 0 ≡ true
zero_released task =
    let none : last_to task 0 ≡ 0 = omega (arith, last_to_at_most task 0) in
    ap (is_release task) (sym none) ∙ last_to_is_release task 0

multiple_released : (task : Timing) (t : ℕ) → task.period ∣ t → is_release task t ≡ true
multiple_released task t multiple =
    ap (is_release task) (sym (zero-add t)) ∙ release_repeats task t multiple 0 ∙ zero_released task

-- the release that is so late
pub release_of_round : (task : Timing) (round : ℕ) → task.period ∣ round → release task (round / task.period) ≡ round
unfolding release
release_of_round task round whole = div-mul_cancel task.period whole

pub number_below : (task : Timing) (m n : ℕ) → release task m < release task n → m < n
number_below task m n less =
    by_cases (dec_lt m n) (λ h. h) (λ more. absurd (omega (arith, release_rises task n m (omega arith))))

module _ (periods : List ℕ) {count at round : ℕ} {walk : Walk} (walking : Walking periods count at round walk) where
  -- the walk ends: the round's end is published later
  pub before_the_last : walk.instant < passed (tasks_from periods 1 at) round
  before_the_last =
      let first = every (get_or periods 0 0) in
      not_by periods walking.walks.published round (multiple_released first round walking.right.whole)
      (omega (arith, walking.walks.start, walking.within))

  pub instant_near : walk.instant < 1000000 + 2000000 * at
  instant_near =
      let right = walking.right in
      omega (
        arith,
        before_the_last,
        right.short,
        passed_at_soon periods right.right right.some walking.inside round,
      )

  -- the start is no later than its end
  pub end_after : walk.start ≤ walk.end
  end_after =
      let right = walking.right in
      let timed = chain_timed periods right.right right.some walking.inside in
      omega (arith, walking.walks.end, end_at_least (chain_by periods count) timed walk.start)

  -- its number is below that of the round's end
  pub number_inside : walking.walks.number < starts periods round
  number_inside =
      let first = every (get_or periods 0 0) in
      number_below first _ _
      (omega (
        arith,
        walking.walks.numbered,
        walking.within,
        release_of_round first round walking.right.whole,
      ))

  -- no more paths than starts
  pub few_paths : walk.paths ≤ 1000000
  unfolding paths_below
  few_paths =
      let chain = chain_by periods count in
      let number = min walking.walks.number (starts periods round) in
      omega (
        arith,
        walking.walks.sums.paths,
        length_each_below 1 number (λ k. only_if (is_basic chain (release chain.first k)) (release chain.first k))
            (λ k below. length_only_if (is_basic chain (release chain.first k)) (release chain.first k)),
        div-le_self round (get_or periods 0 0),
        walking.right.short,
      )
