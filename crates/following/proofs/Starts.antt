-- Which starts a task of the chain has published by an instant: those up to the last start for it; and that it publishes
-- a start at a release of its own. Assumes nothing.
use Prim.Native.Nat.{ℕ, zero, suc, ◌+◌, ◌<◌, ◌≤◌}
use mathlib.Core.Path.{◌≡◌, ◌∙◌}
use mathlib.Core.Bool.{true}
use mathlib.Core.Logic.{by_cases}
use mathlib.Core.List.{List}
use native.Mathlib.Nat.{dvd_refl}
use native.Mathlib.Decide.{dec_le}
use native.Mathlib.Omega.{arith}
use lib.ListN.{get_or}
use Rattle.lists.proofs.All.{All, all_also}
use Rattle.times.specs.Releases.{every, is_release, job_end, first_from}
use Rattle.times.proofs.Releases.{first_from_is_release, last_to_is_release, last_to_at_most, last_to_last, releases_apart}
use Rattle.times.proofs.ReleasesRepeat.{release_repeats}
use Rattle.ages.proofs.Rising.{HasPeriod}
use Rattle.following.specs.Following.{passed, last_for, tasks_from, last_start, PublishedAt}
use Rattle.following.proofs.Backwards.{InRange, passed_append, passed_by, by_passed}
use Rattle.following.proofs.Tasks.{tasks_more, tasks_in_range}

module _ (periods : List ℕ) where
  -- a start is a release of the first task
  abbrev pub Start : ℕ → Type 0
  Start t = is_release (every (get_or periods 0 0)) t ≡ true

  -- each start is published at a release of the task that publishes it
  pub published_released : (at t : ℕ) → Start t
      → is_release (every (get_or periods at 0)) (passed (tasks_from periods 1 at) t) ≡ true
  unfolding passed tasks_from job_end
  published_released zero t start = start
  published_released (suc n) t start =
      let task = every (get_or periods (suc n) 0) in
      let T = get_or periods (suc n) 0 in
      let taken = first_from task (passed (tasks_from periods 1 n) t) in
      rw (tasks_more periods n, passed_append (tasks_from periods 1 n) _ t)
      (release_repeats task T (dvd_refl T) taken ∙ first_from_is_release task _)

  module _ {at x : ℕ} (published : PublishedAt periods at x) where
    timed : All HasPeriod (tasks_from periods 1 at)
    timed =
        all_also InRange HasPeriod (λ task range. range.0) (tasks_from periods 1 at)
        (tasks_in_range periods published.right 1 at (omega arith))

    first_timed : 0 < get_or periods 0 0
    first_timed = omega (arith, published.right.each 0 (omega arith))

    own_timed : 0 < get_or periods at 0
    own_timed = omega (arith, published.right.each at (omega arith))

    pub last_is_start : Start (last_start periods at x)
    unfolding last_start
    last_is_start = last_to_is_release (every (get_or periods 0 0)) _

    -- published by x exactly where the start is no later than the last one
    pub start_by : (t : ℕ) → Start t → passed (tasks_from periods 1 at) t ≤ x → t ≤ last_start periods at x
    unfolding last_start
    start_by t start by =
        last_to_last (every (get_or periods 0 0)) first_timed _ t start (passed_by (tasks_from periods 1 at) timed t x by)

    pub by_start : (t : ℕ) → t ≤ last_start periods at x → passed (tasks_from periods 1 at) t ≤ x
    unfolding last_start
    by_start t by =
        by_passed (tasks_from periods 1 at) timed x published.since t
        (omega (arith, last_to_at_most (every (get_or periods 0 0)) (last_for (tasks_from periods 1 at) x)))

    -- a start after the last one is published after x: before its last start a round is not over
    pub not_by : (t : ℕ) → Start t → last_start periods at x < t → x < passed (tasks_from periods 1 at) t
    not_by t start after =
        by_cases (dec_le (passed (tasks_from periods 1 at) t) x)
        (λ by. absurd (omega (arith, start_by t start by)))
        (λ later. omega arith)

    -- the task publishes again one period later
    pub published_next : PublishedAt periods at (x + get_or periods at 0)
    published_next = record {
      right = published.right;
      since = omega (arith, published.since);
      released =
          release_repeats (every (get_or periods at 0)) (get_or periods at 0) (dvd_refl (get_or periods at 0)) x
          ∙ published.released;
    }

  -- the starts after the last one, up to the last one a period later, are all published then
  pub published_then : {at x : ℕ} → PublishedAt periods at x → (t : ℕ) → Start t → last_start periods at x < t
      → t ≤ last_start periods at (x + get_or periods at 0)
      → passed (tasks_from periods 1 at) t ≡ x + get_or periods at 0
  published_then {at} {x} published t start after by =
      let apart = releases_apart (every (get_or periods at 0)) (own_timed published) x (passed (tasks_from periods 1 at) t)
      published.released (published_released at t start) (not_by published t start after) in
      omega (arith, apart, by_start (published_next published) t by)
