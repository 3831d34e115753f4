-- The tasks of a chain gone through backwards, from the one that publishes at an instant to the start. No contract cites
-- this file. Assumes nothing.
use Prim.Native.Nat.{ℕ, zero, suc, ◌+◌, ◌-◌, ◌<◌, ◌≤◌}
use mathlib.Core.Path.{◌≡◌, sym, ap, ◌∙◌}
use mathlib.Core.Bool.{true}
use mathlib.Core.List.{List}
use native.Mathlib.Nat.{dvd_refl}
use native.Mathlib.Omega.{arith}
use lib.ListN.{get_or}
use Rattle.times.specs.Releases.{every, is_release, last_to}
use Rattle.times.proofs.Releases.{last_to_is, last_to_at_most}
use Rattle.times.proofs.ReleasesRepeat.{release_repeats}
use Rattle.following.specs.Following.{passed, last_for, tasks_from, last_start, PublishedAt}
use Rattle.following.proofs.Backwards.{job_by, passed_append, last_for_append}
use Rattle.following.proofs.Tasks.{tasks_more}

module _ (periods : List ℕ) where
  -- the last of the tasks from number 1 to i takes it, and then those before it
  back_turn : (i x : ℕ) → 0 < i
      → let task = every (get_or periods i 0) in
      last_for (tasks_from periods 1 (i - 1)) (last_to task (x - task.period)) ≡ last_for (tasks_from periods 1 i) x
  unfolding last_for
  back_turn zero x some = absurd (omega arith)
  back_turn (suc i) x some =
      let before : suc i - 1 ≡ i = omega arith in
      rw (before, tasks_more periods i) (sym (last_for_append (tasks_from periods 1 i) _ x))

  -- where the first start was published by then, so it was by the tasks before
  since_turn : (i x : ℕ) → 0 < i → 0 < get_or periods i 0 → passed (tasks_from periods 1 i) 0 ≤ x
      → let task = every (get_or periods i 0) in
      (task.period ≤ x) × (passed (tasks_from periods 1 (i - 1)) 0 ≤ last_to task (x - task.period))
  unfolding passed
  since_turn zero x some positive since = absurd (omega arith)
  since_turn (suc i) x some positive since =
      let before : suc i - 1 ≡ i = omega arith in
      let by = rw (tasks_more periods i, passed_append (tasks_from periods 1 i) _ 0) at since in
      rw before (job_by (every (get_or periods (suc i) 0)) positive _ x by)

  -- a release of the task that publishes at x is known: one period before
  own_release : (i x : ℕ) → 0 < get_or periods i 0 → get_or periods i 0 ≤ x
      → is_release (every (get_or periods i 0)) x ≡ true
      → last_to (every (get_or periods i 0)) (x - get_or periods i 0) ≡ x - get_or periods i 0
  own_release i x positive long released =
      let T = get_or periods i 0 in
      let task = every T in
      let again : x - T + T ≡ x = omega arith in
      let earlier : is_release task (x - T) ≡ true =
      sym (release_repeats task T (dvd_refl T) (x - T)) ∙ ap (is_release task) again ∙ released in
      last_to_is task positive (x - T) (x - T) earlier (omega arith) (omega arith)

  -- task number i has to publish by the instant for task number `at` to publish by x
  pub record GoneBack (at x i instant : ℕ) : Type 0 where
    pub within : i ≤ at
    pub same : last_for (tasks_from periods 1 i) instant ≡ last_for (tasks_from periods 1 at) x
    pub since : passed (tasks_from periods 1 i) 0 ≤ instant
    pub near : instant ≤ x

  module _ {at x : ℕ} (published : PublishedAt periods at x) where
    positive : (i : ℕ) → i ≤ at → 0 < get_or periods i 0
    positive i within = omega (arith, published.right.each i (omega arith))

    -- its own release is known
    pub own_period : 0 < at → get_or periods at 0 ≤ x
    own_period some = (since_turn at x some (positive at (omega arith)) published.since).0

    pub gone_first : 0 < at → GoneBack at x (at - 1) (x - get_or periods at 0)
    gone_first some =
        let own = own_release at x (positive at (omega arith)) (own_period some) published.released in
        let since = (since_turn at x some (positive at (omega arith)) published.since).1 in
        record {
          within = omega arith;
          same = ap (last_for (tasks_from periods 1 (at - 1))) (sym own) ∙ back_turn at x some;
          since = rw own at since;
          near = omega arith;
        }

    module _ {i instant : ℕ} (gone : GoneBack at x i instant) (some : 0 < i) where
      pub long_enough : get_or periods i 0 ≤ instant
      long_enough = (since_turn i instant some (positive i gone.within) gone.since).0

      pub gone_turn : GoneBack at x (i - 1) (last_to (every (get_or periods i 0)) (instant - get_or periods i 0))
      gone_turn = record {
        within = omega (arith, gone.within);
        same = back_turn i instant some ∙ gone.same;
        since = (since_turn i instant some (positive i gone.within) gone.since).1;
        near = omega (arith, gone.near, last_to_at_most (every (get_or periods i 0)) (instant - get_or periods i 0));
      }

    -- to the start
    pub gone_all : {i instant : ℕ} → GoneBack at x i instant → i ≤ 0
        → last_to (every (get_or periods 0 0)) instant ≡ last_start periods at x
    unfolding last_start tasks_from last_for
    gone_all {i} gone none =
        let last : i ≡ 0 = omega arith in
        ap (last_to (every (get_or periods 0 0))) (rw last at gone.same)

  -- the first task counts a start as published
  pub start_itself : {at x : ℕ} → PublishedAt periods at x → at ≡ 0 → x ≡ last_start periods at x
  unfolding last_start tasks_from last_for
  start_itself {at} {x} published first =
      let task = every (get_or periods 0 0) in
      let positive : 0 < get_or periods 0 0 = omega (arith, published.right.each 0 (omega arith)) in
      let released : is_release task x ≡ true = rw first at published.released in
      rw first (sym (last_to_is task positive x x released (omega arith) (omega arith)))

-- from the release before x, at which the task publishes, to the instant for task number i
pub record Back (periods : List ℕ) (at i released instant : ℕ) : Type 0 where
  pub published : PublishedAt periods at (released + get_or periods at 0)
  pub near : released + get_or periods at 0 ≤ 32000000
  pub gone : GoneBack periods at (released + get_or periods at 0) i instant
