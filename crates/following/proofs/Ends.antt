-- The end of a start, by the instants at which the tasks publish; and that it comes soon. Assumes nothing.
use Prim.Native.Nat.{ℕ, zero, suc, ◌+◌, ◌*◌, ◌-◌, ◌<◌, ◌≤◌}
use mathlib.Core.Path.{◌≡◌, refl, sym, ◌∙◌}
use mathlib.Core.List.{List, [], ◌∷◌, ◌++◌}
use native.Mathlib.Omega.{arith}
use lib.ListN.{get_or}
use Rattle.lists.proofs.All.{All, all_also}
use Rattle.times.specs.Releases.{Timing, every, job_end, first_from}
use Rattle.ages.specs.Ages.{follow, end_of}
use Rattle.ages.proofs.Rising.{HasPeriod, Timed}
use Rattle.following.specs.Following.{passed, tasks_from, chain_by, end_from, RightPeriods}
use Rattle.following.proofs.Backwards.{InRange, passed_append, passed_rises, passed_soon}
use Rattle.following.proofs.Tasks.{tasks_more, tasks_parted, tasks_in_range, length_tasks}

-- the last task takes it from the tasks before, and does not publish it
follow_last : (tasks : List Timing) (last : Timing) (t : ℕ)
    → follow (tasks ++ last ∷ []) t ≡ first_from last (passed tasks t)
unfolding follow passed
follow_last [] last t = refl
follow_last (task ∷ []) last t = refl
follow_last (task ∷ next ∷ more) last t = follow_last (next ∷ more) last (job_end task (first_from task t))

module _ (periods : List ℕ) where
  -- so of the tasks after the first the last publishes one period after the end
  followed : (n t : ℕ) → 0 < n
      → follow (tasks_from periods 1 n) t + get_or periods n 0 ≡ passed (tasks_from periods 1 n) t
  unfolding passed job_end
  followed zero t some = absurd (omega arith)
  followed (suc n) t some =
      let last = every (get_or periods (suc n) 0) in
      rw (tasks_more periods n, follow_last (tasks_from periods 1 n) last t)
      (sym (passed_append (tasks_from periods 1 n) (last ∷ []) t))

  -- the tasks after the first, parted at task number `at`
  passed_parted : (count at t : ℕ) → at < count
      → passed (tasks_from periods 1 (count - 1)) t
      ≡ passed (tasks_from periods (at + 1) (count - (at + 1))) (passed (tasks_from periods 1 at) t)
  passed_parted count at t inside =
      let all : count - 1 ≡ at + (count - (at + 1)) = omega arith in
      let next : 1 + at ≡ at + 1 = omega arith in
      rw (all, tasks_parted periods 1 at (count - (at + 1)), next)
      (passed_append (tasks_from periods 1 at) (tasks_from periods (at + 1) (count - (at + 1))) t)

  module _ {count at : ℕ} (right : RightPeriods periods count) (some : 2 ≤ count) (inside : at < count) where
    -- every task of the chain has a period above 0
    pub tasks_timed : (i n : ℕ) → i + n ≤ count → All HasPeriod (tasks_from periods i n)
    tasks_timed i n few =
        all_also InRange HasPeriod (λ task range. range.0) (tasks_from periods i n)
        (tasks_in_range periods right i n few)

    pub chain_timed : Timed (chain_by periods count)
    chain_timed = record {
      first_timed = omega (arith, right.each 0 (omega arith));
      others_timed = tasks_timed 1 (count - 1) (omega arith);
    }

    published_end : (t : ℕ) → end_of (chain_by periods count) t + get_or periods (count - 1) 0
        ≡ passed (tasks_from periods (at + 1) (count - (at + 1))) (passed (tasks_from periods 1 at) t)
    unfolding end_of
    published_end t = followed (count - 1) t (omega arith) ∙ passed_parted count at t inside

    -- the end of a start, from the instant at which task number `at` publishes it
    pub end_from_lem : (t : ℕ)
        → end_of (chain_by periods count) t ≡ end_from periods at count (passed (tasks_from periods 1 at) t)
    unfolding end_from
    end_from_lem t = omega (arith, published_end t)

    -- the last task's period is not above the instant at which it publishes
    pub last_period_lem : (x : ℕ) → passed (tasks_from periods 1 at) 0 ≤ x
        → get_or periods (count - 1) 0 ≤ passed (tasks_from periods (at + 1) (count - (at + 1))) x
    last_period_lem x since =
        omega (
          arith,
          published_end 0,
          passed_rises (tasks_from periods (at + 1) (count - (at + 1))) (tasks_timed _ _ (omega arith)) _ x since,
        )

    -- an end comes soon, and not before its start
    pub end_soon : (t : ℕ) → end_of (chain_by periods count) t ≤ t + 16000000
    unfolding end_of
    end_soon t =
        omega (
          arith,
          right.few,
          followed (count - 1) t (omega arith),
          passed_soon (tasks_from periods 1 (count - 1)) (tasks_in_range periods right 1 (count - 1) (omega arith)) t,
          length_tasks periods 1 (count - 1),
        )

    pub end_from_soon : (x : ℕ) → end_from periods at count x ≤ x + 16000000
    unfolding end_from
    end_from_soon x =
        let n = count - (at + 1) in
        omega (
          arith,
          right.few,
          passed_soon (tasks_from periods (at + 1) n) (tasks_in_range periods right (at + 1) n (omega arith)) x,
          length_tasks periods (at + 1) n,
        )

    pub passed_at_soon : (t : ℕ) → passed (tasks_from periods 1 at) t ≤ t + 2000000 * at
    passed_at_soon t =
        omega (
          arith,
          passed_soon (tasks_from periods 1 at) (tasks_in_range periods right 1 at (omega arith)) t,
          length_tasks periods 1 at,
        )
