-- The tasks of a chain by their numbers: parted at any of them, and gone through one by one. No contract cites this file.
-- Assumes nothing.
use Prim.Native.Nat.{ℕ, zero, suc, ◌+◌, ◌-◌, ◌<◌, ◌≤◌}
use mathlib.Core.Path.{◌≡◌, refl, ap, ◌∙◌}
use mathlib.Core.List.{List, [], ◌∷◌, ◌++◌}
use native.Mathlib.Nat.{zero-add, add-zero, suc-add}
use native.Mathlib.Numerals.{add-one}
use native.Mathlib.Omega.{arith}
use lib.ListN.{length, get_or}
use Rattle.lists.proofs.All.{All}
use Rattle.times.specs.Releases.{every, job_end, first_from}
use Rattle.following.specs.Following.{passed, tasks_from, RightPeriods}
use Rattle.following.proofs.Backwards.{InRange}

module _ (periods : List ℕ) where
  -- so many, and then so many more
  pub tasks_parted : (i m n : ℕ) → tasks_from periods i (m + n) ≡ tasks_from periods i m ++ tasks_from periods (i + m) n
  unfolding tasks_from
  tasks_parted i zero n = rw (zero-add, add-zero)
  tasks_parted i (suc m) n =
      let moved : i + suc m ≡ suc i + m = omega arith in
      rw (suc-add m n, moved) (ap (λ l. every (get_or periods i 0) ∷ l) (tasks_parted (suc i) m n))

  -- one more
  pub tasks_more : (n : ℕ) → tasks_from periods 1 (suc n) ≡ tasks_from periods 1 n ++ every (get_or periods (suc n) 0) ∷ []
  unfolding tasks_from
  tasks_more n =
      let more : n + 1 ≡ suc n = omega arith in
      let last : 1 + n ≡ suc n = omega arith in
      rw (more, last) at (tasks_parted 1 n 1)

  pub length_tasks : (i n : ℕ) → length (tasks_from periods i n) ≡ n
  unfolding tasks_from
  length_tasks i zero = refl
  length_tasks i (suc n) = ap suc (length_tasks (suc i) n)

  -- each is in range
  pub tasks_in_range : {count : ℕ} → RightPeriods periods count → (i n : ℕ) → i + n ≤ count
      → All InRange (tasks_from periods i n)
  unfolding tasks_from
  tasks_in_range right i zero few = tt
  tasks_in_range right i (suc n) few =
      let own = right.each i (omega arith) in
      ((omega arith, own.1), tasks_in_range right (suc i) n (omega arith))

  -- the first of them publishes, and then those after it
  pub passed_turn : (i to x : ℕ) → i < to
      → let task = every (get_or periods i 0) in
      passed (tasks_from periods (i + 1) (to - (i + 1))) (job_end task (first_from task x))
      ≡ passed (tasks_from periods i (to - i)) x
  unfolding tasks_from passed
  passed_turn i to x inside =
      let task = every (get_or periods i 0) in
      let left : suc (to - (i + 1)) ≡ to - i = omega arith in
      ap (λ k. passed (tasks_from periods k (to - (i + 1))) (job_end task (first_from task x))) (add-one i)
      ∙ ap (λ n. passed (tasks_from periods i n) x) left

  -- no task is left
  pub none_left : (i to x : ℕ) → to ≤ i → passed (tasks_from periods i (to - i)) x ≡ x
  unfolding tasks_from passed
  none_left i to x past = let none : to - i ≡ 0 = omega arith in rw none
