-- The end of a start: it is no earlier than its start, and never falls when the start grows. Document 01, Age of a
-- chain. Assumes nothing.
use Prim.Native.Nat.{ℕ, suc, ◌<◌, ◌≤◌}
use mathlib.Core.List.{List, [], ◌∷◌}
use native.Mathlib.Nat.{le_refl, le_trans, zero-lt-suc, suc-le-suc_iff}
use lib.ListN.{length, get_or}
use Rattle.lists.proofs.All.{All}
use Rattle.times.specs.Releases.{Timing, job_end, first_from}
use Rattle.times.proofs.Releases.{first_from_at_least}
use Rattle.times.proofs.ReleasesRise.{first_from_rises, job_end_rises, job_end_at_least}
use Rattle.ages.specs.Ages.{Chain, follow, end_of}

-- the task has a period above 0, as every task of a table has
abbrev pub HasPeriod : Timing → Type 0
HasPeriod task = 0 < task.period

-- every task of the chain has
pub record Timed (chain : Chain) : Type 0 where
  pub first_timed : HasPeriod chain.first
  pub others_timed : All HasPeriod chain.others

-- what each entry of a list has, taken by its number
pub all_by_number : {A : Type 0} (P : A → Type 0) (d : A) (xs : List A)
    → ((i : ℕ) → i < length xs → P (get_or xs i d)) → All P xs
all_by_number P d [] each = tt
all_by_number P d (x ∷ xs) each =
    (each 0 (zero-lt-suc _), all_by_number P d xs (λ i inside. each (suc i) (suc-le-suc_iff.1 inside)))

pub follow_rises : (tasks : List Timing) → All HasPeriod tasks
    → (s t : ℕ) → s ≤ t → follow tasks s ≤ follow tasks t
unfolding follow
follow_rises [] timed s t le = le
follow_rises (last ∷ []) timed s t le = first_from_rises last timed.0 s t le
follow_rises (middle ∷ next ∷ more) timed s t le =
    follow_rises (next ∷ more) timed.1 _ _
    (job_end_rises middle _ _ (first_from_rises middle timed.0 s t le))

pub follow_at_least : (tasks : List Timing) → All HasPeriod tasks → (t : ℕ) → t ≤ follow tasks t
unfolding follow
follow_at_least [] timed t = le_refl t
follow_at_least (last ∷ []) timed t = first_from_at_least last timed.0 t
follow_at_least (middle ∷ next ∷ more) timed t =
    let taken = first_from middle t in
    le_trans (first_from_at_least middle timed.0 t)
    (le_trans (job_end_at_least middle taken) (follow_at_least (next ∷ more) timed.1 (job_end middle taken)))

module _ (chain : Chain) (timed : Timed chain) where
  -- the end never falls when the start grows
  pub end_rises : (s t : ℕ) → s ≤ t → end_of chain s ≤ end_of chain t
  unfolding end_of
  end_rises s t le = follow_rises chain.others timed.others_timed s t le

  -- it is no earlier than its start: neither a length nor an age is cut off at 0
  pub end_at_least : (t : ℕ) → t ≤ end_of chain t
  unfolding end_of
  end_at_least t = follow_at_least chain.others timed.others_timed t
