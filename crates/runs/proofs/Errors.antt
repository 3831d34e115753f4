-- Each of document 01's four errors that come easily is seen by a job of a small run, by computation. Assumes nothing.
use Prim.Native.Nat.{ℕ}
use mathlib.Core.Path.{◌≡◌, ap}
use mathlib.Core.List.{[], ◌∷◌}
use mathlib.Core.Logic.{◌≢◌}
use native.Mathlib.Omega.{arith}
use Rattle.copies.specs.Plans.{listed_plan, full_plan}
use Rattle.runs.specs.Runs.{values_read}
use Rattle.runs.specs.Errors.{reading_by_floor, served_by_floor, published_for_one}
use Rattle.runs.specs.Errors.{state_after_reading_first, values_reading_first, without_instant0}
use Rattle.runs.specs.Controls.{pair, two_readers, tell, value_of}
use Rattle.runs.proofs.Controls.{computes}

-- the definitions that these runs compute by
of_errors : Unit {0}
unfolding computes reading_by_floor served_by_floor published_for_one state_after_reading_first values_reading_first
    without_instant0
of_errors = tt

-- "Taking the reading point by floor": at tick 6 task 1 reads 0, and not the 5 published at tick 5
pub reading_by_floor_is_seen :
    values_read (served_by_floor (pair 5 2)) (λ l. 0) (tell (1 ∷ [])) 7
    ≢ values_read (full_plan (pair 5 2)) (λ l. 0) (tell (1 ∷ [])) 7
unfolding of_errors
reading_by_floor_is_seen same = let z : ◌≡◌ {A = ℕ} 0 5 = ap (value_of 6) same in omega arith

-- "Publishing for one reader only": at tick 6 task 2 reads 4, and not 6, which is published at tick 6 for it alone
pub publishing_for_one_is_seen :
    values_read (published_for_one 1 two_readers) (λ l. 0) (tell (1 ∷ 2 ∷ [])) 7
    ≢ values_read (full_plan two_readers) (λ l. 0) (tell (1 ∷ 2 ∷ [])) 7
unfolding of_errors
publishing_for_one_is_seen same = let z : ◌≡◌ {A = ℕ} 4 6 = ap (value_of 13) same in omega arith

-- "Reading before writing": at tick 10 task 1 reads 4, and not the 10 published at the same tick
pub reading_first_is_seen :
    values_reading_first (listed_plan (pair 2 5)) (λ l. 0) (tell (1 ∷ [])) 11
    ≢ values_read (full_plan (pair 2 5)) (λ l. 0) (tell (1 ∷ [])) 11
unfolding of_errors
reading_first_is_seen same = let z : ◌≡◌ {A = ℕ} 4 10 = ap (value_of 10) same in omega arith

-- the same, with every copy made at every release: at tick 10 it reads 8
pub reading_first_is_seen_in_full :
    values_reading_first (full_plan (pair 2 5)) (λ l. 0) (tell (1 ∷ [])) 11
    ≢ values_read (full_plan (pair 2 5)) (λ l. 0) (tell (1 ∷ [])) 11
unfolding of_errors
reading_first_is_seen_in_full same = let z : ◌≡◌ {A = ℕ} 8 10 = ap (value_of 10) same in omega arith

-- "Leaving instant 0 out": at tick 10, instant 0 of the second round, task 1 reads 4, and not 10
pub leaving_instant_0_out_is_seen :
    values_read (without_instant0 (pair 2 5)) (λ l. 0) (tell (1 ∷ [])) 11
    ≢ values_read (full_plan (pair 2 5)) (λ l. 0) (tell (1 ∷ [])) 11
unfolding of_errors
leaving_instant_0_out_is_seen same = let z : ◌≡◌ {A = ℕ} 4 10 = ap (value_of 10) same in omega arith
