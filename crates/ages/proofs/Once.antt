-- No basic path is counted twice: the starts that are counted rise. So the number of paths is that of the basic paths of
-- the chain's own round. Assumes nothing.
use Prim.Native.Nat.{ℕ, zero, suc, ◌/◌, ◌<◌}
use mathlib.Core.Bool.{Bool, true, false}
use mathlib.Core.List.{List, [], ◌∷◌, ◌++◌, append-nil}
use native.Mathlib.Nat.{le_of_suc-le-suc}
use native.Mathlib.Decide.{le_ind}
use native.Mathlib.Omega.{arith}
use lib.ListN.{length, get_or}
use Rattle.lists.specs.Lists.{each_below, only_if}
use Rattle.lists.proofs.All.{All, all_within, all_each_below, all_only_if}
use Rattle.times.specs.Releases.{Timing, release}
use Rattle.times.proofs.ReleaseNumbers.{release_next}
use Rattle.ages.specs.Ages.{Chain, first_period, is_basic, round_of, basic_paths}
use Rattle.ages.proofs.Rising.{HasPeriod, Timed}

-- each entry is below all later ones
abbrev Ascending : List ℕ → Type 0
Ascending [] = Unit {0}
Ascending (x ∷ xs) = All (λ y. x < y) xs × Ascending xs

ascending_more : (xs : List ℕ) (y : ℕ) → Ascending xs → All (λ x. x < y) xs → Ascending (xs ++ y ∷ [])
ascending_more [] y rises below = (tt, tt)
ascending_more (x ∷ xs) y rises below =
    (above xs rises.0, ascending_more xs y rises.1 below.1)
  where
    above : (xs : List ℕ) → All (λ z. x < z) xs → All (λ z. x < z) (xs ++ y ∷ [])
    above [] all = (below.0, tt)
    above (z ∷ zs) all = (all.0, above zs all.1)

ascending_at : (xs : List ℕ) → Ascending xs → (i j : ℕ) → i < j → j < length xs → get_or xs i 0 < get_or xs j 0
ascending_at [] rises i j less inside = absurd (omega arith)
ascending_at (x ∷ xs) rises i zero less inside = absurd (omega arith)
ascending_at (x ∷ xs) rises zero (suc j) less inside =
    all_within (λ y. x < y) xs 0 rises.0 j (le_of_suc-le-suc inside)
ascending_at (x ∷ xs) rises (suc i) (suc j) less inside =
    ascending_at xs rises.1 i j (le_of_suc-le-suc less) (le_of_suc-le-suc inside)

-- a later release is later
release_rises : (task : Timing) → HasPeriod task → (k n : ℕ) → k < n → release task k < release task n
release_rises task positive k zero less = absurd (omega arith)
release_rises task positive k (suc n) less =
    le_ind (λ n. release task k < release task n)
    (omega (arith, release_next task k))
    (λ n late before. omega (arith, release_next task n))
    (suc n) less

-- the starts of the first releases of a task that pass a test
module _ (task : Timing) (positive : HasPeriod task) (test : ℕ → Bool) where
  abbrev starts : ℕ → List ℕ
  starts n = each_below n (λ k. only_if (test (release task k)) (release task k))

  starts_before : (n : ℕ) → All (λ t. t < release task n) (starts n)
  starts_before n =
      all_each_below (λ t. t < release task n) n _
      (λ k below. all_only_if (λ t. t < release task n) (test (release task k)) _
      (λ passes. release_rises task positive k n below))

  starts_ascend : (n : ℕ) → Ascending (starts n)
  unfolding each_below
  starts_ascend zero = tt
  starts_ascend (suc n) = go (test (release task n)) (starts_ascend n)
    where
      go : (passes : Bool) → Ascending (starts n) → Ascending (starts n ++ only_if passes (release task n))
      go true rises = ascending_more (starts n) (release task n) rises (starts_before n)
      go false rises = rw (append-nil (starts n)) rises

-- the starts that are counted rise
pub starts_rise : (chain : Chain) → Timed chain → (i j : ℕ) → i < j → j < length (basic_paths chain)
    → get_or (basic_paths chain) i 0 < get_or (basic_paths chain) j 0
unfolding basic_paths
starts_rise chain timed i j less inside =
    ascending_at (basic_paths chain)
    (starts_ascend chain.first timed.first_timed (is_basic chain) (round_of chain / first_period chain)) i j less inside
