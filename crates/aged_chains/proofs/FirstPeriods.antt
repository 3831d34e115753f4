-- The first of some periods, as the chain of a table: what is asked of them and what the answer is. For the crates above.
-- Assumes nothing.
use Prim.Native.Nat.{ℕ, zero, suc, ◌+◌, ◌-◌, ◌<◌, ◌≤◌}
use mathlib.Core.Path.{◌≡◌, refl, ap₂}
use mathlib.Core.Logic.{by_cases}
use mathlib.Core.List.{List, ◌∷◌}
use native.Mathlib.Decide.{dec_lt}
use native.Mathlib.Omega.{arith}
use lib.ListN.{length, take, length-take}
use lib.Seq.{get_or-take}
use Rattle.std.specs.Prelude.{ltb}
use Rattle.outcomes.specs.Outcome.{gives, refused_unless}
use Rattle.times.specs.Hyperperiod.{lcm_of}
use Rattle.times.specs.Releases.{every}
use Rattle.ages.specs.Ages.{ages_of}
use Rattle.following.specs.Following.{chain_by, tasks_from, RightPeriods}
use Rattle.aged_chains.specs.Parts.{aged_by, RightAsked}

module _ (periods : List ℕ) (count : ℕ) (within : count ≤ length periods) where
  pub length_first : length (take count periods) ≡ count
  length_first = omega (arith, length-take count periods)

  pub asked_first : RightPeriods periods count → (0 < count → 2 ≤ count) → lcm_of (take count periods) ≤ 1000000
      → RightAsked (take count periods)
  asked_first right some short = record {
    right = record {
      few = omega (arith, length_first, right.few);
      each = λ i below.
          let inside : i < count = omega (arith, length_first) in
          rw (get_or-take count periods i 0 inside) (right.each i inside);
    };
    some = λ known. omega (arith, length_first, some (omega (arith, length_first)));
    short = short;
  }

  -- the tasks of the first periods
  tasks_first : (i n : ℕ) → i + n ≤ count → tasks_from (take count periods) i n ≡ tasks_from periods i n
  unfolding tasks_from
  tasks_first i zero few = refl
  tasks_first i (suc n) few =
      ap₂ (λ T l. every T ∷ l) (get_or-take count periods i 0 (omega arith)) (tasks_first (suc i) n (omega arith))

  pub aged_first : refused_unless 12 (ltb 0 count) (gives (ages_of (chain_by periods count))) ≡ aged_by (take count periods)
  aged_first =
      by_cases (dec_lt 0 count)
      (λ some.
      let chain : chain_by (take count periods) count ≡ chain_by periods count =
      rw (get_or-take count periods 0 0 some, tasks_first 1 (count - 1) (omega arith)) refl in
      rw (length_first, chain) refl)
      (λ none.
      let empty : count ≡ 0 = omega arith in
      rw (length_first, empty) refl)
