-- The next reader: it is marked and at or after where the search began, and none between is marked. Assumes nothing.
use Prim.Native.Nat.{ℕ, ◌<◌, ◌≤◌}
use mathlib.Core.Path.{◌≡◌}
use mathlib.Core.Logic.{by_cases}
use mathlib.Core.Bool.{Bool, true, false, ◌&&◌}
use native.Mathlib.Decide.{dec_lt}
use native.Mathlib.Omega.{arith}
use lib.Dec.{leb}
use borrow.Author.Tests.{leb-true, le-leb, lt-leb}
use Rattle.lists.proofs.Bools.{and_parts}
use Rattle.table.specs.Table.{marks}
use Rattle.readers.specs.NextReader.{next_reader}
use Rattle.readers.proofs.First.{First, first_found, first_only}

-- no task from one up to another is marked
abbrev pub Unmarked : (readers from to : ℕ) → Type 0
Unmarked readers from to = (j : ℕ) → from ≤ j → j < to → marks readers j ≡ false

module _ (readers from : ℕ) where
  -- a task at or after where the search began that is marked
  abbrev next_test : ℕ → Bool
  next_test r = leb from r && marks readers r

  found : First 32 next_test (next_reader readers from)
  unfolding next_reader
  found = first_found 32 next_test

  pub next_within : next_reader readers from ≤ 32
  next_within = found.within

  -- it is at or after, and it is marked
  pub next_from : from ≤ 32 → from ≤ next_reader readers from
  next_from few =
      by_cases (dec_lt (next_reader readers from) 32)
      (λ below. leb-true _ _ (and_parts _ _ (found.passes below)).0) (λ none. omega arith)

  pub next_marked : next_reader readers from < 32 → marks readers (next_reader readers from) ≡ true
  next_marked below = (and_parts (leb from _) _ (found.passes below)).1

  -- none between is marked
  pub none_between : Unmarked readers from (next_reader readers from)
  none_between j late less = rw (le-leb from j late) at (found.before j less)

  passed_over : {r : ℕ} → Unmarked readers from r → (j : ℕ) → j < r → next_test j ≡ false
  passed_over none j less =
      by_cases (dec_lt j from) (λ early. rw (lt-leb from j early))
      (λ late. rw (le-leb from j (omega arith)) (none j (omega arith) less))

  -- where no task is left, it is 32
  pub no_next : Unmarked readers from 32 → 32 ≡ next_reader readers from
  unfolding next_reader
  no_next none =
      first_only (record { within = omega arith; before = passed_over none; passes = λ less. absurd (omega arith) })
