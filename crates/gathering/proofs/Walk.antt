-- The pairs that a core counts, of the first writers. Assumes nothing.
use Prim.Native.Nat.{ℕ, ◌+◌, ◌<◌, ◌≤◌}
use mathlib.Core.Path.{◌≡◌, refl, sym, ap}
use mathlib.Core.Bool.{Bool, false}
use mathlib.Core.List.{List, [], ◌++◌}
use native.Mathlib.Numerals.{add-one}
use native.Mathlib.Omega.{arith}
use lib.ListN.{get_or}
use Rattle.lists.specs.Lists.{each_below, each_of, only_if}
use Rattle.lists.proofs.Below.{each_below_less}
use Rattle.table.specs.Table.{marks}
use Rattle.gathering.specs.Pairs.{pair_counted, tasks_in, pairs_with, pairs_below, pairs_of}

-- a mask that marks nobody
nobody : (mask : ℕ) → ((r : ℕ) → marks mask r ≡ false) → tasks_in mask ≡ []
unfolding tasks_in each_below
nobody mask unmarked =
    each_below_less 0 32 (λ r. only_if (marks mask r) r) (omega arith) (λ r past known. rw (unmarked r))

-- the pairs of the first writers
module _ (reads : Bool) (core : ℕ) (cores joined : List ℕ) where
  pub no_writer : pairs_below reads core cores joined 0 ≡ []
  unfolding each_below
  no_writer = refl

  pub one_writer_more : (w : ℕ)
      → pairs_below reads core cores joined (w + 1)
      ≡ pairs_below reads core cores joined w ++ pairs_with reads core cores w (get_or joined w 0)
  unfolding each_below
  one_writer_more w = rw add-one

  -- no pair has a writer past those that have a reader
  pub all_writers : (writers : ℕ) → writers ≤ 32
      → ((w r : ℕ) → writers ≤ w → w < 32 → marks (get_or joined w 0) r ≡ false)
      → pairs_below reads core cores joined writers ≡ pairs_of reads core cores joined
  unfolding pairs_of pairs_with each_of
  all_writers writers few none =
      sym (each_below_less writers 32 _ few (λ w past known.
      ap (λ tasks. each_of tasks (pair_counted reads core cores w)) (nobody (get_or joined w 0) (λ r. none w r past known))))
