-- The labels of the reading counters that are due at a tick, counted pair by pair, are as many as the reads of the instant.
-- Assumes nothing.
use Prim.Native.Nat.{ℕ, ◌+◌, ◌^◌, ◌<◌}
use mathlib.Core.Path.{◌≡◌, refl, sym, ap, ◌∙◌}
use mathlib.Core.Bool.{Bool, true, false, cond, ◌&&◌}
use mathlib.Core.List.{List, [], ◌∷◌, map}
use native.Mathlib.Nat.{add-zero}
use native.Mathlib.Omega.{arith}
use lib.Count.{ones}
use lib.Dec.{eqb}
use lib.ListN.{length, get_or, length-append}
use Rattle.lists.specs.Lists.{each_below, each_of, only_if}
use Rattle.lists.proofs.Below.{each_below_same}
use Rattle.lists.proofs.Sums.{length_below_same, length_swap, each_of_below, each_of_only, each_of_map}
use Rattle.lists.proofs.Sums.{each_of_each, cond_below, cond_only}
use Rattle.masks.specs.Masks.{holds, each_held}
use Rattle.masks.proofs.Counted.{count_held}
use Rattle.table.specs.Table.{marks}
use Rattle.gathering.specs.Pairs.{code_of, pair_counted, tasks_in, pairs_with, pairs_of}
use Rattle.gathering.specs.Counters.{tick_in}
use Rattle.counters.specs.Advanced.{common_labels, with_count, folded}
use Rattle.counting.proofs.OfTable.{on_core}

-- the labels of the counters that are due
module _ (t : ℕ) (written read : List ℕ) (few : (counter : ℕ) → common_labels written read counter < 2 ^ 64) where
  abbrev pub due_labels : ℕ → List ℕ
  due_labels counter = cond (eqb (tick_in counter) t) (each_held 64 (common_labels written read counter) (λ l. l ∷ [])) []

  one_counted : (n counter : ℕ) → with_count t written read n counter ≡ n + length (due_labels counter)
  unfolding with_count
  one_counted n counter = go (eqb (tick_in counter) t)
    where
      go : (b : Bool) → cond b (n + ones (common_labels written read counter)) n
          ≡ n + length (cond b (each_held 64 (common_labels written read counter) (λ l. l ∷ [])) [])
      go true = ap (λ k. n + k) (sym (count_held (λ l. l) 64 (common_labels written read counter) (few counter)))
      go false = sym (add-zero n)

  pub all_counted : (n : ℕ) (counters : List ℕ)
      → folded (with_count t written read) n counters ≡ n + length (each_of counters due_labels)
  unfolding folded each_of
  all_counted n [] = sym (add-zero n)
  all_counted n (counter ∷ counters) =
      let rest = all_counted (with_count t written read n counter) counters in
      let one = one_counted n counter in
      omega (arith, rest, one, length-append (due_labels counter) (each_of counters due_labels))

-- tests one after the other
three : {A : Type 0} (a b c : Bool) (xs : List A) → cond a (cond b (cond c xs []) []) [] ≡ cond ((a && b) && c) xs []
three true true c xs = refl
three true false c xs = refl
three false b c xs = refl

-- over the pairs that a core counts, by label, writer and reader
module _ (kind : Bool) (core : ℕ) (cores joined : List ℕ) (from : ℕ → ℕ) (due : ℕ → Bool) (common : ℕ → ℕ) where
  abbrev pub listed_due : (w r : ℕ) → Bool
  listed_due w r = (marks (get_or joined w 0) r && on_core kind core cores joined w r) && due (from (code_of w r))

  abbrev pub pair_test : (l w r : ℕ) → Bool
  pair_test l w r = listed_due w r && holds 64 (common (from (code_of w r))) l

  abbrev labels_of : ℕ → List ℕ
  labels_of counter = cond (due counter) (each_held 64 (common counter) (λ l. l ∷ [])) []

  one_pair : (w r : ℕ)
      → cond (marks (get_or joined w 0) r) (each_of (pair_counted kind core cores w r) (λ pair. labels_of (from pair))) []
      ≡ each_below 64 (λ l. only_if (pair_test l w r) l)
  unfolding pair_counted each_held
  one_pair w r =
      ap (λ xs. cond (marks (get_or joined w 0) r) xs [])
      (each_of_only (on_core kind core cores joined w r) (code_of w r) (λ pair. labels_of (from pair)))
      ∙ three (marks (get_or joined w 0) r) (on_core kind core cores joined w r) (due (from (code_of w r))) _
      ∙ cond_below (listed_due w r) 64 _
      ∙ each_below_same 64 _ _ (λ l below. cond_only (listed_due w r) (holds 64 (common (from (code_of w r))) l) l)

  by_pairs : each_of (map from (pairs_of kind core cores joined)) labels_of
      ≡ each_below 32 (λ w. each_below 32 (λ r. each_below 64 (λ l. only_if (pair_test l w r) l)))
  unfolding pairs_of pairs_with tasks_in
  by_pairs =
      each_of_map from (pairs_of kind core cores joined) labels_of
      ∙ each_of_below 32 _ (λ pair. labels_of (from pair))
      ∙ each_below_same 32 _ _ (λ w known.
      each_of_each (tasks_in (get_or joined w 0)) (pair_counted kind core cores w) (λ pair. labels_of (from pair))
      ∙ each_of_below 32 _ _
      ∙ each_below_same 32 _ _ (λ r there.
      each_of_only (marks (get_or joined w 0) r) r _ ∙ one_pair w r))

  -- label by label
  pub by_labels : length (each_of (map from (pairs_of kind core cores joined)) labels_of)
      ≡ length (each_below 64 (λ l. each_below 32 (λ w. each_below 32 (λ r. only_if (pair_test l w r) l))))
  by_labels =
      ap length by_pairs
      ∙ length_below_same 32 _ _ (λ w known. length_swap 32 64 (λ r l. only_if (pair_test l w r) l))
      ∙ length_swap 32 64 (λ w l. each_below 32 (λ r. only_if (pair_test l w r) l))
