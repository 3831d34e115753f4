-- Of masks that mark nothing no copy is due. Assumes nothing.
use Prim.Native.Nat.{ℕ, ◌<◌, min}
use mathlib.Core.Path.{◌≡◌, ap₂}
use mathlib.Core.Bool.{false, and-false}
use mathlib.Core.List.{List, [], ◌++◌}
use native.Mathlib.Nat.{mod-lt}
use native.Mathlib.Omega.{arith}
use lib.Dec.{lit<}
use lib.ListN.{get_or, replicate, get_or-replicate}
use Rattle.lists.specs.Lists.{each_below}
use Rattle.lists.proofs.Bools.{false_unless_true}
use Rattle.lists.proofs.Below.{each_below_less}
use Rattle.lists.proofs.Lists.{some_below_nothing}
use Rattle.table.specs.Table.{marks}
use Rattle.table.proofs.Sound.{none_marked}
use Rattle.instants.specs.Due.{in_both, write_due, reads_due, writer_due, writes_due, all_reads_due, copies_due}

-- 32 masks that mark nothing
pub unmarked : (w r : ℕ) → w < 32 → marks (get_or (replicate 32 0) w 0) r ≡ false
unmarked w r known = rw (get_or-replicate {A = ℕ} 32 w 0 0 known) (false_unless_true (marks 0 r) (none_marked r))

-- what adds nothing for any number
none_each : {A : Type 0} (n : ℕ) (adds : ℕ → List A) → ((k : ℕ) → adds k ≡ []) → each_below n adds ≡ []
unfolding each_below
none_each n adds none = each_below_less 0 n adds (omega arith) (λ k late below. none k)

module _ (writer readers : List ℕ) where
  in_neither : (l r : ℕ) → in_both (get_or readers l 0) (get_or (replicate 32 0) (writer_due writer l) 0) r ≡ false
  unfolding writer_due
  in_neither l r = rw (unmarked (writer_due writer l) r (mod-lt _ (lit< tt))) (and-false (marks (get_or readers l 0) r))

  pub nothing_due : (labels : ℕ) → copies_due labels writer readers (replicate 32 0) (replicate 32 0) ≡ []
  unfolding copies_due writes_due all_reads_due write_due reads_due
  nothing_due labels =
      ap₂ ◌++◌
      (none_each (min labels 64) _ (λ l. rw (some_below_nothing 32 _ (λ r known. in_neither l r))))
      (none_each (min labels 64) _ (λ l. none_each 32 _ (λ r. rw (in_neither l r))))
