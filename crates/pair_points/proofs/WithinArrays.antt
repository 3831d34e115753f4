-- The search for a label that goes from one task to another ends with the arrays: past them no label has a reader. No
-- contract cites this file. Assumes nothing.
use Prim.Native.Nat.{ℕ, ◌≤◌, ◌<◌, min}
use mathlib.Core.Bool.{true}
use mathlib.Core.Logic.{by_cases}
use mathlib.Core.Path.{◌≡◌, subst}
use mathlib.Core.List.{List}
use native.Mathlib.Decide.{dec_lt}
use native.Mathlib.Omega.{arith}
use lib.Dec.{eqb}
use lib.ListN.{length, get_or, get_or-eq_default}
use Rattle.lists.specs.Lists.{some_below}
use Rattle.lists.proofs.Bools.{and_parts, same_test}
use Rattle.lists.proofs.Lists.{some_below_finds, some_below_found}
use Rattle.table.specs.Table.{marks}
use Rattle.table.proofs.Sound.{none_marked}
use Rattle.pair_points.specs.Parts.{goes_from}

module _ (writer readers : List ℕ) (w r : ℕ) (whole : length readers ≡ 64) where
  within_arrays : (l : ℕ) → goes_from writer readers w r l ≡ true → l < 64
  within_arrays l goes =
      by_cases (dec_lt l 64) (λ inside. inside)
      (λ past.
      let outside : length readers ≤ l = omega arith in
      let marked = (and_parts (eqb (get_or writer l 0) w) _ goes).1 in
      absurd (none_marked r (subst (λ field. marks field r ≡ true) (get_or-eq_default readers 0 outside) marked)))

  pub joined_within_arrays : (labels : ℕ)
      → some_below (min labels 64) (goes_from writer readers w r) ≡ some_below labels (goes_from writer readers w r)
  joined_within_arrays labels =
      same_test _ _
      (λ found.
      let (l, inside, goes) = some_below_finds _ _ found in
      some_below_found labels _ l (omega arith) goes)
      (λ found.
      let (l, inside, goes) = some_below_finds _ _ found in
      let near = within_arrays l goes in
      some_below_found (min labels 64) _ l (omega arith) goes)
