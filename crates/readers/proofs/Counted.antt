-- How many tasks two masks mark in common: as many as their `and` has bits that are 1, and none where it is 0. No contract
-- cites this file. Assumes nothing.
use Prim.Native.Nat.{ℕ, ◌^◌, ◌<◌}
use mathlib.Core.Path.{◌≡◌, sym, ap, ◌∙◌}
use mathlib.Core.Bool.{not, ◌&&◌}
use lib.Dec.{eqb}
use lib.Bits.{bit_and, and_lt}
use lib.Count.{ones}
use lib.ListN.{length}
use Rattle.lists.specs.Lists.{some_below, each_below, only_if}
use Rattle.lists.proofs.Lists.{some_below_same}
use Rattle.lists.proofs.Below.{each_below_same}
use Rattle.masks.specs.Masks.{each_held}
use Rattle.masks.proofs.Counted.{some_held, count_held}
use Rattle.table.specs.Table.{marks}
use Rattle.readers.proofs.Masks.{marks_holds, and_marks}

-- two masks mark a task in common where their `and` is not 0
pub some_common : (a b : ℕ) → a < 2 ^ 32 → b < 2 ^ 32
    → some_below 32 (λ r. marks a r && marks b r) ≡ not (eqb (bit_and a b) 0)
some_common a b few less =
    some_below_same 32 _ _ (λ r below. sym (and_marks a b r) ∙ marks_holds (bit_and a b) r)
    ∙ some_held 32 (bit_and a b) (and_lt 32 a b few less)

-- and as many as it has bits that are 1
pub count_common : {A : Type 0} (f : ℕ → A) (a b : ℕ) → a < 2 ^ 32 → b < 2 ^ 32
    → length (each_below 32 (λ r. only_if (marks a r && marks b r) (f r))) ≡ ones (bit_and a b)
unfolding each_held
count_common f a b few less =
    ap length (each_below_same 32 _ _
    (λ r below. ap (λ m. only_if m (f r)) (sym (and_marks a b r) ∙ marks_holds (bit_and a b) r)))
    ∙ count_held f 32 (bit_and a b) (and_lt 32 a b few less)
