-- The tasks that a readers field marks, one after the other: the first and the others; and what each of them has to add.
-- No contract cites this file. Assumes nothing.
use Prim.Native.Nat.{ℕ, zero, suc, ◌+◌, ◌<◌, ◌≤◌}
use mathlib.Core.Path.{◌≡◌, refl, sym, ap, ap₂, ◌∙◌}
use mathlib.Core.Logic.{by_cases}
use mathlib.Core.Bool.{Bool, true, false, cond, ◌&&◌}
use mathlib.Core.List.{List, [], ◌∷◌, ◌++◌, append-nil}
use native.Mathlib.Decide.{le_ind, dec_lt}
use native.Mathlib.Omega.{arith}
use borrow.Author.Tests.{le-leb, lt-leb}
use lib.Dec.{leb, eqb}
use Rattle.std.specs.Prelude.{None}
use Rattle.std.specs.Iterator.{Yields}
use Rattle.lists.specs.Lists.{some_of, each_below, each_of, only_if}
use Rattle.lists.proofs.Below.{each_below_same, each_below_less}
use Rattle.lists.proofs.Each.{each_of_append}
use Rattle.lists.proofs.Lists.{some_below_same}
use Rattle.lists.proofs.SomeOf.{some_each_below, some_only_if}
use Rattle.lists.proofs.SomeTold.{some_below_at}
use Rattle.masks.specs.Rising.{GivesBelow}
use Rattle.masks.proofs.Rising.{all_met}
use Rattle.table.specs.Table.{marks}
use Rattle.readers.specs.NextReader.{next_reader, readers_in, readers_from}
use Rattle.readers.proofs.Walk.{next_from, next_marked, none_between}

-- of the numbers below a bound the first that adds something, and the others
first_and_others : {A : Type 0} (first : ℕ) (x : A) (adds others : ℕ → List A)
    → ((k : ℕ) → k < first → adds k ≡ []) → adds first ≡ x ∷ []
    → ((k : ℕ) → k ≤ first → others k ≡ []) → ((k : ℕ) → first < k → others k ≡ adds k)
    → (n : ℕ) → suc first ≤ n → each_below n adds ≡ x ∷ each_below n others
unfolding each_below
first_and_others first x adds others none here passed same n =
    le_ind (λ n. each_below n adds ≡ x ∷ each_below n others)
    (cc (
      each_below_less 0 first adds (omega arith) (λ k after below. none k below),
      each_below_less 0 first others (omega arith) (λ k after below. passed k (omega arith)),
      here,
      passed first (omega arith),
    ))
    (λ n late before. ap₂ ◌++◌ before (sym (same n (omega arith)))) n

-- all tasks are at or after task 0
pub from_first : (readers : ℕ) → readers_from readers 0 ≡ readers_in readers
unfolding readers_from readers_in
from_first readers =
    each_below_same 32 _ _ (λ r below. ap (λ b. only_if (b && marks readers r) r) (le-leb 0 r (omega arith)))

module _ (readers from : ℕ) (few : from ≤ 32) where
  early : (r : ℕ) → r < from → only_if (leb from r && marks readers r) r ≡ []
  early r less = rw (lt-leb from r less)

  late : (r : ℕ) → from ≤ r → only_if (leb from r && marks readers r) r ≡ only_if (marks readers r) r
  late r after = rw (le-leb from r after)

  not_yet : (r : ℕ) → r < next_reader readers from → only_if (leb from r && marks readers r) r ≡ []
  not_yet r less =
      by_cases (dec_lt r from) (early r)
      (λ after. rw (none_between readers from r (omega arith) less) (rw (le-leb from r (omega arith))))

  -- no reader is left
  pub readers_none : next_reader readers from ≡ 32 → readers_from readers from ≡ []
  unfolding readers_from each_below
  readers_none end =
      each_below_less 0 32 _ (omega arith) (λ r after below. not_yet r (rw end below))

-- the first reader that is left, and those after it
pub readers_first : (readers from : ℕ) {first : ℕ} → from ≤ 32 → first ≡ next_reader readers from → first < 32
    → readers_from readers from ≡ first ∷ readers_from readers (first + 1)
unfolding readers_from
readers_first readers from {first} few is below =
    let next : from ≤ first = rw is (next_from readers from few) in
    let marked : marks readers first ≡ true = rw is (next_marked readers from (rw (← is) below)) in
    first_and_others first first _ _
    (λ r less. not_yet readers from few r (rw (← is) less))
    (late readers from few first next ∙ rw marked)
    (λ r less. early readers (first + 1) (omega arith) r (omega arith))
    (λ r more. late readers (first + 1) (omega arith) r (omega arith) ∙ sym (late readers from few r (omega arith)))
    32 (omega arith)

-- what each reader has to add, one after the other
module _ {A : Type 0} (adds : ℕ → List A) where
  of_one : (test : Bool) (r : ℕ) → each_of (only_if test r) adds ≡ cond test (adds r) []
  unfolding each_of
  of_one true r = append-nil (adds r)
  of_one false r = refl

  of_some : (test : ℕ → Bool) (n : ℕ) → each_of (each_below n (λ r. only_if (test r) r)) adds
      ≡ each_below n (λ r. cond (test r) (adds r) [])
  unfolding each_of each_below
  of_some test zero = refl
  of_some test (suc n) =
      each_of_append adds (each_below n (λ r. only_if (test r) r)) _ ∙ ap₂ ◌++◌ (of_some test n) (of_one (test n) n)

  pub each_reader : (readers : ℕ) → each_of (readers_in readers) adds
      ≡ each_below 32 (λ r. cond (marks readers r) (adds r) [])
  unfolding readers_in
  each_reader readers = of_some (marks readers) 32

  -- a loop over the readers of a field has met them all when it ends
  pub readers_done : (readers : ℕ) {all after : List ℕ} (met left : List ℕ) → all ≡ readers_in readers
      → Yields (GivesBelow 32) all met left → GivesBelow 32 left None after
      → each_of met adds ≡ each_below 32 (λ r. cond (marks readers r) (adds r) [])
  readers_done readers met left whole yielded end =
      ap (λ l. each_of l adds) (sym (all_met 32 met left yielded end) ∙ whole) ∙ each_reader readers

-- whether a task is among those that a loop has met: once it has met all, whether it is marked
pub among_readers : (readers : ℕ) {all after : List ℕ} (met left : List ℕ) → all ≡ readers_in readers
    → Yields (GivesBelow 32) all met left → GivesBelow 32 left None after
    → (r : ℕ) → r < 32 → some_of (λ x. eqb x r) met ≡ marks readers r
unfolding readers_in
among_readers readers met left whole yielded end r known =
    ap (some_of (λ x. eqb x r)) (sym (all_met 32 met left yielded end) ∙ whole)
    ∙ some_each_below (λ x. eqb x r) 32 (λ x. only_if (marks readers x) x)
    ∙ some_below_same 32 _ _ (λ x below. some_only_if (λ x. eqb x r) (marks readers x) x)
    ∙ some_below_at 32 r (marks readers) known
