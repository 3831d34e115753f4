-- The labels of the counters that are due at a tick are those that are due by their masks. Assumes nothing.
use Prim.Native.Nat.{ℕ, ◌<◌}
use mathlib.Core.Path.{◌≡◌, refl, sym, ap, ap₂, ◌∙◌}
use mathlib.Core.Bool.{Bool, true, false, cond, ◌&&◌, ◌||◌, or-false, or_assoc, and_assoc, and-false}
use mathlib.Core.List.{List, [], ◌∷◌}
use native.Mathlib.Nat.{mod-lt}
use borrow.Author.Tests.{lt-ltb, ltb-true, eq-eqb, eqb-true}
use lib.Bits.{bit_or}
use lib.Dec.{eqb, ltb, lit<}
use lib.ListN.{get_or, replicate, length-replicate}
use Rattle.lists.specs.Lists.{some_of}
use Rattle.lists.proofs.All.{all_each}
use Rattle.lists.proofs.Bools.{same_test}
use Rattle.lists.proofs.Lists.{some_below_same}
use Rattle.lists.proofs.SomeOf.{some_same, some_and}
use Rattle.lists.proofs.SomeTold.{some_told}
use Rattle.masks.specs.Masks.{holds}
use Rattle.masks.proofs.Bitwise.{and_holds, or_holds, zero_holds}
use Rattle.table.specs.Table.{marks}
use Rattle.instants.specs.Due.{writer_due, is_due, HoldsDue}
use Rattle.instants.proofs.NothingDue.{unmarked}
use Rattle.label_masks.specs.LabelMasks.{WrittenLabels, ReadLabels}
use Rattle.gathering.specs.Counters.{tick_in, writer_in, reader_in}
use Rattle.counters.specs.Advanced.{common_labels, with_labels, folded, masks_due, labels_due}
use Rattle.counting.proofs.Marks.{due_for, due_marks}

-- the labels of the counters that are due
module _ (t : ℕ) (written read : List ℕ) (l : ℕ) where
  abbrev has : ℕ → Bool
  has counter = eqb (tick_in counter) t && holds 64 (common_labels written read counter) l

  with_one_lem : (labels counter : ℕ)
      → holds 64 (with_labels t written read labels counter) l ≡ (holds 64 labels l || has counter)
  unfolding with_labels
  with_one_lem labels counter = go (eqb (tick_in counter) t)
    where
      go : (b : Bool) → holds 64 (cond b (bit_or labels (common_labels written read counter)) labels) l
          ≡ (holds 64 labels l || (b && holds 64 (common_labels written read counter) l))
      go true = or_holds 64 labels (common_labels written read counter) l
      go false = sym (or-false _)

  pub labels_hold : (labels : ℕ) (counters : List ℕ)
      → holds 64 (folded (with_labels t written read) labels counters) l ≡ (holds 64 labels l || some_of has counters)
  unfolding folded some_of
  labels_hold labels [] = sym (or-false _)
  labels_hold labels (counter ∷ counters) =
      labels_hold (with_labels t written read labels counter) counters
      ∙ ap (λ b. b || some_of has counters) (with_one_lem labels counter)
      ∙ or_assoc (holds 64 labels l) (has counter) (some_of has counters)

-- the order of tests, and of what is compared
turned : (point there writes same marked : Bool) → writes ≡ same
    → (point && (there && (writes && marked))) ≡ (there && ((point && same) && marked))
turned true there writes same marked is = rw is
turned false true writes same marked is = refl
turned false false writes same marked is = refl

eqb_comm : (a b : ℕ) → eqb a b ≡ eqb b a
eqb_comm a b = same_test _ _ (λ same. eq-eqb b a (sym (eqb-true a b same))) (λ same. eq-eqb a b (sym (eqb-true b a same)))

-- by the labels that each task writes and reads; who reads a label is a task
module _ (labels tasks : ℕ) (writer readers written read : List ℕ) (of_writers : WrittenLabels labels writer written)
    (of_readers : ReadLabels labels tasks readers read)
    (known : (l r : ℕ) → l < labels → marks (get_or readers l 0) r ≡ true → r < tasks)
  where
    -- the labels of one counter
    pub common_holds : (counter l : ℕ) → l < 64 → holds 64 (common_labels written read counter) l
        ≡ (ltb l labels && (eqb (writer_due writer l) (writer_in counter) && marks (get_or readers l 0) (reader_in counter)))
    unfolding common_labels
    common_holds counter l few =
        and_holds 64 (get_or written (writer_in counter) 0) (get_or read (reader_in counter) 0) l
        ∙ ap₂ ◌&&◌ (of_writers.has (writer_in counter) l (mod-lt _ (lit< tt)) few)
        (of_readers.has (reader_in counter) l (mod-lt _ (lit< tt)) few)
        ∙ arranged (ltb l labels) refl (eqb (writer_due writer l) (writer_in counter)) (marks (get_or readers l 0) (reader_in counter)) refl
      where
        arranged : (there : Bool) → ltb l labels ≡ there → (writes marked : Bool)
            → marks (get_or readers l 0) (reader_in counter) ≡ marked
            → ((there && writes) && (ltb (reader_in counter) tasks && (there && marked)))
            ≡ (there && (writes && marked))
        arranged false past writes marked is = refl
        arranged true inside false marked is = refl
        arranged true inside true true is =
            rw (lt-ltb (reader_in counter) tasks (known l (reader_in counter) (ltb-true l labels inside) is))
        arranged true inside true false is = and-false (ltb (reader_in counter) tasks)

    module _ (t : ℕ) (counters : List ℕ) where
      -- a counter is due for a label
      abbrev one_due : (l counter : ℕ) → Bool
      one_due l counter = (eqb (tick_in counter) t && eqb (writer_in counter) (writer_due writer l))
          && marks (get_or readers l 0) (reader_in counter)

      -- and tells its reader
      abbrev told : (l r counter : ℕ) → Bool
      told l r counter = (eqb (tick_in counter) t && eqb (writer_in counter) (writer_due writer l)) && eqb r (reader_in counter)

      by_one : (l r : ℕ) → marks (get_or (masks_due t counters) (writer_due writer l) 0) r ≡ some_of (told l r) counters
      unfolding writer_due
      by_one l r =
          due_marks t (writer_due writer l) r (replicate 32 0) counters (length-replicate {A = ℕ} 32 0)
          ∙ ap (λ b. b || some_of (due_for t (writer_due writer l) r) counters)
          (unmarked (writer_due writer l) r (mod-lt _ (lit< tt)))
          ∙ some_same (due_for t (writer_due writer l) r) (told l r) counters
          (all_each counters (λ counter.
          sym (and_assoc (eqb (tick_in counter) t) (eqb (writer_in counter) (writer_due writer l)) (eqb r (reader_in counter)))))

      -- a reader of a label is marked for its writer by some counter
      by_counters : (l : ℕ) → is_due writer readers (masks_due t counters) l ≡ some_of (one_due l) counters
      unfolding is_due writer_due
      by_counters l =
          some_below_same 32 _ (λ r. marks (get_or readers l 0) r && some_of (told l r) counters) (λ r below.
          ap (λ b. marks (get_or readers l 0) r && b) (by_one l r))
          ∙ some_told 32 (marks (get_or readers l 0))
          (λ counter. eqb (tick_in counter) t && eqb (writer_in counter) (writer_due writer l))
          reader_in (λ counter. mod-lt counter (lit< tt)) counters

      -- the labels of the counters that are due are those that are due by their masks
      pub holds_due : HoldsDue labels writer readers (masks_due t counters) (labels_due t written read counters)
      unfolding holds
      holds_due l few =
          labels_hold t written read l 0 counters
          ∙ ap (λ b. b || some_of (has t written read l) counters) (zero_holds 64 l)
          ∙ some_same (has t written read l) (λ counter. ltb l labels && one_due l counter) counters
          (all_each counters (λ counter.
          ap (λ b. eqb (tick_in counter) t && b) (common_holds counter l few)
          ∙ turned (eqb (tick_in counter) t) (ltb l labels) (eqb (writer_due writer l) (writer_in counter))
          (eqb (writer_in counter) (writer_due writer l)) (marks (get_or readers l 0) (reader_in counter))
          (eqb_comm (writer_due writer l) (writer_in counter))))
          ∙ some_and (one_due l) (ltb l labels) counters
          ∙ ap (λ b. ltb l labels && b) (sym (by_counters l))
