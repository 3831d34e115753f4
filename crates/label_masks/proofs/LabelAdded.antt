-- The labels that tasks read, with one reader more and one label more. No contract cites this file. Assumes nothing.
use Prim.Native.Nat.{ℕ, ◌+◌, ◌/◌, ◌^◌, ◌<◌, ◌≤◌, min}
use mathlib.Core.Path.{◌≡◌, refl, sym, ap, ap₂, ◌∙◌}
use mathlib.Core.Logic.{by_cases}
use mathlib.Core.Bool.{Bool, true, false, ◌&&◌, ◌||◌, or-false, and-false}
use mathlib.Core.List.{List, [], ◌∷◌, ◌++◌}
use native.Mathlib.Decide.{ℕ_discrete}
use native.Mathlib.Omega.{arith}
use borrow.Author.Tests.{eq-eqb, ne_eqb, lt-ltb, le-ltb}
use lib.Bits.{bit_or}
use lib.Dec.{eqb, ltb}
use lib.ListN.{length, get_or, set, replicate, length-set}
use lib.Seq.{get_or-set_same, get_or-set_other}
use Rattle.lists.specs.Lists.{some_of}
use Rattle.lists.proofs.SomeOf.{some_append}
use Rattle.masks.specs.Masks.{holds}
use Rattle.table.specs.Table.{marks}
use Rattle.label_masks.specs.LabelMasks.{ReadLabels, LabelAdded}
use Rattle.label_masks.proofs.Below.{below_same, none_below, same_labels, same_tasks}
use Rattle.label_masks.proofs.OneMore.{with_label, no_masks}

-- those of the readers met that are among the first tasks hold the label, too
pub record AddedTo (label tasks : ℕ) (met before after : List ℕ) : Type 0 where
  pub long : length after ≡ length before
  pub has : (r l : ℕ) → r < 32 → holds 64 (get_or after r 0) l
      ≡ (holds 64 (get_or before r 0) l || (eqb l label && (ltb r tasks && some_of (λ x. eqb x r) met)))

-- the readers of one label
module _ (label tasks : ℕ) (before : List ℕ) where
  -- first of all
  pub added_none : AddedTo label tasks [] before before
  unfolding some_of
  added_none = record {
    long = refl;
    has = λ r l known.
        sym (ap (λ b. holds 64 (get_or before r 0) l || (eqb l label && b)) (and-false (ltb r tasks))
        ∙ ap (λ b. holds 64 (get_or before r 0) l || b) (and-false (eqb l label)) ∙ or-false _);
  }

  module _ (met : List ℕ) (x : ℕ) where
    -- a task is the one more, or among those met
    or_one : (r : ℕ) → some_of (λ x. eqb x r) (met ++ x ∷ []) ≡ (some_of (λ x. eqb x r) met || eqb x r)
    unfolding some_of
    or_one r = some_append (λ x. eqb x r) met (x ∷ []) ∙ ap (λ b. some_of (λ x. eqb x r) met || b) (or-false (eqb x r))

    -- a reader more
    pub added_more : {after : List ℕ} → x < tasks → x < 32 → label < 64 → length after ≡ 32
        → AddedTo label tasks met before after
        → AddedTo label tasks (met ++ x ∷ []) before
        (set after x (bit_or (get_or after x 0) (9223372036854775808 / 2 ^ label)))
    added_more {after} first known few long added = record {
      long = length-set after x _ ∙ added.long;
      has = λ r l below.
          by_cases (ℕ_discrete r x)
          (λ same. rw (or_one r, same, get_or-set_same after x _ 0 (omega arith))
          (with_label (get_or after x 0) label l few
          ∙ rw (added.has x l known, lt-ltb x tasks first, eq-eqb x x refl)
          (both (holds 64 (get_or before x 0) l) (eqb l label) (some_of (λ y. eqb y x) met))))
          (λ other. rw (or_one r, get_or-set_other after x r _ 0 other, ne_eqb x r (λ equal. other (sym equal)))
          (added.has r l below
          ∙ ap (λ b. holds 64 (get_or before r 0) l || (eqb l label && (ltb r tasks && b))) (sym (or-false _))));
    }
      where
        both : (held same met : Bool) → ((held || (same && met)) || same) ≡ (held || (same && (met || true)))
        both true true met = refl
        both true false met = refl
        both false true true = refl
        both false true false = refl
        both false false met = refl

    -- a reader that is none of the first tasks
    pub added_past : {after : List ℕ} → tasks ≤ x → AddedTo label tasks met before after
        → AddedTo label tasks (met ++ x ∷ []) before after
    added_past {after} past added = record {
      long = added.long;
      has = λ r l below.
          added.has r l below
          ∙ ap (λ b. holds 64 (get_or before r 0) l || (eqb l label && b))
          (by_cases (ℕ_discrete r x)
          (λ same. rw (le-ltb r tasks (omega arith)))
          (λ other. rw (or_one r, ne_eqb x r (λ equal. other (sym equal)))
          (ap (λ b. ltb r tasks && b) (sym (or-false _)))));
    }

  -- all of them
  pub added_all : (readers : ℕ) {after : List ℕ} (met : List ℕ) → AddedTo label tasks met before after
      → ((r : ℕ) → r < 32 → some_of (λ x. eqb x r) met ≡ marks readers r) → LabelAdded label tasks readers before after
  added_all readers met added all = record {
    long = added.long;
    has = λ r l known.
        added.has r l known
        ∙ ap (λ b. holds 64 (get_or before r 0) l || (eqb l label && (ltb r tasks && b))) (all r known);
  }

-- the readers of all labels
module _ (readers : List ℕ) where
  pub none_read : (tasks : ℕ) → ReadLabels 0 tasks readers (replicate 32 0)
  none_read tasks = record {
    has = λ r l known few.
        no_masks r known l ∙ sym (rw (← none_below l (marks (get_or readers l 0) r)) (and-false (ltb r tasks)));
  }

  -- one label more
  pub one_more_read : {l tasks : ℕ} {masks after : List ℕ} → ReadLabels l tasks readers masks
      → LabelAdded l tasks (get_or readers l 0) masks after → ReadLabels (l + 1) tasks readers after
  one_more_read {l} {tasks} {masks} {after} read more = record {
    has = λ r k known few.
        more.has r k known
        ∙ ap (λ b. b || (eqb k l && (ltb r tasks && marks (get_or readers l 0) r))) (read.has r k known few)
        ∙ by_cases (ℕ_discrete k l)
        (λ same.
        rw (same, le-ltb l l (omega arith), lt-ltb l (l + 1) (omega arith), eq-eqb l l refl)
        (ap (λ b. b || (ltb r tasks && marks (get_or readers l 0) r)) (and-false (ltb r tasks))))
        (λ other.
        rw (ne_eqb k l other)
        (or-false _ ∙ ap (λ b. ltb r tasks && b) (below_same l k (marks (get_or readers k 0) r) other)));
  }

  pub all_read : {labels tasks : ℕ} {masks : List ℕ} → ReadLabels (min labels 64) (min tasks 32) readers masks
      → ReadLabels labels tasks readers masks
  all_read {labels} {tasks} read = record {
    has = λ r l known few.
        read.has r l known few
        ∙ ap₂ (λ a b. a && (b && marks (get_or readers l 0) r)) (same_tasks tasks r known) (same_labels labels l few);
  }
