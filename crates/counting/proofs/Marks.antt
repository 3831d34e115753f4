-- What the masks mark: those of each task's readers, and those of the pairs that are due. Assumes nothing.
use Prim.Native.Nat.{ℕ, zero, suc, ◌<◌}
use mathlib.Core.Path.{◌≡◌, refl, sym, ap, ◌∙◌}
use mathlib.Core.Bool.{Bool, true, false, cond, ◌&&◌, ◌||◌, or-false, or_assoc}
use mathlib.Core.List.{List, [], ◌∷◌}
use mathlib.Core.Logic.{by_cases}
use native.Mathlib.Decide.{ℕ_discrete}
use native.Mathlib.Nat.{mod-lt}
use native.Mathlib.Omega.{arith}
use borrow.Author.Tests.{eq-eqb, ne_eqb}
use lib.Dec.{eqb, lit<}
use lib.ListN.{length, get_or, length-set, length-replicate}
use lib.Seq.{get_or-set_same, get_or-set_other}
use Rattle.lists.specs.Lists.{some_below, some_of}
use Rattle.table.specs.Table.{marks}
use Rattle.readers.proofs.Masks.{or_marks, own_marks}
use Rattle.instants.specs.Due.{writer_due}
use Rattle.instants.proofs.NothingDue.{unmarked}
use Rattle.gathering.specs.Pairs.{with_mask, joined_below}
use Rattle.gathering.specs.Counters.{tick_in, writer_in, reader_in}
use Rattle.counters.specs.Advanced.{with_one, folded}

-- one more mask
with_length : (masks : List ℕ) (v mask : ℕ) → length (with_mask masks v mask) ≡ length masks
unfolding with_mask
with_length masks v mask = length-set masks v _

with_marks : (masks : List ℕ) (v mask w i : ℕ) → length masks ≡ 32 → v < 32
    → marks (get_or (with_mask masks v mask) w 0) i ≡ (marks (get_or masks w 0) i || (eqb v w && marks mask i))
unfolding with_mask
with_marks masks v mask w i long known =
    by_cases (ℕ_discrete w v)
    (λ same. rw (same, get_or-set_same masks v _ 0 (omega arith), eq-eqb v v refl) (or_marks (get_or masks v 0) mask i))
    (λ other. rw (get_or-set_other masks v w _ 0 other, ne_eqb v w (λ same. other (sym same))) (sym (or-false _)))

-- one more mask, where a test holds
if_length : (test : Bool) (masks : List ℕ) (v mask : ℕ)
    → length (cond test (with_mask masks v mask) masks) ≡ length masks
if_length true masks v mask = with_length masks v mask
if_length false masks v mask = refl

if_marks : (test : Bool) (masks : List ℕ) (v mask w i : ℕ) → length masks ≡ 32 → v < 32
    → marks (get_or (cond test (with_mask masks v mask) masks) w 0) i
    ≡ (marks (get_or masks w 0) i || (test && (eqb v w && marks mask i)))
if_marks true masks v mask w i long known = with_marks masks v mask w i long known
if_marks false masks v mask w i long known = sym (or-false _)

-- the readers of the labels that a task writes
module _ (writer readers : List ℕ) where
  joined_length : (n : ℕ) → length (joined_below writer readers n) ≡ 32
  unfolding joined_below
  joined_length zero = length-replicate {A = ℕ} 32 0
  joined_length (suc n) = with_length _ _ _ ∙ joined_length n

  pub joined_marks : (n w i : ℕ) → w < 32 → marks (get_or (joined_below writer readers n) w 0) i
      ≡ some_below n (λ l. eqb (writer_due writer l) w && marks (get_or readers l 0) i)
  unfolding joined_below some_below writer_due
  joined_marks zero w i known = unmarked w i known
  joined_marks (suc n) w i known =
      with_marks (joined_below writer readers n) _ (get_or readers n 0) w i (joined_length n) (mod-lt _ (lit< tt))
      ∙ ap (λ b. b || (eqb (writer_due writer n) w && marks (get_or readers n 0) i)) (joined_marks n w i known)

-- a counter is due at t, for this writer and this reader
abbrev pub due_for : (t w r counter : ℕ) → Bool
due_for t w r counter = eqb (tick_in counter) t && (eqb (writer_in counter) w && eqb r (reader_in counter))

-- the pairs that are due
module _ (t w r : ℕ) where
  one_length : (masks : List ℕ) (counter : ℕ) → length (with_one t masks counter) ≡ length masks
  unfolding with_one
  one_length masks counter = if_length (eqb (tick_in counter) t) masks _ _

  one_marks : (masks : List ℕ) (counter : ℕ) → length masks ≡ 32
      → marks (get_or (with_one t masks counter) w 0) r ≡ (marks (get_or masks w 0) r || due_for t w r counter)
  unfolding with_one
  one_marks masks counter long =
      if_marks (eqb (tick_in counter) t) masks _ _ w r long (mod-lt _ (lit< tt))
      ∙ rw (own_marks (reader_in counter) r (mod-lt counter (lit< tt)))

  pub due_marks : (masks counters : List ℕ) → length masks ≡ 32
      → marks (get_or (folded (with_one t) masks counters) w 0) r ≡ (marks (get_or masks w 0) r || some_of (due_for t w r) counters)
  unfolding folded some_of
  due_marks masks [] long = sym (or-false _)
  due_marks masks (counter ∷ counters) long =
      due_marks (with_one t masks counter) counters (one_length masks counter ∙ long)
      ∙ ap (λ b. b || some_of (due_for t w r) counters) (one_marks masks counter long)
      ∙ or_assoc (marks (get_or masks w 0) r) (due_for t w r counter) (some_of (due_for t w r) counters)
