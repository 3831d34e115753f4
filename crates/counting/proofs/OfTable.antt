-- The pairs that a core counts, of a table that meets the rules: exactly those that some label goes between and whose
-- own task is on the core. Assumes nothing.
use Prim.Native.Nat.{ℕ, ◌<◌, min}
use mathlib.Core.Path.{◌≡◌, refl, sym, ap, ◌∙◌}
use mathlib.Core.Bool.{Bool, true, ◌&&◌}
use mathlib.Core.List.{List}
use native.Mathlib.Omega.{arith}
use borrow.Author.Tests.{eq-eqb, eqb-true}
use lib.Dec.{eqb}
use lib.ListN.{get_or}
use Rattle.lists.specs.Lists.{some_below, some_of}
use Rattle.lists.proofs.All.{All, all_each_below, all_each_of, all_only_if}
use Rattle.lists.proofs.Bools.{same_test, and_parts, and_of_parts}
use Rattle.lists.proofs.Lists.{some_below_finds, some_below_found, some_below_same}
use Rattle.lists.proofs.SomeOf.{some_each_below, some_each_of, some_only_if}
use Rattle.table.specs.Table.{marks, writer_of, reads, joins}
use Rattle.table.specs.declared.Table.{Table}
use Rattle.table.specs.Image.{Whole}
use Rattle.table.specs.Rules.{MeetsRules}
use Rattle.instants.proofs.OfTable.{writer_is}
use Rattle.gathering.specs.Pairs.{code_of, own_task, pair_counted, tasks_in, pairs_with, pairs_of, joined_masks}
use Rattle.counting.specs.Counting.{joined_of, pairs_in}
use Rattle.counting.proofs.Marks.{joined_marks}

module _ (kind : Bool) (core : ℕ) (cores joined : List ℕ) where
  -- the own task of a pair is on the core
  abbrev pub on_core : (w r : ℕ) → Bool
  on_core w r = eqb (get_or cores (own_task kind w r) 0) core

  -- whether some of the pairs passes a test
  some_pair : (test : ℕ → Bool) → some_of test (pairs_of kind core cores joined)
      ≡ some_below 32 (λ w. some_below 32 (λ r. marks (get_or joined w 0) r && (on_core w r && test (code_of w r))))
  unfolding pairs_of pairs_with tasks_in pair_counted
  some_pair test =
      some_each_below test 32 _
      ∙ some_below_same 32 _ _ (λ w known.
      some_each_of test (tasks_in (get_or joined w 0)) (pair_counted kind core cores w)
      ∙ some_each_below _ 32 _
      ∙ some_below_same 32 _ _ (λ r there.
      some_only_if _ (marks (get_or joined w 0) r) r
      ∙ ap (λ b. marks (get_or joined w 0) r && b) (some_only_if test (on_core w r) (code_of w r))))

  -- a pair is among them
  module _ (w r : ℕ) (writes : w < 32) (reads : r < 32) where
    pub pair_listed : some_of (λ pair. eqb pair (code_of w r)) (pairs_of kind core cores joined)
        ≡ (marks (get_or joined w 0) r && on_core w r)
    pair_listed = some_pair _ ∙ same_test _ _ finds found
      where
        -- two pairs below 32 of one number are the same
        only : (v s : ℕ) → v < 32 → s < 32
            → (marks (get_or joined v 0) s && (on_core v s && eqb (code_of v s) (code_of w r))) ≡ true
            → (marks (get_or joined w 0) r && on_core w r) ≡ true
        only v s of_v of_s h =
            let (marked, more) = and_parts (marks (get_or joined v 0) s) _ h in
            let (on, same) = and_parts (on_core v s) _ more in
            let code = eqb-true (code_of v s) (code_of w r) same in
            let same_writer : v ≡ w = omega arith in
            let same_reader : s ≡ r = omega arith in
            rw (same_writer, same_reader) at (and_of_parts _ _ marked on)

        finds : some_below 32
            (λ v. some_below 32 (λ s. marks (get_or joined v 0) s && (on_core v s && eqb (code_of v s) (code_of w r)))) ≡ true
            → (marks (get_or joined w 0) r && on_core w r) ≡ true
        finds h =
            let (v, of_v, more) = some_below_finds 32 _ h in
            let (s, of_s, both) = some_below_finds 32 _ more in
            only v s of_v of_s both

        found : (marks (get_or joined w 0) r && on_core w r) ≡ true
            → some_below 32
            (λ v. some_below 32 (λ s. marks (get_or joined v 0) s && (on_core v s && eqb (code_of v s) (code_of w r)))) ≡ true
        found h =
            let (marked, on) = and_parts (marks (get_or joined w 0) r) _ h in
            some_below_found 32 _ w writes (some_below_found 32 _ r reads
            (and_of_parts _ _ marked (and_of_parts _ _ on (eq-eqb (code_of w r) _ refl))))

  -- what holds of each that is marked holds of all of them
  each_pair : (P : ℕ → Type 0)
      → ((w r : ℕ) → w < 32 → r < 32 → marks (get_or joined w 0) r ≡ true → P (code_of w r))
      → All P (pairs_of kind core cores joined)
  unfolding pairs_of pairs_with tasks_in pair_counted
  each_pair P holds =
      all_each_below P 32 _ (λ w writes.
      all_each_of P (tasks_in (get_or joined w 0)) (pair_counted kind core cores w)
      (all_each_below _ 32 _ (λ r reads.
      all_only_if _ (marks (get_or joined w 0) r) r (λ marked.
      all_only_if P (on_core w r) (code_of w r) (λ on. holds w r writes reads marked)))))

-- the masks of each task's readers
module _ (whole : Whole) (rules : MeetsRules whole) where
  abbrev table : Table
  table = whole.table

  pub joined_joins : (w r : ℕ) → w < 32 → marks (get_or (joined_of table) w 0) r ≡ joins table w r
  unfolding joined_masks joins reads
  joined_joins w r known =
      let all : min table.labels 64 ≡ table.labels = omega (arith, rules.labels.1) in
      rw all (joined_marks table.writer table.readers table.labels w r known
      ∙ some_below_same table.labels _ _ (λ l there.
      ap (λ v. eqb v w && marks (get_or table.readers l 0) r) (writer_is whole rules l there)))

  -- tasks that are joined are tasks of the table
  pub joined_known : (w r : ℕ) → joins table w r ≡ true → (w < table.tasks) × (r < table.tasks)
  unfolding joins
  joined_known w r joined =
      let (l, known, goes) = some_below_finds table.labels _ joined in
      let (writes, read) = and_parts (eqb (writer_of table l) w) _ goes in
      let writer = eqb-true (writer_of table l) w writes in
      (omega (arith, rules.writer l known), (rules.reader l r known read).0)

  -- what holds of each pair that is joined holds of all that a core counts
  pub each_joined : (kind : Bool) (core : ℕ) (P : ℕ → Type 0)
      → ((w r : ℕ) → w < 32 → r < 32 → joins table w r ≡ true → P (code_of w r)) → All P (pairs_in kind table core)
  each_joined kind core P holds =
      each_pair kind core table.core (joined_of table) P
      (λ w r writes reads marked. holds w r writes reads (sym (joined_joins w r writes) ∙ marked))
