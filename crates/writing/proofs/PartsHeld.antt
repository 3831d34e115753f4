-- Of a head, a task, a label and a chain that were taken, the image holds the written fields; after them come zero bits
-- to its end. Assumes nothing.
use Prim.Native.Nat.{ℕ, ◌+◌, ◌<◌, ◌≤◌}
use mathlib.Core.Path.{◌≡◌, refl, ap, ◌∙◌, subst}
use mathlib.Core.List.{List, [], ◌∷◌}
use native.Mathlib.Omega.{arith}
use borrow.Author.Tests.{eqb-true, leb-true}
use lib.Dec.{eqb, leb, ltb}
use lib.ListN.{length, replicate, get_or-replicate, length-replicate}
use Rattle.lists.specs.Lists.{each_of}
use Rattle.bits.specs.Bits.{bit_count, bit_at}
use Rattle.bits.specs.Packing.{Field, bits, bits_of, bits_of_all}
use Rattle.bits.proofs.Held.{Held}
use Rattle.outcomes.specs.Outcome.{gives}
use Rattle.taking.specs.Reading.{Taken, field, fill_bits, zero_bits, nothing_follows}
use Rattle.table.specs.Image.{between, head_fields, task_fields, right_readers, label_fields, chain_task, chain_fields, fill}
use Rattle.table.specs.declared.Table.{Table}
use Rattle.taking.proofs.Checks.{check_checks}
use Rattle.writing.specs.Written.{head_written, task_written, label_written, chain_written}
use Rattle.taking.proofs.TakenHeld.{Holds, done_holds, then_holds, field_holds, row_holds, then_both}

-- a field that stands for itself
abbrev Own : ℕ → ℕ → List Field → Type 0
Own w v fs = fs ≡ bits w v ∷ []

pub head_holds : Holds (λ head fs. fs ≡ head_written 1 head) head_fields
unfolding head_fields head_written
head_holds =
    then_holds (λ v fs. fs ≡ bits 4 1 ∷ []) _ (field 4 2 _) _
    (field_holds _ 4 2 (λ version. eqb version 1) (λ v right. ap (λ n. bits 4 n ∷ []) (eqb-true v 1 right)))
    (λ version f0 e0.
    then_holds (Own 4) _ (field 4 3 _) _ (field_holds _ 4 3 (between 1 8) (λ v right. refl)) (λ cores f1 e1.
    then_holds (Own 6) _ (field 6 3 _) _ (field_holds _ 6 3 (between 1 32) (λ v right. refl)) (λ tasks f2 e2.
    then_holds (Own 7) _ (field 7 3 _) _ (field_holds _ 7 3 (between 0 64) (λ v right. refl)) (λ labels f3 e3.
    then_holds (Own 5) _ (field 5 3 _) _ (field_holds _ 5 3 (between 0 16) (λ v right. refl)) (λ chains f4 e4.
    done_holds _ _ (rw (e0, e1, e2, e3, e4)))))))

pub task_holds : (cores : ℕ) → Holds (λ task fs. fs ≡ task_written task) (task_fields cores)
unfolding task_fields task_written
task_holds cores =
    then_holds (Own 3) _ (field 3 4 _) _ (field_holds _ 3 4 (λ core. ltb core cores) (λ v right. refl)) (λ core f0 e0.
    then_holds (Own 20) _ (field 20 5 _) _ (field_holds _ 20 5 (between 1 1000000) (λ v right. refl)) (λ period f1 e1.
    done_holds _ _ (rw (e0, e1))))

pub label_holds : (tasks : ℕ) → Holds (λ label fs. fs ≡ label_written label) (label_fields tasks)
unfolding label_fields label_written
label_holds tasks =
    then_holds (Own 5) _ (field 5 6 _) _ (field_holds _ 5 6 (λ w. ltb w tasks) (λ v right. refl)) (λ writer f0 e0.
    then_holds (Own 32) _ (field 32 7 _) _ (field_holds _ 32 7 (right_readers tasks writer) (λ v right. refl))
    (λ readers f1 e1. done_holds _ _ (rw (e0, e1))))

pub chain_holds : (table : Table) → Holds (λ chain fs. fs ≡ chain_written chain) (chain_fields table)
unfolding chain_fields chain_written
chain_holds table =
    then_holds (Own 4) _ (field 4 8 _) _ (field_holds _ 4 8 (between 2 8) (λ v right. refl)) (λ size f0 e0.
    λ image at given inside e.
    let row = row_holds (λ task. bits 5 task ∷ []) (λ before. field 5 8 (chain_task table before))
    (λ before. field_holds _ 5 8 (chain_task table before) (λ v right. refl)) size image at given inside e in
    record {
      fields = row.fields;
      own = rw (e0, row.own.1, row.own.0);
      held = row.held;
      next = row.next;
    })

-- the image ends with the fill, and each bit of the fill is 0
pub record Ends (image : List ℕ) (at : ℕ) : Type 0 where
  pub end : bit_count image ≡ at + fill_bits at
  pub zeros : (i : ℕ) → i < fill_bits at → bit_at image (at + i) ≡ 0

zero_bits_lem : (row : List ℕ) → bits_of_all (each_of row (λ bit. bits 1 0 ∷ [])) ≡ replicate (length row) 0
unfolding bits_of_all each_of bits_of
zero_bits_lem [] = refl
zero_bits_lem (x ∷ row) = ap (λ l. 0 ∷ l) (zero_bits_lem row)

pub fill_holds : (image : List ℕ) (at : ℕ) (given : Taken (Unit {0})) → at ≤ bit_count image
    → fill image at ≡ gives given → Ends image at
unfolding fill zero_bits nothing_follows
fill_holds image at given inside e =
    let n : ℕ = fill_bits at in
    let one = field 1 9 (λ bit. eqb bit 0) in
    let both = then_both (zero_bits 9) (λ zeros. nothing_follows 9) image at given e in
    let row = row_holds (λ bit. bits 1 0 ∷ []) (λ before. one)
    (λ before. field_holds _ 1 9 (λ bit. eqb bit 0) (λ v right. ap (λ b. bits 1 b ∷ []) (eqb-true v 0 right)))
    n image at both.taken inside both.one in
    let none : bits_of_all row.fields ≡ replicate n 0 =
    ap bits_of_all row.own.1 ∙ zero_bits_lem both.taken.value ∙ ap (λ m. replicate m 0) row.own.0 in
    let held = subst (Held image at) none row.held in
    let long = length-replicate {A = ℕ} n 0 in
    let most = held.inside in
    let after : both.taken.next ≡ at + n = row.next ∙ ap (λ l. at + length l) none ∙ ap (λ m. at + m) long in
    let last = leb-true (bit_count image) both.taken.next
    (check_checks (leb (bit_count image) both.taken.next) 9 both.taken.next image both.taken.next given
    both.other) in
    record {
      end = omega arith;
      zeros = λ i below. held.each i (omega arith) ∙ get_or-replicate n i 0 0 below;
    }
