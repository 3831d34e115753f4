-- The copies that are due, by masks of the labels that are due. No contract cites this file. Assumes nothing.
use Prim.Native.Nat.{ℕ, ◌<◌, ◌^◌, min}
use mathlib.Core.Path.{◌≡◌, refl, sym, ap, ◌∙◌}
use mathlib.Core.Bool.{Bool, true, false, cond, ◌&&◌}
use mathlib.Core.List.{List, [], ◌∷◌}
use native.Mathlib.Omega.{arith}
use borrow.Author.Tests.{lt-ltb, le-ltb}
use lib.Dec.{ltb}
use lib.Count.{ones}
use lib.ListN.{length, get_or}
use Rattle.lists.specs.Lists.{some_below, each_below, only_if}
use Rattle.lists.proofs.Bools.{false_unless_true, not_both}
use Rattle.lists.proofs.Lists.{some_below_found}
use Rattle.lists.proofs.Below.{each_below_same, each_below_less}
use Rattle.masks.specs.Masks.{each_held}
use Rattle.masks.proofs.Counted.{count_held}
use Rattle.copies.specs.Copies.{read, write}
use Rattle.instants.specs.Due.{in_both, write_due, reads_due, writer_due, writes_due, all_reads_due, writes_in, reads_in}
use Rattle.instants.specs.Due.{is_due, HoldsDue}

-- where no reader of a label is marked, it has no read
no_reads : (readers mask l : ℕ) → some_below 32 (in_both readers mask) ≡ false → reads_due readers mask l ≡ []
unfolding reads_due each_below
no_reads readers mask l none =
    each_below_less 0 32 (λ r. only_if (in_both readers mask r) (read l r)) (omega arith)
    (λ r late known.
    rw (false_unless_true (in_both readers mask r)
    (λ both. not_both _ (some_below_found 32 (in_both readers mask) r known both) none)))

reads_of_due : (b : Bool) (readers mask l : ℕ) → some_below 32 (in_both readers mask) ≡ b
    → cond b (reads_due readers mask l) [] ≡ reads_due readers mask l
reads_of_due true readers mask l some = refl
reads_of_due false readers mask l none = sym (no_reads readers mask l none)

module _ (labels : ℕ) (writer readers masks : List ℕ) (held : ℕ) (due : HoldsDue labels writer readers masks held)
  where
    -- what each label that is due has to add
    held_each : {A : Type 0} (adds target : ℕ → List A)
        → ((l : ℕ) → cond (is_due writer readers masks l) (adds l) [] ≡ target l)
        → each_held 64 held adds ≡ each_below (min labels 64) target
    unfolding each_held
    held_each adds target same =
        each_below_same 64 _ (λ l. cond (ltb l labels && is_due writer readers masks l) (adds l) [])
        (λ l below. ap (λ b. cond b (adds l) []) (due l below))
        ∙ each_below_less (min labels 64) 64 _ (omega arith) (λ l past below. rw (le-ltb l labels (omega arith)))
        ∙ each_below_same (min labels 64) _ _ (λ l known. rw (lt-ltb l labels (omega arith)) (same l))

    pub writes_in_lem : writes_in writer held ≡ writes_due writer readers masks (min labels 64)
    unfolding writes_in writes_due write_due is_due
    writes_in_lem = held_each (λ l. write l (writer_due writer l) ∷ []) _ (λ l. refl)

    pub reads_in_lem : reads_in writer readers masks held ≡ all_reads_due writer readers masks (min labels 64)
    unfolding reads_in all_reads_due is_due
    reads_in_lem =
        held_each (λ l. reads_due (get_or readers l 0) (get_or masks (writer_due writer l) 0) l) _
        (λ l. reads_of_due _ (get_or readers l 0) (get_or masks (writer_due writer l) 0) l refl)

    -- as many writes as the mask has bits that are 1
    pub writes_many : held < 2 ^ 64 → length (writes_due writer readers masks (min labels 64)) ≡ ones held
    unfolding writes_in
    writes_many few = ap length (sym writes_in_lem) ∙ count_held (λ l. write l (writer_due writer l)) 64 held few
