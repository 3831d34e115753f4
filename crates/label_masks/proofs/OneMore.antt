-- One label more. No contract cites this file. Assumes nothing.
use Prim.Native.Nat.{ℕ, suc, ◌+◌, ◌-◌, ◌/◌, ◌^◌, ◌<◌, min}
use mathlib.Core.Path.{◌≡◌, sym, ap, ◌∙◌}
use mathlib.Core.Logic.{by_cases}
use mathlib.Core.Bool.{false, ◌&&◌, ◌||◌}
use mathlib.Core.List.{List}
use native.Mathlib.Decide.{ℕ_discrete}
use native.Mathlib.Nat.{mod-lt}
use native.Mathlib.Omega.{arith}
use borrow.Author.Tests.{eq-eqb, ne_eqb}
use lib.Bits.{bit_or, or_lt}
use lib.Dec.{eqb, lit<}
use lib.ListN.{length, get_or, set, replicate, get_or-replicate}
use lib.Pow.{pow-lt}
use lib.Seq.{get_or-set_same, get_or-set_other}
use Rattle.masks.specs.Masks.{holds}
use Rattle.masks.proofs.Bitwise.{zero_holds, shifted_alone, one_more_holds}
use Rattle.instants.specs.Due.{writer_due}
use Rattle.label_masks.specs.LabelMasks.{WrittenLabels}
use Rattle.label_masks.proofs.Below.{below_with, below_without, none_below, same_labels}

-- a mask with label l
pub with_label : (mask l k : ℕ) → l < 64
    → holds 64 (bit_or mask (9223372036854775808 / 2 ^ l)) k ≡ (holds 64 mask k || eqb k l)
with_label mask l k known =
    ap (λ bit. holds 64 (bit_or mask bit) k) (shifted_alone 64 l known) ∙ one_more_holds 64 mask l k known

one_bit : (l : ℕ) → l < 64 → 9223372036854775808 / 2 ^ l < 2 ^ 64
one_bit l known = rw (shifted_alone 64 l known) (pow-lt {i = 64 - suc l} {j = 64} (omega arith))

-- masks that hold nothing
pub no_masks : (w : ℕ) → w < 32 → (l : ℕ) → holds 64 (get_or (replicate 32 0) w 0) l ≡ false
no_masks w known l = ap (λ mask. holds 64 mask l) (get_or-replicate {A = ℕ} 32 w 0 0 known) ∙ zero_holds 64 l

-- the labels that tasks write
module _ (writer : List ℕ) where
  writer_below : (l : ℕ) → writer_due writer l < 32
  unfolding writer_due
  writer_below l = mod-lt (get_or writer l 0) (lit< tt)

  pub none_written : WrittenLabels 0 writer (replicate 32 0)
  none_written = record {
    few = λ w known. rw (get_or-replicate {A = ℕ} 32 w 0 0 known) (omega arith);
    has = λ w l known few. no_masks w known l ∙ none_below l _;
  }

  pub one_more_written : {l : ℕ} {masks : List ℕ} → length masks ≡ 32 → l < 64 → WrittenLabels l writer masks
      → WrittenLabels (l + 1) writer
      (set masks (writer_due writer l) (bit_or (get_or masks (writer_due writer l) 0) (9223372036854775808 / 2 ^ l)))
  one_more_written {l} {masks} long few written = record {
    few = λ w known.
        by_cases (ℕ_discrete w (writer_due writer l))
        (λ same. rw (same, get_or-set_same masks (writer_due writer l) _ 0 (omega (arith, writer_below l)))
        (or_lt 64 (get_or masks (writer_due writer l) 0) (9223372036854775808 / 2 ^ l)
        (written.few (writer_due writer l) (writer_below l)) (one_bit l few)))
        (λ other. rw (get_or-set_other masks (writer_due writer l) w _ 0 other) (written.few w known));
    has = λ w k known below.
        by_cases (ℕ_discrete w (writer_due writer l))
        (λ same. rw (same, get_or-set_same masks (writer_due writer l) _ 0 (omega (arith, writer_below l)))
        (with_label (get_or masks (writer_due writer l) 0) l k few
        ∙ rw (written.has (writer_due writer l) k (writer_below l) below)
        (below_with l k (eqb (writer_due writer k) (writer_due writer l)) (λ here. eq-eqb _ _ (ap (writer_due writer) here)))))
        (λ other. rw (get_or-set_other masks (writer_due writer l) w _ 0 other)
        (written.has w k known below
        ∙ below_without l k (eqb (writer_due writer k) w)
        (λ here. ne_eqb _ _ (λ equal. other (sym equal ∙ ap (writer_due writer) here)))));
  }

  pub all_written : {labels : ℕ} {masks : List ℕ} → WrittenLabels (min labels 64) writer masks
      → WrittenLabels labels writer masks
  all_written {labels} written = record {
    few = written.few;
    has = λ w l known few.
        written.has w l known few ∙ ap (λ b. b && eqb (writer_due writer l) w) (same_labels labels l few);
  }
