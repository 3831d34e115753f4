-- The copies of a frame's line put one after the other. No contract cites this file. Assumes nothing.
use Prim.Native.Nat.{ℕ}
use mathlib.Core.Path.{◌≡◌, sym, ap, ◌∙◌}
use mathlib.Core.List.{List, [], ◌∷◌, ◌++◌, append-nil}
use lib.Bits.{bit_and}
use Rattle.lists.specs.Lists.{each_of, only_if}
use Rattle.lists.proofs.Each.{each_of_append}
use Rattle.lists.proofs.Below.{each_below_same}
use Rattle.masks.specs.Masks.{each_held, labels_in}
use Rattle.masks.proofs.OfLabels.{each_label}
use Rattle.readers.specs.NextReader.{readers_in}
use Rattle.readers.proofs.InTurn.{each_reader}
use Rattle.readers.proofs.Masks.{and_marks}
use Rattle.copies.specs.Copies.{Copy, read}
use Rattle.instants.specs.Due.{reads_due}
use Rattle.printing.specs.Printed.{copy_text}
use Rattle.texts.specs.Puts.{Puts}
use Rattle.texts.specs.declared.Text.{Text}
use Rattle.texts.proofs.Putting.{nothing_put, put_then}

-- the texts of copies
abbrev pub PutsCopies : (held made : Text) (copies : List Copy) → Type 0
PutsCopies held made copies = Puts held made (each_of copies copy_text)

-- one copy, and copies and then more of them
pub one_copy : {held made : Text} (copy : Copy) → Puts held made (copy_text copy) → PutsCopies held made (copy ∷ [])
unfolding each_of
one_copy copy put = rw (append-nil (copy_text copy)) put

pub copies_then : {held middle made : Text} (copies more : List Copy) → PutsCopies held middle copies
    → PutsCopies middle made more → PutsCopies held made (copies ++ more)
copies_then copies more first then = rw (each_of_append copy_text copies more) (put_then first then)

-- what numbers have to add: of none of them, and of one more
module _ (adds : ℕ → List Copy) where
  pub none_met : (text : Text) → PutsCopies text text (each_of [] adds)
  unfolding each_of
  none_met text = nothing_put text

  pub one_more : {held middle made : Text} (met : List ℕ) (n : ℕ) → PutsCopies held middle (each_of met adds)
      → PutsCopies middle made (adds n) → PutsCopies held made (each_of (met ++ n ∷ []) adds)
  unfolding each_of
  one_more met n before one =
      let more : each_of (met ++ n ∷ []) adds ≡ each_of met adds ++ adds n =
      each_of_append adds met (n ∷ []) ∙ ap (λ l. each_of met adds ++ l) (append-nil (adds n)) in
      rw more (copies_then (each_of met adds) (adds n) before one)

  -- of all labels of a mask
  pub all_labels : {held made : Text} (mask : ℕ) {met : List ℕ} → labels_in mask ≡ met
      → PutsCopies held made (each_of met adds) → PutsCopies held made (each_held 64 mask adds)
  all_labels mask all put = rw (← each_label adds mask, all) put

-- the read of one reader of a label; and those of all of its readers that are served
abbrev pub read_of : ℕ → ℕ → List Copy
read_of label reader = read label reader ∷ []

pub all_readers : {held made : Text} (label field serves : ℕ) {met : List ℕ} → readers_in (bit_and field serves) ≡ met
    → PutsCopies held made (each_of met (read_of label)) → PutsCopies held made (reads_due field serves label)
unfolding reads_due
all_readers label field serves {met} all put =
    let served : each_of met (read_of label) ≡ reads_due field serves label =
    ap (λ l. each_of l (read_of label)) (sym all)
    ∙ each_reader (read_of label) (bit_and field serves)
    ∙ each_below_same 32 _ _ (λ r below. ap (λ b. only_if b (read label r)) (and_marks field serves r)) in
    rw served at put
