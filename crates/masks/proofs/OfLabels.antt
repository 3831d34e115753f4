-- The labels of a mask of 64 bits: the first one and the others, and what each of them has to add. No contract cites this
-- file. Assumes nothing.
use Prim.Native.Nat.{ℕ, zero, suc, ◌-◌, ◌^◌, ◌<◌, ◌≤◌}
use mathlib.Core.Path.{◌≡◌, refl, sym, ap, ap₂, ◌∙◌}
use mathlib.Core.Bool.{Bool, true, false, cond}
use mathlib.Core.List.{List, [], ◌∷◌, ◌++◌, append-nil}
use lib.Count.{count_leading_zeros}
use Rattle.std.specs.Prelude.{None}
use Rattle.std.specs.Iterator.{Yields}
use Rattle.lists.specs.Lists.{each_below, each_of}
use Rattle.lists.proofs.Each.{each_of_append}
use Rattle.masks.specs.Masks.{holds, alone, each_held, labels_in}
use Rattle.masks.specs.Rising.{GivesBelow}
use Rattle.masks.proofs.First.{first_held, held_none}
use Rattle.masks.proofs.Rising.{all_met}

-- no label is left
pub no_labels : labels_in 0 ≡ []
unfolding labels_in
no_labels = held_none (λ l. l ∷ []) 64

module _ (mask : ℕ) (some : 0 < mask) (few : mask < 2 ^ 64) where
  pub first_known : count_leading_zeros 64 mask < 64
  first_known = (first_held {A = ℕ} (λ l. []) 64 mask some few).known

  pub first_within : alone 64 (count_leading_zeros 64 mask) ≤ mask
  first_within = (first_held {A = ℕ} (λ l. []) 64 mask some few).within

  -- the first, and those of the mask without it
  pub labels_first : {first others : ℕ} → first ≡ count_leading_zeros 64 mask → others ≡ mask - alone 64 first
      → labels_in mask ≡ first ∷ labels_in others
  unfolding labels_in
  labels_first is without = rw (without, is) (first_held (λ l. l ∷ []) 64 mask some few).others

-- what each label of a mask has to add, one after the other
module _ {A : Type 0} (adds : ℕ → List A) where
  of_one : (test : Bool) (l : ℕ) → each_of (cond test (l ∷ []) []) adds ≡ cond test (adds l) []
  unfolding each_of
  of_one true l = append-nil (adds l)
  of_one false l = refl

  of_some : (test : ℕ → Bool) (n : ℕ) → each_of (each_below n (λ l. cond (test l) (l ∷ []) [])) adds
      ≡ each_below n (λ l. cond (test l) (adds l) [])
  unfolding each_of each_below
  of_some test zero = refl
  of_some test (suc n) =
      each_of_append adds (each_below n (λ l. cond (test l) (l ∷ []) [])) _
      ∙ ap₂ ◌++◌ (of_some test n) (of_one (test n) n)

  pub each_label : (mask : ℕ) → each_of (labels_in mask) adds ≡ each_held 64 mask adds
  unfolding labels_in each_held
  each_label mask = of_some (holds 64 mask) 64

  -- a loop over the labels of a mask has met them all when it ends
  pub labels_done : (mask : ℕ) {all after : List ℕ} (met left : List ℕ) → all ≡ labels_in mask
      → Yields (GivesBelow 64) all met left → GivesBelow 64 left None after → each_of met adds ≡ each_held 64 mask adds
  labels_done mask met left whole yielded end =
      ap (λ l. each_of l adds) (sym (all_met 64 met left yielded end) ∙ whole) ∙ each_label mask
