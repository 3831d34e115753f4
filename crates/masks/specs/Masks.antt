-- Masks of a width: the most significant bit stands for number 0. No contract of a question cites this file. Assumes
-- nothing.
use Rattle.std.specs.Prelude.{ℕ, suc, ◌-◌, ◌/◌, ◌%◌, ◌^◌, Bool, cond, ◌&&◌, List, [], ◌∷◌, eqb, ltb}
use Rattle.lists.specs.Lists.{each_below}

-- a mask of so many bits holds number i
unfoldable pub holds : (width mask i : ℕ) → Bool
holds width mask i = ltb i width && eqb (mask / 2 ^ (width - suc i) % 2) 1

-- the mask that holds number i alone
abbrev pub alone : (width i : ℕ) → ℕ
alone width i = 2 ^ (width - suc i)

-- what each number of a mask has to add, by rising number
unfoldable pub each_held : {A : Type 0} → (width mask : ℕ) → (ℕ → List A) → List A
each_held width mask adds = each_below width (λ i. cond (holds width mask i) (adds i) [])

-- the labels of a mask, by rising number
unfoldable pub labels_in : (mask : ℕ) → List ℕ
labels_in mask = each_held 64 mask (λ l. l ∷ [])
