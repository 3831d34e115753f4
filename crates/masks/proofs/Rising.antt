-- What a loop over rising numbers has met when it ends: all of them, in their order. No contract cites this file. Assumes
-- nothing.
use Prim.Native.Nat.{ℕ}
use mathlib.Core.Path.{◌≡◌, ap, ◌∙◌}
use mathlib.Core.List.{List, [], ◌∷◌, ◌++◌, append-nil}
use Rattle.std.specs.Prelude.{None}
use Rattle.std.specs.Iterator.{Yields}
use Rattle.lists.specs.Lists.{each_of}
use Rattle.lists.proofs.Each.{each_of_append}
use Rattle.masks.specs.Rising.{GivesBelow}

module _ (bound : ℕ) where
  -- those that were met, and those that are left
  pub met_and_left : {all : List ℕ} (met left : List ℕ) → Yields (GivesBelow bound) all met left → all ≡ met ++ left
  met_and_left [] left same = same
  met_and_left (x ∷ met) left (others, (first, below), more) = first ∙ ap (λ l. x ∷ l) (met_and_left met left more)

  -- all were met
  pub all_met : {all after : List ℕ} (met left : List ℕ) → Yields (GivesBelow bound) all met left
      → GivesBelow bound left None after → all ≡ met
  all_met met left yielded end = met_and_left met left yielded ∙ rw end.0.0 (append-nil met)

-- what the numbers met have to add, with one number more
pub each_more : {A : Type 0} (adds : ℕ → List A) (met : List ℕ) (x : ℕ)
    → each_of (met ++ x ∷ []) adds ≡ each_of met adds ++ adds x
unfolding each_of
each_more adds met x = each_of_append adds met (x ∷ []) ∙ ap (λ l. each_of met adds ++ l) (append-nil (adds x))
