-- Fields that fit, in parts and in a row. Assumes nothing.
use Prim.Native.Nat.{ℕ, zero, suc, ◌<◌}
use mathlib.Core.List.{List, [], ◌∷◌, ◌++◌}
use native.Mathlib.Nat.{le_of_suc-le-suc}
use native.Mathlib.Omega.{arith}
use lib.ListN.{length, get_or}
use Rattle.lists.specs.Lists.{each_of}
use Rattle.lists.proofs.All.{All}
use Rattle.bits.specs.Packing.{Field}
use Rattle.listings.specs.Fits.{Fits}

fits_first : (fs gs : List Field) → Fits (fs ++ gs) → Fits fs
fits_first [] gs fits = tt
fits_first (f ∷ fs) gs fits = (fits.0, fits_first fs gs fits.1)

fits_rest : (fs gs : List Field) → Fits (fs ++ gs) → Fits gs
fits_rest [] gs fits = fits
fits_rest (f ∷ fs) gs fits = fits_rest fs gs fits.1

fits_both : (fs gs : List Field) → Fits fs → Fits gs → Fits (fs ++ gs)
fits_both [] gs of_fs of_gs = of_gs
fits_both (f ∷ fs) gs of_fs of_gs = (of_fs.0, fits_both fs gs of_fs.1 of_gs)

module _ {A : Type 0} (f : A → List Field) where
  -- the fields of each fit where those of the whole row do
  pub fits_at : (d : A) (xs : List A) → Fits (each_of xs f) → (k : ℕ) → k < length xs → Fits (f (get_or xs k d))
  unfolding each_of
  fits_at d [] fits k below = absurd (omega arith)
  fits_at d (x ∷ xs) fits zero below = fits_first (f x) (each_of xs f) fits
  fits_at d (x ∷ xs) fits (suc k) below = fits_at d xs (fits_rest (f x) (each_of xs f) fits) k (le_of_suc-le-suc below)

  -- and those of the whole row where those of each do
  pub fits_each : (xs : List A) → All (λ x. Fits (f x)) xs → Fits (each_of xs f)
  unfolding each_of
  fits_each [] each = tt
  fits_each (x ∷ xs) each = fits_both (f x) (each_of xs f) each.0 (fits_each xs each.1)
