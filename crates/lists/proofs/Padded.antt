-- Entries of a padded list. Assumes nothing.
use Prim.Native.Nat.{ℕ, zero, suc, ◌<◌}
use mathlib.Core.Path.{◌≡◌, refl, ap, ◌∙◌}
use mathlib.Core.List.{List, [], ◌∷◌, map}
use native.Mathlib.Nat.{le_of_suc-le-suc}
use native.Mathlib.Omega.{arith}
use lib.ListN.{length, get_or, length-map, get_or-append}
use Rattle.lists.specs.Lists.{each_below, padded}
use Rattle.lists.proofs.Each.{length_one_each, one_each_at}

-- an entry inside the list
map_at : {A B : Type 0} (f : A → B) (xs : List A) (a : A) (d : B) (k : ℕ) → k < length xs
    → get_or (map f xs) k d ≡ f (get_or xs k a)
map_at f [] a d k inside = absurd (omega arith)
map_at f (x ∷ xs) a d zero inside = refl
map_at f (x ∷ xs) a d (suc k) inside = map_at f xs a d k (le_of_suc-le-suc inside)

pub padded_at : {A B : Type 0} (size : ℕ) (filler : B) (f : A → B) (xs : List A) (a : A) (d : B) (k : ℕ) → k < length xs
    → get_or (padded size filler (map f xs)) k d ≡ f (get_or xs k a)
unfolding padded
padded_at size filler f xs a d k inside =
    get_or-append (map f xs) _ d k (omega (arith, length-map xs f)) ∙ map_at f xs a d k inside

-- the entry of a number below n, of a list with one entry for each
pub padded_one_each : {A : Type 0} (size : ℕ) (f : A → ℕ) (g : ℕ → A) (n k : ℕ) → k < n
    → get_or (padded size 0 (map f (each_below n (λ i. g i ∷ [])))) k 0 ≡ f (g k)
padded_one_each size f g n k below =
    let long = length_one_each g n in
    padded_at size 0 f (each_below n (λ i. g i ∷ [])) (g 0) 0 k (omega arith)
    ∙ ap f (one_each_at g (g 0) n k below)
