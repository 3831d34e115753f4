-- From what holds of each of several numbers to what holds of each of others, which belong to them one by one. Assumes
-- nothing.
use Prim.Native.Nat.{ℕ, suc}
use mathlib.Core.Path.{◌≡◌, refl}
use mathlib.Core.List.{List, [], ◌∷◌, map}
use native.Mathlib.Omega.{arith}
use Rattle.std.specs.List.{All, AllZip}
use Rattle.std.proofs.lemmas.List.Elements.{All-cons}

-- of the first, and of the others
all_first : (P : ℕ → Type 0) (x : ℕ) (xs : List ℕ) → All P (x ∷ xs) → P x
all_first P x xs all = all 0 0 (omega arith)

all_others : (P : ℕ → Type 0) (x : ℕ) (xs : List ℕ) → All P (x ∷ xs) → All P xs
all_others P x xs all = λ k d inside. all (suc k) d (omega arith)

-- each beside itself
pub each_itself : {P : ℕ → Type 0} (R : ℕ → ℕ → Type 0) → ((x : ℕ) → P x → R x x) → (xs : List ℕ) → All P xs → AllZip R xs xs
each_itself R to [] all = tt
each_itself {P} R to (x ∷ xs) all = (to x (all_first P x xs all), each_itself {P = P} R to xs (all_others P x xs all))

-- one after the other
pub each_then : {R Q : ℕ → ℕ → Type 0} (S : ℕ → ℕ → Type 0) → ((x y z : ℕ) → R x y → Q y z → S x z)
    → (xs ys zs : List ℕ) → AllZip R xs ys → AllZip Q ys zs → AllZip S xs zs
each_then S to [] [] [] first second = tt
each_then S to [] [] (z ∷ zs) first second = second
each_then S to [] (y ∷ ys) zs first second = absurd first
each_then S to (x ∷ xs) [] zs first second = absurd first
each_then S to (x ∷ xs) (y ∷ ys) [] first second = second
each_then {R} {Q} S to (x ∷ xs) (y ∷ ys) (z ∷ zs) first second =
    (to x y z first.0 second.0, each_then {R = R} {Q = Q} S to xs ys zs first.1 second.1)

-- and so of each
pub each_also : {R : ℕ → ℕ → Type 0} (S : ℕ → ℕ → Type 0) → ((x y : ℕ) → R x y → S x y)
    → (xs ys : List ℕ) → AllZip R xs ys → AllZip S xs ys
each_also S to [] [] each = tt
each_also S to [] (y ∷ ys) each = each
each_also S to (x ∷ xs) [] each = each
each_also {R} S to (x ∷ xs) (y ∷ ys) each = (to x y each.0, each_also {R = R} S to xs ys each.1)

-- where something is known of each before
pub each_given : {P : ℕ → Type 0} {R : ℕ → ℕ → Type 0} (S : ℕ → ℕ → Type 0) → ((x y : ℕ) → P x → R x y → S x y)
    → (xs ys : List ℕ) → All P xs → AllZip R xs ys → AllZip S xs ys
each_given S to [] [] all each = tt
each_given S to [] (y ∷ ys) all each = each
each_given S to (x ∷ xs) [] all each = each
each_given {P} {R} S to (x ∷ xs) (y ∷ ys) all each =
    (to x y (all_first P x xs all) each.0, each_given {P = P} {R = R} S to xs ys (all_others P x xs all) each.1)

-- of those alone
pub all_then : {R : ℕ → ℕ → Type 0} (P : ℕ → Type 0) → ((x y : ℕ) → R x y → P y)
    → (xs ys : List ℕ) → AllZip R xs ys → All P ys
all_then P to [] [] each = λ k d inside. absurd (omega arith)
all_then P to [] (y ∷ ys) each = absurd each
all_then P to (x ∷ xs) [] each = absurd each
all_then {R} P to (x ∷ xs) (y ∷ ys) each =
    All-cons P y ys (to x y each.0) (all_then {R = R} P to xs ys each.1)

-- what a function gives of each
pub each_of : (f : ℕ → ℕ) (xs : List ℕ) → AllZip (λ x r. r ≡ f x) xs (map f xs)
each_of f [] = tt
each_of f (x ∷ xs) = (refl, each_of f xs)

-- of four of them
pub all_four : (P : ℕ → Type 0) (a b c d : ℕ) → P a → P b → P c → P d → All P (a ∷ b ∷ c ∷ d ∷ [])
all_four P a b c d first second third fourth =
    let none : All P [] = λ k e inside. absurd (omega arith) in
    All-cons P a (b ∷ c ∷ d ∷ []) first
    (All-cons P b (c ∷ d ∷ []) second (All-cons P c (d ∷ []) third (All-cons P d [] fourth none)))
