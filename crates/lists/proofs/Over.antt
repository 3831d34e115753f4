-- Entries over a list: none, one or several more stored, over a list of one filler, and as one list before another.
-- Assumes nothing.
use Prim.Native.Nat.{ℕ, zero, suc, ◌+◌, ◌-◌, ◌<◌, ◌≤◌}
use mathlib.Core.Path.{◌≡◌, refl, sym, ap, ◌∙◌}
use mathlib.Core.List.{List, [], ◌∷◌, ◌++◌, map, map-append, append-nil}
use native.Mathlib.Nat.{add-zero, sub-zero, suc-sub-suc, le_of_suc-le-suc, not-suc-le-zero}
use native.Mathlib.Omega.{arith}
use lib.ListN.{length, set, drop, replicate, length-append, length-map}
use lib.Seq.{sets, append_snoc}
use Rattle.lists.specs.Lists.{padded, over}

-- no entries
pub over_none : {A : Type 0} (held : List A) → over [] held ≡ held
unfolding over
over_none held = refl

-- one more entry was stored
pub over_more : {A : Type 0} (entries held : List A) (x : A)
    → set (over entries held) (length entries) x ≡ over (entries ++ x ∷ []) held
unfolding over
over_more [] [] x = refl
over_more [] (first ∷ held) x = refl
over_more (y ∷ entries) [] x = refl
over_more (y ∷ entries) (first ∷ held) x = ap (λ l. y ∷ l) (over_more entries held x)

-- several more entries were stored, one after the other
pub over_stored : {A : Type 0} (entries held more : List A)
    → sets (over entries held) (length entries) more ≡ over (entries ++ more) held
over_stored entries held [] = rw append-nil
over_stored entries held (x ∷ more) =
    let long : length (entries ++ x ∷ []) ≡ suc (length entries) = simp length-append (omega arith) in
    rw (over_more entries held x, ← long, ← append_snoc entries x more) (over_stored (entries ++ x ∷ []) held more)

-- the last of several that were stored
pub stored_last : {A : Type 0} (held : List A) (at : ℕ) (more : List A) (x : A)
    → sets held at (more ++ x ∷ []) ≡ set (sets held at more) (at + length more) x
stored_last held at [] x = rw add-zero
stored_last held at (y ∷ more) x =
    let place : at + suc (length more) ≡ suc at + length more = omega arith in
    rw place (stored_last (set held at y) (suc at) more x)

-- the same of a list that holds one thing of each of those that were taken
pub held_more : {A B : Type 0} (h : A → B) (taken : List A) (held : List B) (i : ℕ) (x : A)
    → length taken ≡ i → set (over (map h taken) held) i (h x) ≡ over (map h (taken ++ x ∷ [])) held
held_more h taken held i x long =
    ap (λ i. set (over (map h taken) held) i (h x)) (sym (length-map taken h ∙ long))
    ∙ over_more (map h taken) held (h x) ∙ rw map-append

-- over a list of one filler
pub over_filler : {A : Type 0} (size : ℕ) (filler : A) (entries : List A) → length entries ≤ size
    → over entries (replicate size filler) ≡ padded size filler entries
unfolding over padded
over_filler size filler [] few = rw sub-zero
over_filler zero filler (x ∷ entries) few = absurd (not-suc-le-zero few)
over_filler (suc size) filler (x ∷ entries) few =
    ap (λ l. x ∷ l) (over_filler size filler entries (le_of_suc-le-suc few) ∙ rw suc-sub-suc)

-- one more entry was stored in a padded list
pub padded_more : {A : Type 0} (size : ℕ) (filler : A) (entries : List A) (i : ℕ) (x : A)
    → length entries ≡ i → i < size
    → set (padded size filler entries) i x ≡ padded size filler (entries ++ x ∷ [])
padded_more size filler entries i x long room =
    rw (← over_filler size filler entries (omega arith), ← long)
    (over_more entries (replicate size filler) x
    ∙ over_filler size filler (entries ++ x ∷ []) (simp length-append (omega arith)))

-- where there is room, the entries and then what stays
pub over_appended : {A : Type 0} (entries held : List A) → length entries ≤ length held
    → over entries held ≡ entries ++ drop (length entries) held
unfolding over
over_appended [] held few = refl
over_appended (x ∷ entries) [] few = absurd (not-suc-le-zero few)
over_appended (x ∷ entries) (first ∷ held) few = ap (λ l. x ∷ l) (over_appended entries held (le_of_suc-le-suc few))

-- the list stays as long as it was
pub length_over : {A : Type 0} (entries held : List A) → length (over entries held) ≡ length held
unfolding over
length_over [] held = refl
length_over (x ∷ entries) [] = refl
length_over (x ∷ entries) (first ∷ held) = ap suc (length_over entries held)
