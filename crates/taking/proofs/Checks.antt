-- What is known of a value that was read: each field passed its check, one after the other, and each of a row did.
-- Assumes nothing.
use Prim.Native.Nat.{ℕ, zero, suc, ◌<◌, ◌^◌}
use mathlib.Core.Bool.{Bool, true, false}
use mathlib.Core.Path.{◌≡◌, refl, sym, ap, ◌∙◌, subst}
use mathlib.Core.List.{List, [], ◌∷◌, ◌++◌}
use native.Mathlib.Numerals.{add-one}
use lib.ListN.{length, length-append}
use Rattle.bits.proofs.Fields.{field_below}
use Rattle.outcomes.specs.Outcome.{Outcome, gives, refuses, asked_of}
use Rattle.taking.proofs.FieldLaws.{taken_field}
use Rattle.taking.specs.Reading.{Taker, Taken, done, ◌then◌, field, in_row, check}
use Rattle.outcomes.proofs.Outcomes.{same_given, gives_no_refusal}
use Rattle.lists.proofs.All.{All, all_append}

-- whatever value the taker gives has the property
abbrev pub Checks : {A : Type 0} → (A → Type 0) → Taker A → Type 0
Checks P taker = (image : List ℕ) (at : ℕ) (given : Taken _) → taker image at ≡ gives given → P given.value

-- of any taker
pub checks_nothing : {A : Type 0} (taker : Taker A) → Checks (λ a. Unit {0}) taker
checks_nothing taker image at given e = tt

pub done_checks : {A : Type 0} (P : A → Type 0) (a : A) → P a → Checks P (done a)
done_checks P a of_a image at given e = subst (λ taken. P taken.value) (same_given e) of_a

-- one after the other
pub then_checks : {A B : Type 0} (P : A → Type 0) (Q : B → Type 0) (first : Taker A) (rest : A → Taker B)
    → Checks P first → ((a : A) → P a → Checks Q (rest a)) → Checks Q (first then rest)
then_checks P Q first rest of_first of_rest image at given e = go (first image at) (of_first image at) e
  where
    go : (outcome : Outcome (Taken _)) → ((taken : Taken _) → outcome ≡ gives taken → P taken.value)
        → asked_of outcome (λ taken. rest taken.value image taken.next) ≡ gives given → Q given.value
    go (gives taken) is e = of_rest taken.value (is taken refl) image taken.next given e
    go (refuses number place) is e = absurd (gives_no_refusal (sym e))

-- a field that was taken passed its check
pub field_checks : (width number : ℕ) (right : ℕ → Bool)
    → Checks (λ value. right value ≡ true) (field width number right)
field_checks width number right image at given e =
    let of_field = taken_field width number right at image given e in
    subst (λ taken. right taken.value ≡ true) of_field.is of_field.passed

-- and has no more than its bits
pub field_narrow : (width number : ℕ) (right : ℕ → Bool)
    → Checks (λ value. value < 2 ^ width) (field width number right)
field_narrow width number right image at given e =
    subst (λ taken. taken.value < 2 ^ width) (taken_field width number right at image given e).is
    (field_below image at width)

-- a check that was passed holds
pub check_checks : (right : Bool) (number place : ℕ) → Checks (λ passed. right ≡ true) (check right number place)
unfolding check
check_checks true number place image at given e = refl
check_checks false number place image at given e = absurd (gives_no_refusal (sym e))

-- a row that was taken has so many, each as one that was taken
pub row_checks : {A : Type 0} (P : A → Type 0) (one : List A → Taker A) → ((before : List A) → Checks P (one before))
    → (n : ℕ) → Checks (λ row. (length row ≡ n) × All P row) (in_row n one)
unfolding in_row
row_checks P one each zero = done_checks (λ row. (length row ≡ 0) × All P row) [] (refl, tt)
row_checks P one each (suc n) =
    then_checks (λ row. (length row ≡ n) × All P row) (λ row. (length row ≡ suc n) × All P row) (in_row n one)
    (λ before. one before then λ next. done (before ++ next ∷ [])) (row_checks P one each n)
    (λ before so_far.
    then_checks P (λ row. (length row ≡ suc n) × All P row) (one before) (λ next. done (before ++ next ∷ []))
    (each before)
    (λ next of_next.
    done_checks (λ row. (length row ≡ suc n) × All P row) (before ++ next ∷ []) (
      length-append before (next ∷ []) ∙ add-one (length before) ∙ ap suc so_far.0,
      all_append P before (next ∷ []) so_far.1 (of_next, tt),
    )))
