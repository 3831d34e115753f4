-- Things of several fields in a row, each of `step` bits, and the arrays that hold their columns: none, one more, a
-- refusal on the way, all. No contract cites this file. Assumes nothing.
use Prim.Native.Nat.{ℕ, ◌+◌, ◌*◌, ◌<◌}
use mathlib.Core.Path.{◌≡◌, refl, sym, ap, ap₂, ◌∙◌}
use mathlib.Core.List.{List, [], ◌∷◌, ◌++◌}
use native.Mathlib.Nat.{add-zero, add_assoc, mul-zero, mul-one, mul-add}
use native.Mathlib.Omega.{arith}
use lib.ListN.{length, set, length-append}
use Rattle.std.specs.Prelude.{Result, Ok, Err}
use Rattle.lists.proofs.Over.{over_none, held_more}
use Rattle.outcomes.specs.Outcome.{gives, refuses}
use Rattle.taking.specs.Reading.{Taker, in_row}
use Rattle.taking.proofs.Rows.{row_more, row_refused}
use Rattle.table.specs.Refusals.{number_of}
use Rattle.table.specs.declared.Refused.{Refused}
use Rattle.fields.specs.TakenTo.{taken_as}
use Rattle.body.specs.Columns.{columns_over, RowRead}

-- each array after one more was stored in it: the fields of one thing, at one index
abbrev stored : {A : Type 0} → List (A → ℕ) → ℕ → A → List (List ℕ) → List (List ℕ)
stored [] i x arrays = []
stored (column ∷ columns) i x [] = []
stored (column ∷ columns) i x (first ∷ arrays) = set first i (column x) ∷ stored columns i x arrays

-- as many arrays as columns
abbrev OneEach : {A : Type 0} → List (A → ℕ) → List (List ℕ) → Type 0
OneEach columns held = length columns ≡ length held

stored_more : {A : Type 0} (columns : List (A → ℕ)) (values : List A) (held : List (List ℕ)) (i : ℕ) (x : A)
    → length values ≡ i
    → stored columns i x (columns_over columns values held) ≡ columns_over columns (values ++ x ∷ []) held
stored_more [] values held i x long = refl
stored_more (column ∷ columns) values [] i x long = refl
stored_more (column ∷ columns) values (first ∷ held) i x long =
    ap₂ (λ array arrays. array ∷ arrays) (held_more column values first i x long)
    (stored_more columns values held i x long)

stored_none : {A : Type 0} (columns : List (A → ℕ)) (held : List (List ℕ)) → OneEach columns held
    → columns_over columns [] held ≡ held
stored_none [] [] each = refl
stored_none [] (first ∷ held) each = absurd (omega arith)
stored_none (column ∷ columns) [] each = absurd (omega arith)
stored_none (column ∷ columns) (first ∷ held) each =
    ap₂ (λ array arrays. array ∷ arrays) (over_none first) (stored_none columns held (omega arith))

-- one thing, where the reader stands
pub at_place : {P A : Type 0} (one : P → Taker A) {p p' : P} {image image' : List ℕ} {at at' : ℕ}
    → p ≡ p' → image ≡ image' → at ≡ at' → one p image at ≡ one p' image' at'
at_place one {image' = image'} {at = at} same of_image of_place =
    ap₂ (λ p image. one p image at) same of_image ∙ ap (one _ image') of_place

module _ {A : Type 0} (step : ℕ) (one : Taker A) (columns : List (A → ℕ)) (image : List ℕ) (at : ℕ)
    (held : List (List ℕ)) where
  -- i of them were taken, and the arrays hold them
  pub record Passed (i : ℕ) (arrays : List (List ℕ)) : Type 0 where
    pub values : List A
    pub long : length values ≡ i
    pub row : in_row i (λ before. one) image at ≡ gives (record { value = values; next = at + step * i })
    pub holds : arrays ≡ columns_over columns values held

  pub passed_none : OneEach columns held → Passed 0 held
  unfolding in_row
  passed_none each = record {
    values = [];
    long = refl;
    row = ap (λ next. gives (record { value = []; next = next })) (sym (rw mul-zero (add-zero at)));
    holds = sym (stored_none columns held each);
  }

module _ {A : Type 0} {step : ℕ} {one : Taker A} {columns : List (A → ℕ)} {image : List ℕ} {at : ℕ}
    {held : List (List ℕ)} {i : ℕ} {arrays : List (List ℕ)} (passed : Passed step one columns image at held i arrays)
  where
    -- one more
    pub passed_more : {x : A}
        → one image (at + step * i) ≡ gives (record { value = x; next = at + step * i + step })
        → Passed step one columns image at held (i + 1) (stored columns i x arrays)
    passed_more {x} taken =
        let next : at + step * i + step ≡ at + step * (i + 1) = rw (mul-add, mul-one, add_assoc) refl in
        record {
          values = passed.values ++ x ∷ [];
          long = simp length-append (omega arith);
          row = rw (← next) (row_more (λ before. one) image at i _ _ passed.row taken);
          holds = ap (stored columns i x) passed.holds
              ∙ stored_more columns passed.values held i x passed.long;
        }

    -- a refusal of the next one is the row's refusal
    pub row_read_refused : {count : ℕ} {r : Result (Unit {0}) Refused} (refused : Refused) → i < count → r ≡ Err refused
        → one image (at + step * i) ≡ refuses (number_of refused.refusal) refused.place
        → RowRead step one columns image at count r held arrays
    row_read_refused {count} {r} refused more told off = record {
      values = passed.values;
      said = ap (taken_as (λ done. passed.values) (at + step * count)) told
          ∙ sym (row_refused (λ before. one) image at i count _ _ _ more passed.row off);
      holds = passed.holds;
    }

    -- all were taken
    pub row_read_whole : {count : ℕ} → i ≡ count → RowRead step one columns image at count (Ok tt) held arrays
    row_read_whole all = record {
      values = passed.values;
      said = rw (← all) (sym passed.row);
      holds = passed.holds;
    }
