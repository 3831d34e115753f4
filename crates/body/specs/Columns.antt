-- Things of several fields, taken in a row into arrays, one array for each field. Document 01, Numbers that say no: "On
-- success a listing fills the first bytes of the buffer .. and the bytes after them keep their values. So do the entries
-- past the answer in any other lent buffer or list." No contract of a question cites this file. Assumes nothing.
use Rattle.std.specs.Prelude.{ℕ, ◌+◌, ◌*◌, ◌≡◌, List, [], ◌∷◌, map, Result}
use Rattle.lists.specs.Lists.{over}
use Rattle.taking.specs.Reading.{Taker, in_row}
use Rattle.table.specs.declared.Refused.{Refused}
use Rattle.fields.specs.TakenTo.{taken_as}

-- of each column the array that holds it: the values' entries, over what the array held
abbrev pub columns_over : {A : Type 0} → List (A → ℕ) → List A → List (List ℕ) → List (List ℕ)
columns_over [] values held = []
columns_over (column ∷ columns) values [] = []
columns_over (column ∷ columns) values (first ∷ held) = over (map column values) first ∷ columns_over columns values held

-- so many in a row from bit `at` on, each of `step` bits, with the bit after them, or the refusal's number and place;
-- the arrays, which held `held`, hold the columns of those that were taken
pub record RowRead {A : Type 0} (step : ℕ) (one : Taker A) (columns : List (A → ℕ)) (image : List ℕ) (at count : ℕ)
    (r : Result (Unit {0}) Refused) (held arrays : List (List ℕ)) : Type 0 where
  pub values : List A
  pub said : taken_as (λ done. values) (at + step * count) r ≡ in_row count (λ before. one) image at
  pub holds : arrays ≡ columns_over columns values held
