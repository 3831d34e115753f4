-- Things taken in a row: one more, and a refusal on the way. No contract cites this file. Assumes nothing.
use Prim.Native.Nat.{ℕ, zero, suc, ◌+◌, ◌<◌}
use mathlib.Core.Path.{◌≡◌}
use mathlib.Core.List.{List, [], ◌∷◌, ◌++◌}
use native.Mathlib.Nat.{add-zero, add-suc, le_dest}
use native.Mathlib.Numerals.{add-one}
use Rattle.outcomes.specs.Outcome.{gives, refuses}
use Rattle.taking.specs.Reading.{Taker, Taken, in_row}

module _ {A : Type 0} (one : List A → Taker A) (image : List ℕ) (at : ℕ) where
  -- one more was taken
  pub row_more : (i : ℕ) (before : Taken (List A)) (next : Taken A)
      → in_row i one image at ≡ gives before → one before.value image before.next ≡ gives next
      → in_row (i + 1) one image at ≡ gives (record { value = before.value ++ next.value ∷ []; next = next.next })
  unfolding in_row
  row_more i before next row taken = rw (add-one, row, taken)

  -- one more was refused
  row_one_refused : (i : ℕ) (before : Taken (List A)) (n p : ℕ)
      → in_row i one image at ≡ gives before → one before.value image before.next ≡ refuses n p
      → in_row (suc i) one image at ≡ refuses n p
  unfolding in_row
  row_one_refused i before n p row refused = rw (row, refused)

  stays_refused : (i d n p : ℕ) → in_row i one image at ≡ refuses n p → in_row (i + d) one image at ≡ refuses n p
  unfolding in_row
  stays_refused i zero n p refused = rw add-zero refused
  stays_refused i (suc d) n p refused = rw (add-suc, stays_refused i d n p refused)

  -- a refusal on the way is the row's refusal
  pub row_refused : (i count : ℕ) (before : Taken (List A)) (n p : ℕ) → i < count
      → in_row i one image at ≡ gives before → one before.value image before.next ≡ refuses n p
      → in_row count one image at ≡ refuses n p
  row_refused i count before n p more row refused =
      let rest = le_dest more in
      rw (← rest.1) (stays_refused (suc i) rest.0 n p (row_one_refused i before n p row refused))
