-- What is left of a mask from a task on: nothing where no task from there on is marked, and else the next one, and what is
-- left after it. No contract cites this file. Assumes nothing.
use Prim.Native.Nat.{ℕ, ◌+◌, ◌*◌, ◌-◌, ◌/◌, ◌%◌, ◌^◌, ◌<◌, ◌≤◌}
use mathlib.Core.Path.{◌≡◌, refl, ap, ◌∙◌}
use mathlib.Core.Bool.{true, false}
use native.Mathlib.Decide.{le_ind}
use native.Mathlib.Nat.{mod-lt, mod-one}
use native.Mathlib.Numerals.{add-one}
use native.Mathlib.Omega.{arith}
use lib.Dec.{lit<}
use lib.Pow.{mod-pow-add}
use borrow.Author.Tests.{lt-ltb, eqb-true, eqb-false}
use Rattle.table.specs.Table.{marks}
use Rattle.readers.specs.NextReader.{next_reader}
use Rattle.readers.proofs.Walk.{Unmarked, next_within, next_from, next_marked, none_between}

-- the bits of the tasks from one on
abbrev pub rest_from : (mask from : ℕ) → ℕ
rest_from mask from = mask % 2 ^ (32 - from)

module _ (mask : ℕ) where
  -- a task's own bit, and what is left after it
  by_one : (j : ℕ) → j < 32 → rest_from mask j ≡ mask / 2 ^ (31 - j) % 2 * 2 ^ (31 - j) + rest_from mask (j + 1)
  by_one j known =
      let place : 32 - j ≡ 1 + (31 - j) = omega arith in
      let next : 31 - j ≡ 32 - (j + 1) = omega arith in
      ap (λ k. mask % 2 ^ k) place
      ∙ mod-pow-add mask 1 (31 - j)
      ∙ ap (λ k. mask / 2 ^ (31 - j) % 2 * 2 ^ (31 - j) + mask % 2 ^ k) next

  rest_marked : (j : ℕ) → j < 32 → marks mask j ≡ true → rest_from mask j ≡ 2 ^ (31 - j) + rest_from mask (j + 1)
  unfolding marks
  rest_marked j known marked =
      let bit = eqb-true (mask / 2 ^ (31 - j) % 2) 1 (rw (lt-ltb j 32 known) at marked) in
      by_one j known ∙ rw bit (omega arith)

  rest_unmarked : (j : ℕ) → j < 32 → marks mask j ≡ false → rest_from mask j ≡ rest_from mask (j + 1)
  unfolding marks
  rest_unmarked j known unmarked =
      let low : mask / 2 ^ (31 - j) % 2 < 2 = mod-lt (mask / 2 ^ (31 - j)) (lit< tt) in
      let other = eqb-false (mask / 2 ^ (31 - j) % 2) 1 (rw (lt-ltb j 32 known) at unmarked) in
      let bit : mask / 2 ^ (31 - j) % 2 ≡ 0 = omega (arith, low, other) in
      by_one j known ∙ rw bit (omega arith)

  -- no task from one up to another is marked
  rest_on : (from to : ℕ) → from ≤ to → to ≤ 32 → Unmarked mask from to → rest_from mask from ≡ rest_from mask to
  rest_on from to =
      le_ind (λ to. to ≤ 32 → Unmarked mask from to → rest_from mask from ≡ rest_from mask to)
      (λ few none. refl)
      (λ to late before few none.
      before (omega arith) (λ j after less. none j after (omega arith))
      ∙ rest_unmarked to (omega arith) (none to late (omega arith))
      ∙ ap (λ to. rest_from mask to) (add-one to)) to

  module _ (from : ℕ) (few : from ≤ 32) where
    to_next : rest_from mask from ≡ rest_from mask (next_reader mask from)
    to_next = rest_on from _ (next_from mask from few) (next_within mask from) (none_between mask from)

    -- no reader is left: nothing
    pub rest_none : next_reader mask from ≡ 32 → rest_from mask from ≡ 0
    rest_none end = to_next ∙ rw end (mod-one mask)

    -- a next reader: its bit and what is left after it
    pub rest_next : next_reader mask from < 32 → rest_from mask from
        ≡ 2 ^ (31 - next_reader mask from) + rest_from mask (next_reader mask from + 1)
    rest_next below = to_next ∙ rest_marked _ below (next_marked mask from below)
