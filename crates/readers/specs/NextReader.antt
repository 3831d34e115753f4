-- The next reader of a label. Document 01, Copies and frames: "within a label, rising task". A label's readers are gone
-- through from one to the next. Assumes nothing.
use Rattle.std.specs.Prelude.{ℕ, zero, suc, Bool, cond, ◌&&◌, leb, List}
use Rattle.lists.specs.Lists.{each_below, only_if}
use Rattle.table.specs.Table.{marks}

-- the first number below the bound that passes the test; the bound where none passes
unfoldable pub first_below : ℕ → (ℕ → Bool) → ℕ
first_below zero test = 0
first_below (suc n) test = cond (test 0) 0 (suc (first_below n (λ k. test (suc k))))

-- the first task at or after `from` that a readers field marks; 32 where there is none
unfoldable pub next_reader : (readers from : ℕ) → ℕ
next_reader readers from = first_below 32 (λ r. leb from r && marks readers r)

-- the tasks that a readers field marks, by rising number; and those of them at or after `from`
unfoldable pub readers_in : (readers : ℕ) → List ℕ
readers_in readers = each_below 32 (λ r. only_if (marks readers r) r)

unfoldable pub readers_from : (readers from : ℕ) → List ℕ
readers_from readers from = each_below 32 (λ r. only_if (leb from r && marks readers r) r)
