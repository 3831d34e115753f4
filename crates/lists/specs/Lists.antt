-- Searches and collections over the numbers below a bound. Document 01 counts tasks, labels, chains, ticks and n from
-- 0; where it says "at least one", "each" or "by rising", the definitions say `some_below`, `some_of`, `each_below` and
-- `each_of`. No sentence of it needs `last_below`, at which a search may begin. Assumes nothing.
use Rattle.std.specs.Prelude.{ℕ, zero, suc, ◌-◌, Bool, false, cond, ◌||◌, List, [], ◌∷◌, ◌++◌, length, replicate}

-- at least one number below the bound passes the test
unfoldable pub some_below : ℕ → (ℕ → Bool) → Bool
some_below zero test = false
some_below (suc n) test = some_below n test || test n

-- the last number below the bound that passes the test, plus one; 0 where none passes
unfoldable pub last_below : ℕ → (ℕ → Bool) → ℕ
last_below zero test = 0
last_below (suc n) test = cond (test n) (suc n) (last_below n test)

-- at least one of a list passes the test
unfoldable pub some_of : {A : Type 0} → (A → Bool) → List A → Bool
some_of test [] = false
some_of test (x ∷ xs) = test x || some_of test xs

-- what each number below the bound has to add, by rising number
unfoldable pub each_below : {A : Type 0} → ℕ → (ℕ → List A) → List A
each_below zero adds = []
each_below (suc n) adds = each_below n adds ++ adds n

-- what each entry of a list has to add, in the list's order
unfoldable pub each_of : {A B : Type 0} → List A → (A → List B) → List B
each_of [] adds = []
each_of (x ∷ xs) adds = adds x ++ each_of xs adds

-- the one thing where the test holds, and nothing where it does not
abbrev pub only_if : {A : Type 0} → Bool → A → List A
only_if test x = cond test (x ∷ []) []

-- the entries, and then `filler` up to `size` entries
unfoldable pub padded : {A : Type 0} → ℕ → A → List A → List A
padded size filler entries = entries ++ replicate (size - length entries) filler

-- the entries over the first ones of a list, as far as it goes; those after them stay
unfoldable pub over : {A : Type 0} → List A → List A → List A
over [] held = held
over (x ∷ entries) [] = []
over (x ∷ entries) (first ∷ held) = x ∷ over entries held
