-- Numbers that come one after the other, as the labels of a mask or the readers of a label. No contract of a question
-- cites this file. Assumes nothing.
use Rattle.std.specs.Prelude.{ℕ, ◌<◌, List, IfSome, Option}
use Rattle.std.specs.Iterator.{YieldsFirst}

-- a call gives the first of those that are left, which is below the bound, and leaves the others
abbrev pub GivesBelow : (bound : ℕ) → (before : List ℕ) → (result : Option ℕ) → (after : List ℕ) → Type 0
GivesBelow bound before result after = YieldsFirst (λ left. left) before result after × IfSome result (λ n. n < bound)
