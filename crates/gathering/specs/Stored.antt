-- Counters that stand first in a lent array, over what it held. Document 01, Numbers that say no: the bytes after a
-- listing keep their values; "So do the entries past the answer in any other lent buffer or list." Assumes nothing.
use Rattle.std.specs.Prelude.{ℕ, List, ◌++◌, map, ◌≡◌, length}
use Rattle.lists.specs.Lists.{over}

-- the array holds the counters of these pairs, so many, over what it held
pub record Stored (counter : ℕ → ℕ) (pairs held : List ℕ) (count : ℕ) (array : List ℕ) : Type 0 where
  pub many : count ≡ length pairs
  pub holds : array ≡ over (map counter pairs) held

-- whatever pairs the array held the counters of, it now holds those of these pairs after them
abbrev pub Adds : (counter : ℕ → ℕ) (pairs : List ℕ) (count : ℕ) (array : List ℕ) (more : ℕ) (then : List ℕ) → Type 0
Adds counter pairs count array more then =
    (before held : List ℕ) → Stored counter before held count array → Stored counter (before ++ pairs) held more then
