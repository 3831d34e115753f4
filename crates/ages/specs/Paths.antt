-- The basic paths of every round, and those that are counted, which only theorems speak of: no contract of a question
-- cites this file. Document 01, Age of a chain; document 02, C-11. Assumes nothing.
use Rattle.std.specs.Prelude.{ℕ, true, ◌≡◌}
use mathlib.Core.List.{Memᴰ, map}
use Rattle.times.specs.Releases.{is_release}
use Rattle.ages.specs.Ages.{Chain, is_basic, basic_paths, age_at_release, largest, least}

-- a basic path of any round: its start is a release of the first task, however late
pub record Path (chain : Chain) (t : ℕ) : Type 0 where
  pub start : is_release chain.first t ≡ true
  pub basic : is_basic chain t ≡ true

-- a basic path that is counted: one of the starts "from 0 up to, and without," the chain's own round
abbrev pub Counted : Chain → ℕ → Type 0
Counted chain t = Memᴰ t (basic_paths chain)

-- document 01's worst age and best age, which go to the release of the last task only
unfoldable pub worst_at_release : Chain → ℕ
worst_at_release chain = largest (map (age_at_release chain) (basic_paths chain))

unfoldable pub best_at_release : Chain → ℕ
best_at_release chain = least (map (age_at_release chain) (basic_paths chain))
