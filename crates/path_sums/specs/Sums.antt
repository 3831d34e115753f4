-- What was counted of the basic paths of a chain. No contract of a question cites this file. Assumes nothing.
use Rattle.std.specs.Prelude.{ℕ, zero, suc, ◌+◌, ◌-◌, min, max, ◌≡◌, List, map, length}
use Rattle.ages.specs.Ages.{Chain, length_of, age_of, largest, least}
use Rattle.path_sums.specs.declared.Walk.{Walk}

-- the least age, one more taken; the first is the least
abbrev pub least_with : (paths best age : ℕ) → ℕ
least_with zero best age = age
least_with (suc more) best age = min best age

-- these paths were counted: how many, the longest length, the worst and the best age
pub record Sums (chain : Chain) (found : List ℕ) (walk : Walk) : Type 0 where
  pub paths : walk.paths ≡ length found
  pub longest : walk.longest ≡ largest (map (length_of chain) found)
  pub worst : walk.worst ≡ largest (map (age_of chain) found)
  pub best : walk.best ≡ least (map (age_of chain) found)

-- the walk with one path more: the one that starts and ends where the walk has come to, the next start having that end;
-- of a chain with this first period and this last one
abbrev pub with_path : Walk → (first last next : ℕ) → Walk
with_path walk first last next = record {
  instant = walk.instant;
  start = walk.start;
  end = walk.end;
  paths = walk.paths + 1;
  longest = max walk.longest (walk.end - walk.start);
  worst = max walk.worst (first + next - walk.start + last);
  best = least_with walk.paths walk.best (first + next - walk.start + last);
}

-- the walk that has come to another start, with the same sums
abbrev pub moved_to : Walk → (instant start end : ℕ) → Walk
moved_to walk instant start end = record {
  instant = instant;
  start = start;
  end = end;
  paths = walk.paths;
  longest = walk.longest;
  worst = walk.worst;
  best = walk.best;
}
