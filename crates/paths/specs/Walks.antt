-- How far a chain was gone along, and what was counted on the way. No contract of a question cites this file. Assumes
-- nothing.
use Rattle.std.specs.Prelude.{ℕ, ◌+◌, ◌/◌, ◌<◌, ◌≤◌, min, ◌≡◌, List, get_or}
use Rattle.std.specs.Int.{◌∣◌}
use Rattle.lists.specs.Lists.{each_below, only_if}
use Rattle.times.specs.Releases.{release}
use Rattle.ages.specs.Ages.{Chain, end_of, is_basic}
use Rattle.following.specs.Following.{chain_by, passed, tasks_from, last_start, end_from, RightPeriods, PublishedAt}
use Rattle.path_sums.specs.Sums.{Sums}
use Rattle.path_sums.specs.declared.Walk.{Walk}

-- the basic paths among the first n starts
unfoldable pub paths_below : Chain → ℕ → List ℕ
paths_below chain n = each_below n (λ k. let t : ℕ = release chain.first k in only_if (is_basic chain t) t)

-- a chain of a table, and a round of it
pub record RightChain (periods : List ℕ) (count round : ℕ) : Type 0 where
  pub right : RightPeriods periods count
  pub some : 2 ≤ count
  pub short : round ≤ 1000000
  pub whole : get_or periods 0 0 ∣ round

-- how many starts a round has
abbrev pub starts : List ℕ → ℕ → ℕ
starts periods round = round / get_or periods 0 0

-- the basic paths of a round were counted
abbrev pub SumsOfRound : List ℕ → ℕ → ℕ → Walk → Type 0
SumsOfRound periods count round walk =
    Sums (chain_by periods count) (paths_below (chain_by periods count) (starts periods round)) walk

-- at an instant at which the task publishes: the last start that it has published, that start's end, and the paths
-- before that start, as far as the round goes
pub record Walks (periods : List ℕ) (count at round : ℕ) (walk : Walk) : Type 0 where
  pub published : PublishedAt periods at walk.instant
  pub start : walk.start ≡ last_start periods at walk.instant
  pub end : walk.end ≡ end_of (chain_by periods count) walk.start
  pub number : ℕ
  pub numbered : release (chain_by periods count).first number ≡ walk.start
  pub sums : Sums (chain_by periods count) (paths_below (chain_by periods count) (min number (starts periods round))) walk

-- the walk at the instant at which the task publishes the first start
abbrev pub first_walk : (periods : List ℕ) (at count : ℕ) → Walk
first_walk periods at count = record {
  instant = passed (tasks_from periods 1 at) 0;
  start = last_start periods at (passed (tasks_from periods 1 at) 0);
  end = end_from periods at count (passed (tasks_from periods 1 at) 0);
  paths = 0;
  longest = 0;
  worst = 0;
  best = 0;
}

-- inside a round, along the releases of task number `at`
pub record Walking (periods : List ℕ) (count at round : ℕ) (walk : Walk) : Type 0 where
  pub right : RightChain periods count round
  pub inside : at < count
  pub walks : Walks periods count at round walk
  pub within : walk.start < round

-- what the task publishes next, where the walk is inside the round: the last start that it has then published, and that
-- start's end
pub record Taking (periods : List ℕ) (count at round : ℕ) (walk : Walk) (instant start end : ℕ) : Type 0 where
  pub right : RightChain periods count round
  pub inside : at < count
  pub walks : Walks periods count at round walk
  pub next : walk.start < round → instant ≡ walk.instant + get_or periods at 0
  pub last : start ≡ last_start periods at instant
  pub ends : end ≡ end_from periods at count instant

-- the walk has gone on to that instant, unless the round was over
pub record Taken (periods : List ℕ) (count at round : ℕ) (walk : Walk) (instant : ℕ) (r : Walk) : Type 0 where
  pub walks : Walks periods count at round r
  pub on : r.start < round → r.instant ≡ instant
  pub no_earlier : walk.instant ≤ r.instant
  pub later : walk.start < round → walk.instant < r.instant
