-- From one release of a task of the chain to its next: no start is published, or starts with the same end. No contract
-- cites this file. Assumes nothing.
use Prim.Native.Nat.{ℕ, suc, ◌+◌, ◌-◌, ◌<◌, ◌≤◌, ◌^◌}
use mathlib.Core.Path.{◌≡◌, refl, sym, ap, ◌∙◌}
use mathlib.Core.Bool.{true}
use mathlib.Core.List.{List}
use native.Mathlib.Omega.{arith}
use lib.ListN.{get_or}
use Rattle.times.specs.Releases.{every, is_release}
use Rattle.table.specs.Rules.{FromTo}
use Rattle.ages.specs.Ages.{Chain, end_of}
use Rattle.ages.proofs.Rising.{end_rises}
use Rattle.following.specs.Following.{chain_by, last_start, end_from, PublishedAt, PassesOn}
use Rattle.following.proofs.Ends.{chain_timed, end_from_lem, end_from_soon}
use Rattle.following.proofs.Starts.{last_is_start, start_by, by_start, published_next, published_then}
use Rattle.path_sums.specs.declared.Walk.{Walk}
use Rattle.path_sums.specs.Sums.{Sums, moved_to}
use Rattle.paths.specs.Walks.{Walks, Walking}
use Rattle.paths.proofs.Inside.{instant_near, end_after, few_paths}
use Rattle.paths.proofs.Stretches.{Alike}

-- the same sums at another start
pub sums_moved : (chain : Chain) (found : List ℕ) (walk : Walk) (instant start end : ℕ) → Sums chain found walk
    → Sums chain found (moved_to walk instant start end)
sums_moved chain found walk instant start end sums = record {
  paths = sums.paths;
  longest = sums.longest;
  worst = sums.worst;
  best = sums.best;
}

module _ (periods : List ℕ) {count at round : ℕ} {walk : Walk} (walking : Walking periods count at round walk) where
  -- the instant at which the task publishes next, and the last start then
  abbrev pub next_instant : ℕ
  next_instant = walk.instant + get_or periods at 0

  abbrev pub next_start : ℕ
  next_start = last_start periods at next_instant

  abbrev pub next_end : ℕ
  next_end = end_from periods at count next_instant

  pub published_again : PublishedAt periods at next_instant
  published_again = published_next periods walking.walks.published

  -- up to four periods later the chain can be followed
  pub passes_on : {x : ℕ} → PublishedAt periods at x → x ≤ walk.instant + 4000000 → PassesOn periods at count x
  passes_on published soon =
      let right = walking.right in
      record {
        right = right.right;
        some = right.some;
        inside = walking.inside;
        since = published.since;
        near = omega (arith, instant_near periods walking, walking.inside, right.right.few);
      }

  pub near : (x : ℕ) → x ≤ walk.instant + 4000000 → x ≤ 32000000
  near x soon =
      omega (arith, instant_near periods walking, walking.inside, walking.right.right.few)

  pub period_small : FromTo 1 1000000 (get_or periods at 0)
  period_small = walking.right.right.each at walking.inside

  -- no start is published
  pub no_start : next_start ≡ walk.start → Walks periods count at round (moved_to walk next_instant next_start walk.end)
  no_start same =
      let walks = walking.walks in
      record {
        published = published_again;
        start = refl;
        end = walks.end ∙ ap (end_of (chain_by periods count)) (sym same);
        number = walks.number;
        numbered = walks.numbered ∙ sym same;
        sums = sums_moved (chain_by periods count) _ walk _ _ _ walks.sums;
      }

  pub own_start : is_release (every (get_or periods 0 0)) walk.start ≡ true
  own_start = rw walking.walks.start (last_is_start periods walking.walks.published)

  module _ (other : ¬ (next_start ≡ walk.start)) where
    pub later_start : walk.start < next_start
    later_start =
        let walks = walking.walks in
        let by = by_start periods walks.published walk.start (omega (arith, walks.start)) in
        omega (arith, start_by periods published_again walk.start own_start (omega arith))

    -- the starts that are published have the same end
    pub published_alike : Alike (chain_by periods count) (suc walk.start) next_start next_end
    published_alike =
        let right = walking.right in
        record {
          start = last_is_start periods published_again;
          ends = λ t start late before.
              end_from_lem periods right.right right.some walking.inside t
              ∙ ap (end_from periods at count)
              (published_then periods walking.walks.published t start (omega (arith, walking.walks.start)) before);
        }

    pub next_ends : end_of (chain_by periods count) next_start ≡ next_end
    next_ends = published_alike.ends next_start published_alike.start later_start (omega arith)

    pub no_earlier : walk.end ≤ next_end
    no_earlier =
        let right = walking.right in
        let timed = chain_timed periods right.right right.some walking.inside in
        omega (
          arith,
          walking.walks.end,
          next_ends,
          end_rises (chain_by periods count) timed walk.start next_start (omega (arith, later_start)),
        )

    -- its length and its age are numbers that fit
    pub path_fits : (walk.start ≤ walk.end) × (walk.end ≤ next_end)
        × (get_or periods 0 0 + next_end + get_or periods (count - 1) 0 < 2 ^ 32) × (walk.paths ≤ 1000000)
    path_fits =
        let right = walking.right in
        let soon = end_from_soon periods right.right right.some walking.inside next_instant in
        let first = right.right.each 0 (omega (arith, walking.inside)) in
        let last = right.right.each (count - 1) (omega (arith, walking.inside)) in (
          end_after periods walking,
          no_earlier,
          omega (arith, soon, first, last, near next_instant (omega (arith, period_small))),
          few_paths periods walking,
        )
