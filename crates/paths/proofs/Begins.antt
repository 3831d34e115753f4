-- Where a walk begins, and where it ends: at first no path has been counted, since the starts up to the last one that is
-- published with the first have the same end; and at the round's end all paths of the round have. No contract cites this
-- file. Assumes nothing.
use Prim.Native.Nat.{ℕ, suc, ◌<◌, ◌≤◌, min}
use mathlib.Core.Path.{◌≡◌, refl, sym, ap, ◌∙◌}
use mathlib.Core.Logic.{by_cases}
use mathlib.Core.List.{List, []}
use native.Mathlib.Nat.{le_refl}
use native.Mathlib.Decide.{dec_le}
use native.Mathlib.Omega.{arith}
use lib.ListN.{get_or}
use Rattle.lists.specs.Lists.{each_below}
use Rattle.times.specs.Releases.{every}
use Rattle.times.proofs.Releases.{release_number}
use Rattle.times.proofs.ReleaseNumbers.{release_next}
use Rattle.following.specs.Following.{chain_by, passed, tasks_from, last_start, end_from, RightPeriods, PublishedAt}
use Rattle.following.specs.Following.{PassesOn}
use Rattle.following.proofs.Backwards.{passed_rises}
use Rattle.following.proofs.Ends.{end_from_lem, tasks_timed, passed_at_soon}
use Rattle.following.proofs.Starts.{published_released, last_is_start, by_start}
use Rattle.path_sums.specs.declared.Walk.{Walk}
use Rattle.paths.specs.Walks.{paths_below, starts, RightChain, SumsOfRound, Walks, first_walk}
use Rattle.paths.proofs.Inside.{zero_released, release_of_round}
use Rattle.paths.proofs.Stretches.{Alike, paths_alike, release_rises}
use Rattle.path_sums.proofs.SumsMore.{sums_none}

-- some of the periods
pub fewer : {periods : List ℕ} {count : ℕ} → RightPeriods periods count → (n : ℕ) → n ≤ count → RightPeriods periods n
fewer right n few = record {
  few = omega (arith, right.few);
  each = λ i below. right.each i (omega arith);
}

module _ (periods : List ℕ) {count at round : ℕ} (right : RightChain periods count round) (inside : at < count) where
  -- the first start is published
  abbrev pub first_instant : ℕ
  first_instant = passed (tasks_from periods 1 at) 0

  pub first_published : PublishedAt periods at first_instant
  first_published = record {
    right = fewer right.right (suc at) inside;
    since = le_refl first_instant;
    released = published_released periods at 0 (zero_released (every (get_or periods 0 0)));
  }

  pub first_passes_on : PassesOn periods at count first_instant
  first_passes_on = record {
    right = right.right;
    some = right.some;
    inside = inside;
    since = le_refl first_instant;
    near = omega (arith, passed_at_soon periods right.right right.some inside 0, right.right.few);
  }

  pub first_near : first_instant ≤ 32000000
  first_near = omega (arith, passed_at_soon periods right.right right.some inside 0, right.right.few)

  -- and with it the starts up to the last one then
  first_alike
      : Alike (chain_by periods count) 0 (last_start periods at first_instant) (end_from periods at count first_instant)
  first_alike = record {
    start = last_is_start periods first_published;
    ends = λ t start late before.
        let tasks = tasks_from periods 1 at in
        let timed = tasks_timed periods right.right right.some inside 1 at (omega arith) in
        let together : passed tasks t ≡ first_instant =
        omega (arith, passed_rises tasks timed 0 t late, by_start periods first_published t before) in
        end_from_lem periods right.right right.some inside t ∙ ap (end_from periods at count) together;
  }

  first_timed : 0 < get_or periods 0 0
  first_timed = omega (arith, right.right.each 0 (omega arith))

  pub begun : Walks periods count at round (first_walk periods at count)
  unfolding paths_below each_below
  begun =
      let chain = chain_by periods count in
      let first = every (get_or periods 0 0) in
      let alike = first_alike in
      let (number, numbered) = release_number first (last_start periods at first_instant) alike.start in
      let to = min number (starts periods round) in
      let none : paths_below chain to ≡ [] =
      paths_alike chain first_timed alike 0 to (omega arith) (omega arith)
      (omega (arith, release_rises first to number (omega arith))) in
      record {
        published = first_published;
        start = refl;
        end = sym (alike.ends _ alike.start (omega arith) (omega arith));
        number = number;
        numbered = numbered;
        sums = rw none (sums_none chain _ _ _);
      }

  -- all paths of the round
  pub all_counted : {walk : Walk} → Walks periods count at round walk → round ≤ walk.start
      → SumsOfRound periods count round walk
  all_counted walks past =
      let first = every (get_or periods 0 0) in
      let n = starts periods round in
      let number = walks.number in
      let all : n ≤ number =
      by_cases (dec_le n number) (λ h. h)
      (λ less. absurd (omega (
        arith,
        first_timed,
        walks.numbered,
        release_next first number,
        release_rises first (suc number) n (omega arith),
        release_of_round first round right.whole,
      ))) in
      let last : min number n ≡ n = omega arith in
      rw last at walks.sums
