-- How many paths are counted once starts have been published: none more where they have the same end as the one before
-- them, and else one more. No contract cites this file. Assumes nothing.
use Prim.Native.Nat.{ℕ, suc, ◌-◌, ◌<◌, ◌≤◌, min}
use mathlib.Core.Path.{◌≡◌, refl, sym, ap, ◌∙◌}
use mathlib.Core.Logic.{by_cases}
use mathlib.Core.List.{List}
use native.Mathlib.Decide.{dec_lt}
use native.Mathlib.Omega.{arith}
use lib.ListN.{get_or}
use Rattle.times.specs.Releases.{every, release}
use Rattle.times.proofs.Releases.{release_number}
use Rattle.times.proofs.ReleaseNumbers.{release_next}
use Rattle.ages.specs.Ages.{last_period, end_of, is_basic}
use Rattle.following.specs.Following.{chain_by}
use Rattle.following.proofs.Chains.{chain_last}
use Rattle.path_sums.specs.declared.Walk.{Walk}
use Rattle.path_sums.specs.Sums.{Sums, with_path, moved_to}
use Rattle.paths.specs.Walks.{paths_below, starts, Walks, Walking}
use Rattle.paths.proofs.Inside.{number_inside, number_below}
use Rattle.paths.proofs.Stretches.{Alike, is_basic_lem, paths_alike, paths_more, release_rises}
use Rattle.path_sums.proofs.SumsMore.{sums_more}
use Rattle.paths.proofs.Turns.{next_instant, next_start, next_end, published_again, own_start, sums_moved}
use Rattle.paths.proofs.Turns.{later_start, published_alike, next_ends, no_earlier}

module _ (periods : List ℕ) {count at round : ℕ} {walk : Walk} (walking : Walking periods count at round walk)
    (other : ¬ (next_start periods walking ≡ walk.start))
  where
    -- the starts that were published
    alike : Alike (chain_by periods count) (suc walk.start) (next_start periods walking) (next_end periods walking)
    alike = published_alike periods walking other

    -- the number of the last of them, and of the starts that are counted then
    next_number : (k : ℕ) × (release (every (get_or periods 0 0)) k ≡ next_start periods walking)
    next_number = release_number (every (get_or periods 0 0)) (next_start periods walking) alike.start

    abbrev counted_to : ℕ
    counted_to = min next_number.0 (starts periods round)

    abbrev number : ℕ
    number = walking.walks.number

    counted_more : (min number (starts periods round) ≡ number) × (number < counted_to)
    counted_more =
        let first = every (get_or periods 0 0) in
        let inside = number_inside periods walking in
        let less : number < next_number.0 =
        number_below first number next_number.0
        (omega (arith, walking.walks.numbered, next_number.1, later_start periods walking other)) in
        (omega arith, omega arith)

    counted_before : release (every (get_or periods 0 0)) counted_to ≤ next_start periods walking
    counted_before =
        omega (
          arith,
          next_number.1,
          release_rises (every (get_or periods 0 0)) counted_to next_number.0 (omega arith),
        )

    -- the walk moves on, with the paths that are counted then
    abbrev moved : Walk → Walk
    moved counted = moved_to counted (next_instant periods walking) (next_start periods walking) (next_end periods walking)

    walks_on : (counted : Walk)
        → Sums (chain_by periods count) (paths_below (chain_by periods count) counted_to) counted
        → Walks periods count at round (moved counted)
    walks_on counted sums = record {
      published = published_again periods walking;
      start = refl;
      end = sym (next_ends periods walking other);
      number = next_number.0;
      numbered = next_number.1;
      sums = sums_moved (chain_by periods count) _ counted _ _ _ sums;
    }

    first_timed : 0 < get_or periods 0 0
    first_timed = omega (arith, walking.right.right.each 0 (omega (arith, walking.inside)))

    -- starts with the same end as the one before
    pub same_end : next_end periods walking ≡ walk.end → Walks periods count at round (moved walk)
    same_end same =
        let chain = chain_by periods count in
        let from_start : Alike chain walk.start (next_start periods walking) (next_end periods walking) = record {
          start = alike.start;
          ends = λ t start late before.
              by_cases (dec_lt walk.start t) (λ more. alike.ends t start more before)
              (λ none.
              let own : t ≡ walk.start = omega arith in
              ap (end_of chain) own ∙ sym walking.walks.end ∙ sym same);
        } in
        let none = paths_alike chain first_timed from_start number counted_to
        (omega (arith, counted_more.1)) (omega (arith, walking.walks.numbered)) counted_before in
        walks_on walk (rw (none, ← counted_more.0) walking.walks.sums)

    -- and with a later one: a basic path more
    pub new_path : ¬ (next_end periods walking ≡ walk.end)
        → Walks periods count at round
        (moved (with_path walk (get_or periods 0 0) (get_or periods (count - 1) 0) (next_end periods walking)))
    new_path later =
        let chain = chain_by periods count in
        let first = every (get_or periods 0 0) in
        let walks = walking.walks in
        let basic = is_basic_lem chain first_timed alike walk.start (own_start periods walking)
        (omega (arith, first_timed)) (later_start periods walking other)
        (omega (arith, no_earlier periods walking other, walks.end)) in
        let none = paths_alike chain first_timed alike (suc number) counted_to
        (omega (arith, counted_more.1)) (omega (arith, walks.numbered, release_next first number, first_timed))
        counted_before in
        let one = paths_more chain number (ap (is_basic chain) walks.numbered ∙ basic.0) in
        let more = sums_more chain _ walk (rw counted_more.0 at walks.sums) _ walks.end basic.1 in
        rw (← chain_last periods count)
        (walks_on (with_path walk (get_or periods 0 0) (last_period chain) (next_end periods walking))
        (rw (none, one, walks.numbered) more))
