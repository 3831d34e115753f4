-- How far the walk is after some of the next four instants. No contract cites this file. Assumes nothing.
use Prim.Native.Nat.{ℕ, ◌+◌, ◌*◌, ◌<◌, ◌≤◌}
use mathlib.Core.Path.{◌≡◌}
use mathlib.Core.Logic.{by_cases}
use mathlib.Core.List.{List}
use native.Mathlib.Decide.{dec_lt}
use native.Mathlib.Omega.{arith}
use lib.ListN.{get_or}
use Rattle.following.specs.Following.{last_start, end_from}
use Rattle.path_sums.specs.declared.Walk.{Walk}
use Rattle.paths.specs.Walks.{Walks, Walking, Taking, Taken}

-- after so many of them, unless the round was over before
pub record Reached (periods : List ℕ) (count at round : ℕ) (walk : Walk) (n : ℕ) (r : Walk) : Type 0 where
  pub walks : Walks periods count at round r
  pub on : r.start < round → r.instant ≡ walk.instant + n * get_or periods at 0
  pub no_earlier : walk.instant ≤ r.instant
  pub inside : n ≡ 0 → r.start < round
  pub later : 0 < n → walk.instant < r.instant

module _ (periods : List ℕ) {count at round : ℕ} {walk : Walk} (walking : Walking periods count at round walk) where
  pub reached_none : Reached periods count at round walk 0 walk
  reached_none = record {
    walks = walking.walks;
    on = λ within. omega arith;
    no_earlier = omega arith;
    inside = λ none. walking.within;
    later = λ some. absurd (omega arith);
  }

  module _ {n : ℕ} {r : Walk} (reached : Reached periods count at round walk n r) {x : ℕ}
      (next : x ≡ walk.instant + (n + 1) * get_or periods at 0)
    where
      -- what is taken next
      pub taking_next : {start end : ℕ} → start ≡ last_start periods at x → end ≡ end_from periods at count x
          → Taking periods count at round r x start end
      taking_next last ends = record {
        right = walking.right;
        inside = walking.inside;
        walks = reached.walks;
        next = λ within. omega (arith, reached.on within, next);
        last = last;
        ends = ends;
      }

      pub reached_next : {s : Walk} → Taken periods count at round r x s → Reached periods count at round walk (n + 1) s
      reached_next taken = record {
        walks = taken.walks;
        on = λ within. omega (arith, taken.on within, next);
        no_earlier = omega (arith, reached.no_earlier, taken.no_earlier);
        inside = λ none. absurd (omega arith);
        later = λ some.
            by_cases (dec_lt 0 n) (λ more. omega (arith, reached.later more, taken.no_earlier))
            (λ first.
            let none : n ≡ 0 = omega arith in
            omega (arith, reached.no_earlier, taken.later (reached.inside none)));
      }
