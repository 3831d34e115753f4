-- What the task publishes next is taken, unless the round is over. No contract cites this file. Assumes nothing.
use Prim.Native.Nat.{ℕ, ◌+◌, ◌-◌, ◌<◌, ◌≤◌, ◌^◌}
use mathlib.Core.Path.{◌≡◌, refl, sym, ap, subst, ◌∙◌}
use mathlib.Core.List.{List}
use native.Mathlib.Omega.{arith}
use lib.ListN.{get_or}
use Rattle.following.specs.Following.{last_start, end_from}
use Rattle.path_sums.specs.declared.Walk.{Walk}
use Rattle.path_sums.specs.Sums.{with_path, moved_to}
use Rattle.paths.specs.Walks.{RightChain, Walks, Walking, Taking, Taken}
use Rattle.paths.proofs.PathTurns.{same_end, new_path}
use Rattle.paths.proofs.Turns.{next_instant, next_start, next_end, period_small, no_start, path_fits}

-- the same walk, by other names of its numbers
same_walk : (periods : List ℕ) (count at round : ℕ) (walk : Walk) (i s e i' s' e' : ℕ) → i ≡ i' → s ≡ s' → e ≡ e'
    → Walks periods count at round (moved_to walk i' s' e') → Walks periods count at round (moved_to walk i s e)
same_walk periods count at round walk i s e i' s' e' p q r walks = rw (p, q, r) walks

module _ (periods : List ℕ) {count at round : ℕ} {walk : Walk} {instant start end : ℕ}
    (taking : Taking periods count at round walk instant start end)
  where
    pub round_over : round ≤ walk.start → Taken periods count at round walk instant walk
    round_over over = record {
      walks = taking.walks;
      on = λ within. absurd (omega arith);
      no_earlier = omega arith;
      later = λ within. absurd (omega arith);
    }

    module _ (within : walk.start < round) where
      walking : Walking periods count at round walk
      walking = record {
        right = taking.right;
        inside = taking.inside;
        walks = taking.walks;
        within = within;
      }

      is_next : instant ≡ next_instant periods walking
      is_next = taking.next within

      is_start : start ≡ next_start periods walking
      is_start = taking.last ∙ ap (last_start periods at) is_next

      is_end : end ≡ next_end periods walking
      is_end = taking.ends ∙ ap (end_from periods at count) is_next

      gone_on_lem : (counted : Walk) (s e : ℕ) → Walks periods count at round (moved_to counted instant s e)
          → Taken periods count at round walk instant (moved_to counted instant s e)
      gone_on_lem counted s e walks =
          let longer : walk.instant < instant = omega (arith, is_next, period_small periods walking) in
          record {
            walks = walks;
            on = λ inside. refl;
            no_earlier = omega arith;
            later = λ inside. longer;
          }

      -- no start more
      pub start_kept : start ≡ walk.start
          → Taken periods count at round walk instant (moved_to walk instant start walk.end)
      start_kept same =
          gone_on_lem walk start walk.end
          (same_walk periods count at round walk _ _ _ _ _ _ is_next is_start refl
          (no_start periods walking (sym is_start ∙ same)))

      module _ (other : ¬ (start ≡ walk.start)) where
        other_start : ¬ (next_start periods walking ≡ walk.start)
        other_start same = other (is_start ∙ same)

        -- no later end
        pub end_kept : end ≡ walk.end → Taken periods count at round walk instant (moved_to walk instant start end)
        end_kept same =
            gone_on_lem walk start end
            (same_walk periods count at round walk _ _ _ _ _ _ is_next is_start is_end
            (same_end periods walking other_start (sym is_end ∙ same)))

        pub may_count : (walk.start ≤ walk.end) × (walk.end ≤ end)
            × (get_or periods 0 0 + end + get_or periods (count - 1) 0 < 2 ^ 32) × (walk.paths ≤ 1000000)
        may_count = rw is_end (path_fits periods walking other_start)

        -- a basic path
        abbrev pub counting : ℕ → Walk
        counting next = with_path walk (get_or periods 0 0) (get_or periods (count - 1) 0) next

        pub path_taken : ¬ (end ≡ walk.end)
            → Taken periods count at round walk instant (moved_to (counting end) instant start end)
        path_taken later =
            gone_on_lem (counting end) start end
            (subst (λ e. Walks periods count at round (moved_to (counting e) instant start e)) (sym is_end)
            (same_walk periods count at round (counting (next_end periods walking)) _ _ _ _ _ _ is_next is_start refl
            (new_path periods walking other_start (λ same. later (is_end ∙ same)))))

-- after one instant the next, one period later
pub next_taking : (periods : List ℕ) {count at round : ℕ} {before walk : Walk} {x start end : ℕ}
    → RightChain periods count round → at < count → Taken periods count at round before x walk
    → start ≡ last_start periods at (x + get_or periods at 0) → end ≡ end_from periods at count (x + get_or periods at 0)
    → Taking periods count at round walk (x + get_or periods at 0) start end
next_taking periods {at} right inside taken last ends = record {
  right = right;
  inside = inside;
  walks = taken.walks;
  next = λ within. ap (λ i. i + get_or periods at 0) (sym (taken.on within));
  last = last;
  ends = ends;
}
