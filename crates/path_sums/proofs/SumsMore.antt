-- One path more is counted. No contract cites this file. Assumes nothing.
use Prim.Native.Nat.{ℕ, ◌+◌, ◌-◌, min, max}
use mathlib.Core.Path.{◌≡◌, refl, sym, ap, ◌∙◌}
use mathlib.Core.List.{List, [], ◌∷◌, ◌++◌, map, map-append}
use native.Mathlib.Omega.{arith}
use lib.ListN.{length, length-append, length-map}
use Rattle.ages.specs.Ages.{Chain, first_period, last_period, end_of, length_of, age_at_release, age_of, largest, least}
use Rattle.path_sums.specs.declared.Walk.{Walk}
use Rattle.path_sums.specs.Sums.{Sums, least_with, with_path}

largest_more : (xs : List ℕ) (x : ℕ) → largest (xs ++ x ∷ []) ≡ max (largest xs) x
unfolding largest
largest_more [] x = omega arith
largest_more (y ∷ xs) x = omega (arith, largest_more xs x)

least_of_three : (a b c : ℕ) → min a (min b c) ≡ min (min a b) c
least_of_three a b c = omega arith

least_more : (xs : List ℕ) (x : ℕ) → least (xs ++ x ∷ []) ≡ least_with (length xs) (least xs) x
unfolding least
least_more [] x = refl
least_more (y ∷ []) x = refl
least_more (y ∷ z ∷ more) x = ap (min y) (least_more (z ∷ more) x) ∙ least_of_three y (least (z ∷ more)) x

-- none is counted at first
pub sums_none : (chain : Chain) (instant start end : ℕ)
    → Sums chain [] (record {
      instant = instant;
      start = start;
      end = end;
      paths = 0;
      longest = 0;
      worst = 0;
      best = 0;
    })
unfolding largest least
sums_none chain instant start end = record { paths = refl; longest = refl; worst = refl; best = refl }

module _ (chain : Chain) (found : List ℕ) (walk : Walk) (sums : Sums chain found walk) (next : ℕ)
    (ends : walk.end ≡ end_of chain walk.start)
    (next_ends : end_of chain (walk.start + first_period chain) ≡ next)
  where
    -- its length and its age
    own_length : walk.end - walk.start ≡ length_of chain walk.start
    unfolding length_of
    own_length = rw ends

    own_age : first_period chain + next - walk.start + last_period chain ≡ age_of chain walk.start
    unfolding age_of age_at_release
    own_age = rw next_ends

    pub sums_more : Sums chain (found ++ walk.start ∷ []) (with_path walk (first_period chain) (last_period chain) next)
    sums_more =
        let b = walk.start in
        record {
          paths = omega (arith, sums.paths, length-append found (b ∷ []));
          longest =
              rw (own_length, sums.longest, map-append (length_of chain) found (b ∷ []))
              (sym (largest_more (map (length_of chain) found) (length_of chain b)));
          worst =
              rw (own_age, sums.worst, map-append (age_of chain) found (b ∷ []))
              (sym (largest_more (map (age_of chain) found) (age_of chain b)));
          best =
              rw (
                own_age,
                sums.best,
                sums.paths,
                map-append (age_of chain) found (b ∷ []),
                ← length-map found (age_of chain),
              )
              (sym (least_more (map (age_of chain) found) (age_of chain b)));
        }
