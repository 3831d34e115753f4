-- The next four instants at which the task publishes: the chain can be followed from each of them. No contract cites this
-- file. Assumes nothing.
use Prim.Native.Nat.{ℕ, zero, suc, ◌+◌, ◌*◌, ◌<◌, ◌≤◌}
use mathlib.Core.Path.{◌≡◌}
use mathlib.Core.List.{List, [], ◌∷◌}
use native.Mathlib.Omega.{arith}
use lib.ListN.{get_or}
use Rattle.following.specs.Following.{PublishedAt, PassesOn}
use Rattle.std.specs.List.{All}
use Rattle.following.proofs.Each.{all_four}
use Rattle.following.proofs.Starts.{published_next}
use Rattle.paths.specs.Walks.{Walking}
use Rattle.path_sums.specs.declared.Walk.{Walk}
use Rattle.paths.proofs.Turns.{published_again, passes_on, near, period_small}

-- the four instants so far apart after one of them
abbrev pub four_after : (x T : ℕ) → List ℕ
four_after x T = (x + T) ∷ (x + T + T) ∷ (x + T + T + T) ∷ (x + T + T + T + T) ∷ []

pub instant_of : (x T i : ℕ) → i < 4 → get_or (four_after x T) i 0 ≡ x + (i + 1) * T
instant_of x T zero inside = omega arith
instant_of x T (suc zero) inside = omega arith
instant_of x T (suc (suc zero)) inside = omega arith
instant_of x T (suc (suc (suc zero))) inside = omega arith
instant_of x T (suc (suc (suc (suc i)))) inside = absurd (omega arith)

module _ (periods : List ℕ) {count at round : ℕ} {walk : Walk} (walking : Walking periods count at round walk) where
  abbrev T : ℕ
  T = get_or periods at 0

  abbrev pub next_four : List ℕ
  next_four = four_after walk.instant T

  soon : walk.instant + T + T + T + T ≤ walk.instant + 4000000
  soon = omega (arith, period_small periods walking)

  pub near_four : walk.instant + T + T + T + T ≤ 32000000
  near_four = near periods walking _ soon

  module _ where
    first : PublishedAt periods at (walk.instant + T)
    first = published_again periods walking

    second : PublishedAt periods at (walk.instant + T + T)
    second = published_next periods first

    third : PublishedAt periods at (walk.instant + T + T + T)
    third = published_next periods second

    fourth : PublishedAt periods at (walk.instant + T + T + T + T)
    fourth = published_next periods third

  pub published_four : All (λ x. PublishedAt periods at x × (x ≤ 32000000)) next_four
  published_four =
      all_four (λ x. PublishedAt periods at x × (x ≤ 32000000)) _ _ _ _ (first, omega (arith, near_four))
      (second, omega (arith, near_four)) (third, omega (arith, near_four)) (fourth, near_four)

  pub four_pass_on : All (λ x. PassesOn periods at count x) next_four
  four_pass_on =
      all_four (λ x. PassesOn periods at count x) _ _ _ _ (passes_on periods walking first (omega (arith, soon)))
      (passes_on periods walking second (omega (arith, soon)))
      (passes_on periods walking third (omega (arith, soon)))
      (passes_on periods walking fourth soon)
