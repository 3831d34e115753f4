-- How the test for a point is put together from the two cases of the periods, for `PublishingTest` and `ReadingTest`.
-- Assumes nothing.
use Prim.Native.Nat.{ℕ, ◌≤◌}
use mathlib.Core.Path.{◌≡◌}
use mathlib.Core.Logic.{⊎_elim, by_cases}
use mathlib.Core.Bool.{Bool, true, ◌&&◌, ◌||◌}
use native.Mathlib.Decide.{dec_le}
use native.Mathlib.Omega.{arith}
use lib.Dec.{leb}
use borrow.Author.Tests.{leb-true, le-leb}
use Rattle.lists.proofs.Bools.{same_test, and_parts, and_of_parts, or_part, or_of_left, or_of_right}

-- from the slower task, whose every release is a point, and the faster one, of which a release has to be near
pub test_of_cases
    : (point released near : Bool) (own other : ℕ)
    → (point ≡ true → released ≡ true)
    → (own ≤ other → point ≡ true → near ≡ true)
    → (other ≤ own → released ≡ true → point ≡ true)
    → (own ≤ other → released ≡ true → near ≡ true → point ≡ true)
    → point ≡ (released && (leb other own || near))
test_of_cases point released near own other is_released is_near slow fast = same_test point _ passes only
  where
    passes : point ≡ true → (released && (leb other own || near)) ≡ true
    passes h =
        and_of_parts released _ (is_released h)
        (by_cases (dec_le other own)
        (λ le. or_of_left (leb other own) near (le-leb other own le))
        (λ more. or_of_right (leb other own) near (is_near (omega arith) h)))

    only : (released && (leb other own || near)) ≡ true → point ≡ true
    only h =
        let parts = and_parts released _ h in
        by_cases (dec_le other own)
        (λ le. slow le parts.0)
        (λ more. ⊎_elim
        (λ le. absurd (more (leb-true other own le)))
        (λ here. fast (omega arith) parts.0 here)
        (or_part (leb other own) near parts.1))
